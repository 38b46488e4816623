-- The definitions that the contracts of `mend` cite, what they promise, and their laws.
pub mod Mend
pub mod Mending
pub mod Promises
