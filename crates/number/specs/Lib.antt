-- The definitions that the contracts of `number` cite, and their laws.
pub mod Number
pub mod NumberLaws
