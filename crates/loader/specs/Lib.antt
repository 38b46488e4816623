-- The definitions that the contracts of `loader` cite, and their laws.
pub mod Memory
pub mod Ready
pub mod LoadLaws
pub mod WriteLaws
