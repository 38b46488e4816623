-- The definitions that the contracts of `image` cite, and their laws.
pub mod Load
pub mod Narrow
pub mod Judged
pub mod LoadLaws
pub mod Calculated
pub mod JudgedLaws
pub mod Judge
