-- The definitions that the contracts of `address` cite, and their laws.
pub mod Span
pub mod Address
pub mod RoundLaws
pub mod InsideLaws
