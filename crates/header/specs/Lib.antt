-- The definitions that the contracts of `header` cite, and their laws.
pub mod Header
pub mod FalseHeader
pub mod HeaderAt
