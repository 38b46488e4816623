-- The definitions that the contracts of `review` cite.
pub mod Review
