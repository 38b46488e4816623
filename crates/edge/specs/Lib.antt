-- The definitions that the contracts of `edge` cite, and their laws.
pub mod Edge
pub mod EdgeLaws
pub mod PassLaws
