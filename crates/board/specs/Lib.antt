-- The definitions that the contracts of `board` cite, and their laws.
pub mod Open
pub mod OpenEdge
pub mod Window
