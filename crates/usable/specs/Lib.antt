-- The definitions that the contracts of `usable` cite, and their laws.
pub mod UsableAddress
pub mod Usable
pub mod MapEdge
pub mod Sizes
