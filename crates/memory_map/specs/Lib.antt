-- The definitions that the contracts of `memory_map` cite, and their laws.
pub mod Pairs
pub mod GoodMap
pub mod Map
pub mod PairsLaws
pub mod Parse
