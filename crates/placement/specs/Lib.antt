-- The definitions that the contracts of `placement` cite, and their laws. `Placing` is where to start: what placing promises.
pub mod Placing
pub mod InOrder
pub mod Free
pub mod FreeEdge
pub mod Lowest
pub mod Order
pub mod Ready
