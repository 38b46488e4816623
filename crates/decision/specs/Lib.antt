-- The definitions that the contracts of `decision` cite, and their laws. `Decision` is where to start: the order of checks.
pub mod Decision
pub mod Lent
pub mod Read
pub mod Plan
pub mod Decided
pub mod PlacedLaws
pub mod StageLaws
pub mod DecisionLaws
