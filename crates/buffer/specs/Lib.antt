-- The definitions that the contracts of `memory` cite, and their laws.
pub mod Patched
pub mod PatchedLaws
pub mod Writes
pub mod WritesLaws
