-- The definitions that the contracts of `block` cite, and their laws.
pub mod TextSize
pub mod Block
pub mod TextLaws
pub mod Reading
pub mod BlockLaws
pub mod Writing
pub mod WritingLaws
