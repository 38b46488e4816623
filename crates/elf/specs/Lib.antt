-- The definitions that the contracts of `elf` cite, and their laws.
pub mod Elf
pub mod Segments
pub mod Checks
pub mod Read
pub mod GoodElf
pub mod Tabled
pub mod SegmentsLaws
pub mod ElfLaws
