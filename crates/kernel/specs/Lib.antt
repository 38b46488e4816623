-- The definitions that the contracts of `kernel` cite, and their laws.
pub mod Kernel
pub mod KernelLaws
pub mod Checks
pub mod ChecksLaws
pub mod Judge
