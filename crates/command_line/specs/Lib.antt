-- The definitions that the contracts of `command_line` cite, and their laws.
pub mod LineInForce
pub mod CommandLine
pub mod CommandLineLaws
