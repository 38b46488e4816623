-- The definitions that the contracts of `submission` cite, and their laws.
pub mod Format
pub mod FormatLaws
pub mod Layout
pub mod Scan
pub mod ScanLaws
pub mod Rules
pub mod GoodSubmission
pub mod RuleLaws
pub mod Parse
