-- Definitions over tests, and their laws, for the other crates' specifications.
pub mod Tests
pub mod Passing
pub mod HowMany
pub mod First
pub mod Checks
pub mod Table
