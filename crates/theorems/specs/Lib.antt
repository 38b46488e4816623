-- What is promised, and that it holds. `Promises` is where to start.
pub mod Promises
