-- Worked examples as one statement over one table. `Table` is where to start.
pub mod Table
