-- The definitions that the contracts of `report` cite, and their laws. `Report` is where to start.
pub mod Report
pub mod Text
pub mod TextLaws
pub mod Adds
pub mod AddsLaws
pub mod ReportLaws
