-- The definitions that the contracts of `items` cite, and their laws.
pub mod LoadItems
pub mod LoadItemsLaws
