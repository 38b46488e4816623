-- The definitions that the contracts of `viertompu` cite, and their laws.
pub mod Words
pub mod MendWords
pub mod Joined
pub mod JoinedLaws
