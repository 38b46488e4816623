-- What the proofs of several functions cite.
pub mod TurnLaws
pub mod FalseHeaderLaws
pub mod HeaderLaws
pub mod RoomLaws
pub mod SearchLaws
pub mod WalkLaws
