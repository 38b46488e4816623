-- What the proofs of this crate's functions share.
pub mod TakenLaws
pub mod FreeEdgeLaws
pub mod FreeLaws
pub mod LowestLaws
pub mod OrderLaws
pub mod PlacingLaws
pub mod StepLaws
pub mod WalkLaws
