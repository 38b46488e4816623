-- What the proofs of this crate's functions share.
pub mod ScanLaws
pub mod TurnLaws
pub mod ParseLaws
