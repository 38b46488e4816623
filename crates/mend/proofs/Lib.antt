-- What the proofs of this crate's functions share.
pub mod FindLaws
pub mod MagicLaws
pub mod MendLaws
pub mod PromisesLaws
