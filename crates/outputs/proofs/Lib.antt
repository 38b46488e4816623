pub mod MendOutputsLaws
pub mod OutputsLaws
