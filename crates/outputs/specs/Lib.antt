-- What the exported words and the printed text say, and the proofs. `Outputs` is where to start, and `MendOutputs` for a mend.
pub mod Outputs
pub mod MendOutputs
