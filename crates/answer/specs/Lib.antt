-- The definitions that the contracts of `answer` cite, and laws of chains of answers.
pub mod Answer
pub mod AnswerLaws
pub mod Chain
pub mod ChainLaws
