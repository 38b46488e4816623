pub mod AnsweredLaws
pub mod CountedLaws
pub mod PlacingLaws
pub mod PromisesLaws
pub mod ReadBackLaws
pub mod SizeLaws
pub mod WrittenLaws
