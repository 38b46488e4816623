pub mod CheckLaws
pub mod FirstLaws
pub mod HowManyLaws
pub mod PassingLaws
pub mod TableLaws
pub mod TestLaws
