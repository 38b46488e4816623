pub mod CountLaws
pub mod ModelLaws
pub mod RunLaws
pub mod TableLaws
pub mod WalkLaws
