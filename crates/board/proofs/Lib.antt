pub mod OpenEdgeLaws
pub mod OpenLaws
pub mod WindowLaws
