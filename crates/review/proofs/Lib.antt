pub mod ReviewLaws
