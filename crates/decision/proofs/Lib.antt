-- Laws of decisions that a wrong version of a definition breaks.
pub mod PlanLaws
