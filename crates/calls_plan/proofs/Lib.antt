pub mod PlanLaws
pub mod PlainLaws
