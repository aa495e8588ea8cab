pub mod PlanTexts
pub mod Reports
pub mod Spaced
