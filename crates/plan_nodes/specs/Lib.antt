pub mod Operators
pub mod KindRows
pub mod KindTypes
pub mod Kinds
pub mod Plans
pub mod PlanLaws
pub mod Examples
