pub mod Joined
pub mod Gathered
pub mod OfKind
pub mod Budgets
pub mod NodeByNode
pub mod Tested
