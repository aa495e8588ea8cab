pub mod GroupLaws
pub mod Groups
