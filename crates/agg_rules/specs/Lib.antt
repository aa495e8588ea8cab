pub mod Aggregates
pub mod Lists
pub mod Running
pub mod Windows
