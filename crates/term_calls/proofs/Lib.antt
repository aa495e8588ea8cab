pub mod Choices
pub mod Collected
