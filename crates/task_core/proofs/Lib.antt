pub mod Fronts
pub mod Choices
pub mod Stops
pub mod Delivered
