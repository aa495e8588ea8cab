pub mod Fitting
pub mod Sameness
pub mod Steps
