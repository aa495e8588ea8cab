pub mod Filtered
pub mod Projected
pub mod Tested
pub mod Transposed
