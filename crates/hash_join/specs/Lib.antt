pub mod Matches
pub mod Windows
pub mod Given
pub mod Parts
