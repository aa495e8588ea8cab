pub mod Workers
pub mod Rests
pub mod Given
