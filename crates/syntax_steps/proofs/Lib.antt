pub mod Basics
pub mod Settles
pub mod Kept
