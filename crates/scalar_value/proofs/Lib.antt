pub mod Ranges
pub mod Division
pub mod Digits
pub mod Rounding
