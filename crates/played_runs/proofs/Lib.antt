pub mod Spared
pub mod Tested
