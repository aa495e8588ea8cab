pub mod Numbered
pub mod Chained
pub mod Tested
