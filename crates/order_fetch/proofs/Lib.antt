pub mod Gathering
pub mod Fetching
pub mod Tested
