pub mod CheckLaws
pub mod Checks
pub mod Steps
pub mod Working
