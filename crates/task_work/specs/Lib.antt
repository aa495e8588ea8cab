pub mod Rows
pub mod Sites
pub mod Work
pub mod Examples
