pub mod Columns
pub mod Selectors
