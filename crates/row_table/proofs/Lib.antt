pub mod Different
pub mod Rows
pub mod Same
pub mod Sorting
pub mod Stable
