pub mod Columns
pub mod Days
pub mod Digits
pub mod Each
pub mod NextRecords
pub mod Rows
pub mod Tables
