pub mod Fields
pub mod Readers
pub mod Records
pub mod Steps
pub mod Typed
