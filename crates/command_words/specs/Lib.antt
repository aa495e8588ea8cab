pub mod Steps
pub mod Names
pub mod Tables
pub mod Command
pub mod Settings
pub mod Reading
