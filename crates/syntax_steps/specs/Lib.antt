pub mod Rules
pub mod Levels
pub mod Machine
