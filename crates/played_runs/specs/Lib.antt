pub mod Hands
pub mod Examples
