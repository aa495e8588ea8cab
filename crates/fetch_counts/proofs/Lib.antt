pub mod Counted
pub mod Roomy
