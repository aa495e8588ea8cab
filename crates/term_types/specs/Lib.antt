pub mod Collecting
pub mod Parts
pub mod Terms
pub mod TermLaws
