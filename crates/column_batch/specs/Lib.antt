pub mod BatchLaws
pub mod Batches
