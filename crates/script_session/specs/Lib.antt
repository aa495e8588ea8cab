pub mod ReadScript
pub mod FaultLines
pub mod RunRecord
pub mod Answer
pub mod Outcome
pub mod Laws
