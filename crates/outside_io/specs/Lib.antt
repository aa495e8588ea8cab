pub mod Counts
pub mod Memory
pub mod MemoryCalls
pub mod Outside
