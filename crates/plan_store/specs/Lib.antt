pub mod Told
pub mod Queues
pub mod Beginning
pub mod Openings
pub mod Shares
pub mod Putting
pub mod Taking
