pub mod Cuts
pub mod Digits
pub mod Lines
pub mod Meaning
pub mod Quotes
pub mod Reaches
pub mod ReadAs
pub mod Scanning
