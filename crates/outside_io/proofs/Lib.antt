pub mod Fronts
pub mod NamedFiles
pub mod Taking
