pub mod EachSome
pub mod Readings
pub mod Options
pub mod SaidWords
pub mod CommandSteps
