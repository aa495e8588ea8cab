pub mod Calendar
pub mod TypedPieces
pub mod TypedCalls
pub mod TypedReadings
pub mod TypedTerms
