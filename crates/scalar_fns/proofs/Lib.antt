pub mod Calendar
pub mod CharSteps
pub mod DayOrder
pub mod SmallBytes
