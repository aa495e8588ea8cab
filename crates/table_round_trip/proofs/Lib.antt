pub mod EachDay
pub mod DayTexts
pub mod DecTexts
pub mod Values
pub mod Headings
pub mod Files
pub mod Tables
