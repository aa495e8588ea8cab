pub mod DayLaws
pub mod Days
pub mod Texts
pub mod Written
