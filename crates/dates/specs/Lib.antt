pub mod Calendar
pub mod Dates
pub mod DateText
