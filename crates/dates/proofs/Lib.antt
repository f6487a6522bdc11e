pub mod Spans
pub mod Years
pub mod Dates
pub mod Examples
