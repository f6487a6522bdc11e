pub mod Ticks
pub mod Clocks
pub mod Walks
pub mod Steps
