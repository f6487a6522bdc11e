pub mod Clocks
pub mod Walks
