pub mod Counting
pub mod Holding
