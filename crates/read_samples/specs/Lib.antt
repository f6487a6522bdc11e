pub mod Reads
pub mod Stands
