pub mod Samples
pub mod Walks
