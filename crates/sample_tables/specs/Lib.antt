pub mod Tables
pub mod Times
pub mod Sizes
pub mod Runs
pub mod Chunks
pub mod Rules
