pub mod Differs
pub mod Times
pub mod OneEntry
