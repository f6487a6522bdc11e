pub mod Kinds
pub mod Heads
