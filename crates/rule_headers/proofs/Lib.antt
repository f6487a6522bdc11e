pub mod Fresh
pub mod Rule4
pub mod Bounded
