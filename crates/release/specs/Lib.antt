pub mod Compatible
pub mod Releases
