pub mod Accepted
pub mod Reading
