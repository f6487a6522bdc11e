pub mod All
pub mod Track
pub mod Tracks
