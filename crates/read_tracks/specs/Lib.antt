pub mod Reads
pub mod Tracks
