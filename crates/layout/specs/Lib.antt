pub mod Slots
pub mod Track
pub mod Tracks
pub mod Every
pub mod Entries
