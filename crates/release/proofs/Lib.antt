pub mod Listing
pub mod Releases
