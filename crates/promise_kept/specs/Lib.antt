pub mod Samples
pub mod Follows
pub mod Kept
pub mod Edits
