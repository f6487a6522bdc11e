pub mod Modes
pub mod Judging
pub mod Speech
pub mod Picture
pub mod Replacing
pub mod Kept
pub mod Widening
