pub mod One
pub mod Judgement
pub mod Tracks
pub mod Calls
pub mod Acceptance
pub mod Asked
pub mod Refusal
