pub mod Runs
pub mod Examples
pub mod OneAnswer
pub mod Stepping
