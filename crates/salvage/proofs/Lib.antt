pub mod Fronts
pub mod Keeping
pub mod Answers
pub mod Saving
pub mod Examples
