pub mod Shape
pub mod Needs
pub mod Keeping
pub mod Descent
