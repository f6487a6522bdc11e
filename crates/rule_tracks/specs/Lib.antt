pub mod Six
pub mod Seven
pub mod Eight
pub mod Asked
