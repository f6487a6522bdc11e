pub mod Signed
pub mod Whole
