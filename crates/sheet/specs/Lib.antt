pub mod Sheet
pub mod Fits
pub mod Reader
