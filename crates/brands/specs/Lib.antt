pub mod Brands
pub mod Own
pub mod Calls
