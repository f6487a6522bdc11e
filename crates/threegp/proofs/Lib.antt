pub mod Packing
pub mod Exactly
pub mod Telling
