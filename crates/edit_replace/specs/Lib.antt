pub mod Replace
pub mod Places
pub mod Fitting
