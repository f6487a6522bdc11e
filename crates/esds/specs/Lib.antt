pub mod Values
pub mod Texts
pub mod Calls
pub mod Trips
