pub mod Whys
pub mod Bits
pub mod Described
pub mod Failings
pub mod Found
pub mod First
