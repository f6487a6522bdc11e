pub mod Shift
pub mod Amount
