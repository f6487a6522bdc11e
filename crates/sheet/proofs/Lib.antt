pub mod Editions
pub mod Slots
pub mod Writing
pub mod Bodies
pub mod Accepted
pub mod Examples
