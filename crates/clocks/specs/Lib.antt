pub mod Clocks
pub mod Zones
