pub mod Unfinished
pub mod Salvage
pub mod Found
