pub mod Made
pub mod Salvaged
