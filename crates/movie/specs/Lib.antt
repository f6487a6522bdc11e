pub mod Ways
pub mod Movie
pub mod Stsds
pub mod Entries
pub mod Named
