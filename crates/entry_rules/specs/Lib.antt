pub mod Decoders
pub mod Entries
