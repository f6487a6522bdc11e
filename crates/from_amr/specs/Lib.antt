pub mod Fields
pub mod Boxes
pub mod File
pub mod Dump
pub mod Chunks
