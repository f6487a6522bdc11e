pub mod Fields
pub mod Texts
pub mod Records
