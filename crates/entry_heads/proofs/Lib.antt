pub mod Heading
pub mod Tied
pub mod Coding
