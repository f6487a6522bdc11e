pub mod Lines
pub mod Outline
pub mod Said
