pub mod Lengths
pub mod Parts
pub mod Trees
pub mod Reading
pub mod Texts
