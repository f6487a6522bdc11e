pub mod Answers
pub mod Kept
pub mod Chunks
pub mod KeptEight
pub mod Chunked
pub mod Asked
pub mod Bounded
