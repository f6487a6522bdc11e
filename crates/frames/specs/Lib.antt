pub mod Codecs
pub mod Frames
pub mod Modes
