pub mod Asking
pub mod Answering
pub mod Parts
