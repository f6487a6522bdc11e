pub mod Answering
pub mod Returning
