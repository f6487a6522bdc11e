pub mod Asking
pub mod Passing
pub mod OnePass
pub mod Meaning
pub mod Answering
