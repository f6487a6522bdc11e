pub mod Payloads
pub mod Relocate
pub mod Rules
pub mod Samples
pub mod Search
