pub mod Judged
pub mod Listed
pub mod Examples
