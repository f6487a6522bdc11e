pub mod Close
pub mod Settle
