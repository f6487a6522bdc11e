pub mod Forms
pub mod Totals
pub mod Urls
pub mod Rules
pub mod Keeping
