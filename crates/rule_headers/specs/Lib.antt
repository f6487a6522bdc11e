pub mod Forms
pub mod Identities
pub mod Four
