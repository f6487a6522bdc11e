pub mod Sample
pub mod Track
