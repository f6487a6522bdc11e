pub mod Five
pub mod Nine
