pub mod Moving
pub mod Arrange
