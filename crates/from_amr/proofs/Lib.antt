pub mod Writing
pub mod Sizing
pub mod Lengths
pub mod Headers
pub mod Dumping
pub mod Opening
pub mod Examples
