pub mod Two
pub mod Three
pub mod TwentyThree
