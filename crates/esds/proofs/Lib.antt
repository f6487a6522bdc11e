pub mod Values
pub mod Opening
pub mod Reading
pub mod Texts
pub mod Back
pub mod Trees
pub mod Trips
