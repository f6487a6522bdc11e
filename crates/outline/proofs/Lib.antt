pub mod Printing
pub mod Rounds
pub mod Top
pub mod Unbroken
pub mod Among
pub mod Room
pub mod Examples
