pub mod Tests
pub mod Numbers
pub mod Sums
pub mod Writing
pub mod Text
pub mod Clauses
