pub mod Example
pub mod Forms
pub mod Marked
pub mod Runs
pub mod Demand
pub mod Worked
