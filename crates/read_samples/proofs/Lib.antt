pub mod Tables
pub mod Standing
pub mod Turns
pub mod Numbers
pub mod Counting
pub mod Holder
