pub mod Bounds
pub mod Pairs
pub mod Stored
