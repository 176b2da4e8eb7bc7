pub mod Hashed
pub mod Operations
pub mod Parts
