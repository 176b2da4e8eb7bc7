pub mod Entries
pub mod Errors
