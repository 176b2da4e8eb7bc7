pub mod Bounds
pub mod Reading
pub mod Text
pub mod Told
pub mod ToldAs
pub mod Tree
