pub mod Checking
pub mod Engines
pub mod Joining
pub mod Keeping
pub mod Levels
pub mod Lists
pub mod Preparing
pub mod SearchLaws
