pub mod Heads
pub mod Lists
pub mod Names
pub mod Requests
pub mod View
