pub mod Assumed
pub mod Completed
pub mod Desk
pub mod Serve
pub mod Told
pub mod Undecided
pub mod Valued
