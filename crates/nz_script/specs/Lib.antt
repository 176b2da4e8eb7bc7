pub mod commands
pub mod laws
pub mod live
pub mod replies
pub mod run
pub mod text
pub mod worked
