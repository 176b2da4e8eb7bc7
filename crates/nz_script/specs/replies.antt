pub mod Reply
pub mod Right
