pub mod Outcomes
pub mod Relations
