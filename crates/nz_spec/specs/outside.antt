pub mod Error
pub mod Outside
