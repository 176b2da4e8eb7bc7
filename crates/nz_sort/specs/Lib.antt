pub mod Acts
pub mod Assuming
pub mod Changes
pub mod Found
pub mod Items
pub mod Layers
pub mod Live
