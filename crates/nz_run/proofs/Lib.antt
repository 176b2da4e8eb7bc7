pub mod Endings
pub mod ReadOutcomes
pub mod Statuses
pub mod Units
