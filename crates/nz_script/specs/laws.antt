pub mod BooleanChecks
pub mod Sorts
