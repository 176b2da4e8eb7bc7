pub mod DeltaSpace
pub mod FractionSpace
pub mod Operations
pub mod Pairs
pub mod Refused
pub mod Space
