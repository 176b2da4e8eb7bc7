pub mod Comparisons
pub mod GateRows
pub mod Meanings
pub mod Opposites
pub mod Rows
