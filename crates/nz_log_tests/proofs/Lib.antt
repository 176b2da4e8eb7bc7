pub mod MultipleSums
pub mod Multiples
pub mod RowNumbers
