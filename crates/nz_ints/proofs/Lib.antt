pub mod Divisors
pub mod FloorDivision
pub mod Multiples
pub mod Products
pub mod Ring
pub mod Sizes
