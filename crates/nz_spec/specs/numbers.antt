pub mod Computation
pub mod Infinitesimal
