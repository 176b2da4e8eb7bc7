pub mod clauses
pub mod laws
pub mod numbers
pub mod outside
pub mod search
pub mod simplex
pub mod terms
pub mod worked
