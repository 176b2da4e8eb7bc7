pub mod Arities
pub mod Formed
pub mod LinearArguments
pub mod Operations
pub mod RowLists
