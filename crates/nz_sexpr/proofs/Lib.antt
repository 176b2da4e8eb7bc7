pub mod FedBytes
pub mod OpenCommands
pub mod PackedTrees
pub mod Quiet
pub mod Runs
pub mod WordTokens
