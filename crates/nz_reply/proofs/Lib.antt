pub mod Arguments
pub mod JournalPreservation
pub mod Models
pub mod Pairs
pub mod Quotes
pub mod Spaces
pub mod TextPieces
