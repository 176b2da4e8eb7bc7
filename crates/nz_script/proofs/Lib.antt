pub mod Arguments
mod BooleanChecks
pub mod ByteClasses
pub mod Examples
pub mod ExpansionSorts
pub mod LinearNames
mod Listed
pub mod OverConstants
pub mod Pieces
pub mod Placed
pub mod ReadOperands
pub mod Readings
pub mod Roots
pub mod Scripts
pub mod SortedStates
pub mod SortedTerms
pub mod ToldTexts
pub mod Transcripts
mod WorkedBooleans
pub mod WrittenTerms
