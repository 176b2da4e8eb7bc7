mod Added
mod CoveragePreservation
mod CoveredTerms
mod Kept
pub mod Levels
mod Listed
mod ListedBounds
mod Parts
mod PartsCovered
mod PartsPut
mod RowClauses
mod RowNames
mod RowsPut
mod Sizes
mod TableClauses
mod TableRows
mod Underway
