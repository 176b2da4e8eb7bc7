pub mod Live
pub mod TermList
