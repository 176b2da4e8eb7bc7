pub mod CombinedValues
pub mod Comparisons
pub mod IntegerDivision
pub mod OperationSequences
pub mod TermOutcomes
