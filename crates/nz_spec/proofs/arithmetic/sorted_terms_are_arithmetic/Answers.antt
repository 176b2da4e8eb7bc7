-- The law, as it is proved over plain data.
use Rattle.nz_spec.proofs.SortedArithmetic as laws
use Rattle.nz_spec.proofs.arithmetic.sorted_terms_are_arithmetic.Goals as goal

pub returns : goal.returns
returns c = record { arithmetic = laws.sorted_terms_are_arithmetic }
