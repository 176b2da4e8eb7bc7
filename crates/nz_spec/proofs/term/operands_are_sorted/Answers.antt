-- The law, as it is proved over plain data.
use Rattle.nz_spec.proofs.OperandSorts as laws
use Rattle.nz_spec.proofs.term.operands_are_sorted.Goals as goal

pub returns : goal.returns
returns c = record { sorted = laws.operands_are }
