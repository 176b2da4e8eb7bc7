use Rattle.std.proofs.Common.{◌≡◌, take}
use Rattle.nz_log.specs.Axioms.{negated_lits}
use Rattle.nz_log.proofs.sums.negations.Given as goal

-- the negations so far
abbrev pub invariant-loop-multiple : goal.invariant-loop-multiple
invariant-loop-multiple l = l.literals.items ≡ negated_lits (take l.multiple-index l.multiples)
