use Rattle.std.proofs.Common.{◌≡◌, drop}
use Rattle.std.specs.Prelude.{fold}
use Rattle.nz_spec.specs.clauses.Literal.{once, with_one}
use Rattle.nz_log.specs.Lits.{are_same_lit}
use Rattle.nz_log.proofs.sets.set_of.Given as goal

-- the set, with those that are left, is that of all
abbrev pub invariant-loop-literal : goal.invariant-loop-literal
invariant-loop-literal l = fold (with_one are_same_lit) l.set.items (drop l.literal-index l.literals) ≡ once are_same_lit l.literals
