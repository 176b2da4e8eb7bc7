use Rattle.std.proofs.Common.{◌≡◌, drop}
use Rattle.std.specs.Prelude.{fold}
use Rattle.nz_spec.specs.clauses.Literal.{with_one, without}
use Rattle.nz_log.specs.Lits.{are_same_lit}
use Rattle.nz_log.proofs.resolvent.Resolvent.add_others.Given as goal

-- the set, with those that are left, is what is wanted
abbrev pub invariant-loop-literal : goal.invariant-loop-literal
invariant-loop-literal l =
    fold (with_one are_same_lit) l.self (without are_same_lit l.but (drop l.literal-index l.literals))
    ≡ fold (with_one are_same_lit) l.fn.self (without are_same_lit l.but l.literals)
