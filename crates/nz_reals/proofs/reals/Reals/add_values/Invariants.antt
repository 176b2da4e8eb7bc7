use Rattle.nz_reals.specs.Chosen.{PutsFirst}
use Rattle.nz_reals.proofs.reals.Reals.add_values.Given as goal

abbrev pub invariant-loop-var : goal.invariant-loop-var
invariant-loop-var l = record { puts : PutsFirst l.self l.terms l.is_listed l.delta l.var l.fn.values l.values }
