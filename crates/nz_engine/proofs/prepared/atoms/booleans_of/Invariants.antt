-- The Boolean ones of the terms so far.
use Rattle.std.proofs.Common.{◌≡◌, take}
use Rattle.nz_engine.specs.Preparing.{boolean_terms}
use Rattle.nz_engine.proofs.prepared.atoms.booleans_of.Given as goal

abbrev pub invariant-loop-term : goal.invariant-loop-term
invariant-loop-term l = l.booleans.items ≡ boolean_terms l.terms (take l.term-index l.covered)
