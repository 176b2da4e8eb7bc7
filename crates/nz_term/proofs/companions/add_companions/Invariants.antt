use Rattle.nz_term.proofs.AddedCompanions.{AreAdded}
use Rattle.nz_term.proofs.companions.add_companions.Given as goal

abbrev pub invariant-loop-id : goal.invariant-loop-id
invariant-loop-id l = AreAdded l.fn.terms l.terms l.from l.id
