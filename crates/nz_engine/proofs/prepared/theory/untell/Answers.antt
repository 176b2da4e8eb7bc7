-- Nothing that was told is left.
use Rattle.std.proofs.Common.{refl, sym, subst, arith}
use Rattle.nz_reals.specs.Stands.{IsAt, IsOf}
use Rattle.nz_reals.specs.State.{Theory, told_lits}
use Rattle.nz_sat.specs.Sats.{SatState}
use Rattle.nz_engine.proofs.prepared.theory.untell.Goals as goal

pub returns-clause-untold : goal.returns-clause-untold
returns-clause-untold c = c.undo.ensures.told (told_lits c.sat.inside.theory) refl (omega arith)

pub returns-clause-of : goal.returns-clause-of
returns-clause-of c = λ atoms ids h. c.undo.ensures.of atoms ids (subst (λ (s : SatState Theory). IsOf s.theory atoms ids) (sym c.sat.view_is) h)

pub returns-clause-at : goal.returns-clause-at
returns-clause-at c = λ ns fs ls x h. c.undo.ensures.at ns fs ls x (subst (λ (s : SatState Theory). IsAt s.theory ns fs ls x) (sym c.sat.view_is) h) (omega arith)
