-- What is prepared stands over the clauses that are left.
use Rattle.std.proofs.Common.{List, refl, subst, sym}
use Rattle.std.specs.Prelude.{Contains}
use Rattle.nz_sat.specs.declared.clauses.Held.{Held}
use Rattle.nz_engine.specs.Keeping.{KeepsClauses}
use Rattle.nz_engine.specs.Preparing.{IsPrepared, PreparedState}
use Rattle.nz_engine.proofs.ExclusionClauses.{prepared_in}
use Rattle.nz_engine.proofs.ShedClauses.{few_stay, shed_prepared}
use Rattle.nz_engine.proofs.prepared.Prepared.shed.Goals as goal

pub returns-in-Some-clause-stands : goal.returns-in-Some-clause-stands
returns-in-Some-clause-stands c ns levels roots h =
    shed_prepared ns levels roots (prepared_in c.self.inside) c.in-Some.middle 2 (subst (IsPrepared ns levels roots) (sym c.self.view_is) h) c.shed.new.self c.shed.ensures.clauses c.shed.ensures.seen

pub returns-in-Some-clause-keeps : goal.returns-in-Some-clause-keeps
returns-in-Some-clause-keeps c =
    let old = prepared_in c.self.inside in
    let new : PreparedState = record old { sat = c.shed.new.self } in
    let keeps : KeepsClauses old new = record {
      log = record { clauses = λ i live. refl; atoms = λ i a at. at };
      held = λ h has lasts. subst (λ (hs : List Held). Contains hs h) (sym c.shed.ensures.clauses) (few_stay c.in-Some.middle 2 old.sat.clauses h lasts has);
    } in
    subst (λ (p : PreparedState). KeepsClauses p new) c.self.view_is keeps
