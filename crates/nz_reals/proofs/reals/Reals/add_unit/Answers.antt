use Rattle.std.proofs.Common.{◌≡◌, inr, List, sym, subst}
use Rattle.std.specs.HashMap.{get}
use Rattle.nz_spec.specs.terms.Table.{Node}
use Rattle.nz_lin.specs.declared.form.Part.{Part}
use Rattle.nz_lin.specs.Forms.{AreUnits}
use Rattle.nz_log.specs.Keys.{are_same_atom}
use Rattle.nz_simplex.specs.Moves.{IsJoined, joined_over}
use Rattle.nz_simplex.specs.State.{position_over}
use Rattle.nz_tab.specs.Units.{unit_of}
use Rattle.nz_reals.specs.Arranging.{MayHaveJoined}
use Rattle.nz_reals.specs.Joins.{MayAddSum}
use Rattle.nz_reals.specs.Stands.{IsOver}
use Rattle.nz_reals.specs.State.{Theory}
use Rattle.nz_reals.proofs.Arranged.{joined_alone, stored_alone, unit_is}
use Rattle.nz_reals.proofs.reals.Reals.add_unit.Goals as goal

pub invariant_of-self : goal.invariant_of-self
invariant_of-self c =
    let old : Theory = record { simplex = c.self.inside.simplex; known = c.self.inside.bounded; told = c.self.inside.told.items } in
    let new : Theory = record { simplex = c.add_form.new.self; known = c.self.inside.bounded; told = c.self.inside.told.items } in
    let p = c.args.part in
    let may : MayAddSum old (unit_of p) = subst (λ (t : Theory). MayAddSum t (unit_of p)) (sym c.self.view_is) c.requires.may in
    let is = unit_is c.one_number.ensures.one may.table may.over.table p c.in_ok-form.form c.whole.result c.whole.ensures may.units c.in_ok-form.ensures.form c.in_ok-form.ensures.units in
    let joined : IsJoined old.simplex new.simplex (unit_of p) c.in-Ok.var = subst (λ (f : List Part). IsJoined old.simplex new.simplex f c.in-Ok.var) is c.in-Ok.ensures.joined in
    (stored_alone old new p c.in-Ok.var may joined (λ i. old.known) (λ i. old.told) (get are_same_atom c.self.inside.forms) c.self.invariant.0, λ known. absurd cc)

pub returns-in-Ok : goal.returns-in-Ok
returns-in-Ok c =
    let old : Theory = record { simplex = c.self.inside.simplex; known = c.self.inside.bounded; told = c.self.inside.told.items } in
    let new : Theory = record { simplex = c.add_form.new.self; known = c.self.inside.bounded; told = c.self.inside.told.items } in
    let p = c.args.part in
    let may : MayAddSum old (unit_of p) = subst (λ (t : Theory). MayAddSum t (unit_of p)) (sym c.self.view_is) c.requires.may in
    let is = unit_is c.one_number.ensures.one may.table may.over.table p c.in_ok-form.form c.whole.result c.whole.ensures may.units c.in_ok-form.ensures.form c.in_ok-form.ensures.units in
    let joined : IsJoined old.simplex new.simplex (unit_of p) c.in-Ok.var = subst (λ (f : List Part). IsJoined old.simplex new.simplex f c.in-Ok.var) is c.in-Ok.ensures.joined in
    let position = subst (λ (f : List Part). (ns : List Node) → IsOver old ns → AreUnits ns f → position_over ns new.simplex ≡ joined_over ns old.simplex f) is c.in-Ok.ensures.position in
    record { joined = subst (λ (t : Theory). MayHaveJoined t new (unit_of p)) c.self.view_is (inr (joined_alone old new p c.in-Ok.var may joined (λ i. old.known) (λ i. old.told) position)) }
