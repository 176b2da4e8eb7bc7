use Rattle.std.proofs.Common.{◌≡◌, Some, sym, ap, ◌∙◌, subst}
use Rattle.std.specs.Prelude.{OnOk}
use Rattle.std.specs.HashMap.{Updates, get}
use Rattle.nz_lin.specs.Forms.{Numbered}
use Rattle.nz_log.specs.declared.atoms.Atom.{Atom}
use Rattle.nz_log.specs.declared.atoms.Atom.TheVariants.{AtMost}
use Rattle.nz_log.specs.Keys.{are_same_atom}
use Rattle.nz_simplex.specs.Moves.{IsJoined}
use Rattle.nz_reals.specs.Arranging.{HasMoved, IsAtZero}
use Rattle.nz_reals.specs.Joins.{AddsForm, IsFree, MayAddSum}
use Rattle.nz_reals.specs.State.{Theory}
use Rattle.nz_reals.specs.Sums.{zero_bound}
use Rattle.nz_reals.proofs.Arranged.{moves_then}
use Rattle.nz_reals.proofs.JoinedForms.{adds_form, key_apart, key_decided, finds_then, form_then, forms_then, tolds_then}
use Rattle.nz_reals.proofs.reals.Reals.join.Goals as goal

pub invariant_of-self-2 : goal.invariant_of-self-2
invariant_of-self-2 c =
    let old : Theory = record { simplex = c.self.inside.simplex; known = c.self.inside.bounded; told = c.self.inside.told.items } in
    let new : Theory = record { simplex = c.add_form.new.self; known = c.self.inside.bounded; told = c.self.inside.told.items } in
    let f = c.args.sum.sides.parts in
    let joined : IsJoined old.simplex new.simplex f c.in-Ok.var = subst (λ (x : Numbered). IsJoined old.simplex new.simplex x.parts c.in-Ok.var) c.form.ensures.form c.in-Ok.ensures.joined in
    let may : MayAddSum old f = subst (λ (t : Theory). MayAddSum t f) (sym c.self.view_is) c.requires.may in
    let free : IsFree old f = subst (λ (t : Theory). IsFree t f) (sym c.self.view_is) c.requires.free in
    let u = subst (λ r. OnOk r (Updates are_same_atom c.reserve.new.self c.insert.new.self (AtMost c.args.sum) (Some c.in-Ok.var))) c.unwrap.ensures c.insert.ensures.updates in
    let same : (a : Atom) → get are_same_atom c.reserve.new.self a ≡ get are_same_atom c.self.inside.forms a = λ a. rw c.in_ok-reserve.ensures.entries in
    let key : AtMost c.args.sum ≡ AtMost (zero_bound f) = ap AtMost c.requires.zero in (
      record {
        forms = forms_then old new f c.in-Ok.var may joined c.self.invariant.0.forms free;
        finds =
            finds_then old new f c.in-Ok.var may joined (get are_same_atom c.self.inside.forms) (get are_same_atom c.insert.new.self) c.self.invariant.0.finds free c.one_number.ensures.one
            (ap (get are_same_atom c.insert.new.self) (sym key) ∙ u.1)
            (λ a other. u.2 a (key_apart (AtMost c.args.sum) a (λ e. other (sym e ∙ key))) ∙ same a)
            (key_decided (AtMost (zero_bound f)));
        tolds = tolds_then old new f c.in-Ok.var may joined (λ i. old.known) (λ i. old.told) c.self.invariant.0.tolds;
      },
      λ known. absurd cc,
    )

pub returns-clause-form : goal.returns-clause-form
returns-clause-form c =
    let old : Theory = record { simplex = c.self.inside.simplex; known = c.self.inside.bounded; told = c.self.inside.told.items } in
    let new : Theory = record { simplex = c.add_form.new.self; known = c.self.inside.bounded; told = c.self.inside.told.items } in
    let f = c.args.sum.sides.parts in
    let joined : IsJoined old.simplex new.simplex f c.in-Ok.var = subst (λ (x : Numbered). IsJoined old.simplex new.simplex x.parts c.in-Ok.var) c.form.ensures.form c.in-Ok.ensures.joined in
    let may : MayAddSum old f = subst (λ (t : Theory). MayAddSum t f) (sym c.self.view_is) c.requires.may in
    form_then old new f c.in-Ok.var may joined c.one_number.ensures.one

pub returns-clause-adds : goal.returns-clause-adds
returns-clause-adds c =
    let old : Theory = record { simplex = c.self.inside.simplex; known = c.self.inside.bounded; told = c.self.inside.told.items } in
    let new : Theory = record { simplex = c.add_form.new.self; known = c.self.inside.bounded; told = c.self.inside.told.items } in
    let f = c.args.sum.sides.parts in
    let joined : IsJoined old.simplex new.simplex f c.in-Ok.var = subst (λ (x : Numbered). IsJoined old.simplex new.simplex x.parts c.in-Ok.var) c.form.ensures.form c.in-Ok.ensures.joined in
    let may : MayAddSum old f = subst (λ (t : Theory). MayAddSum t f) (sym c.self.view_is) c.requires.may in
    subst (λ (t : Theory). AddsForm t new f) c.self.view_is (adds_form old new f c.in-Ok.var may joined (λ i. old.known) (λ i. old.told))

pub returns-clause-moves : goal.returns-clause-moves
returns-clause-moves c =
    let old : Theory = record { simplex = c.self.inside.simplex; known = c.self.inside.bounded; told = c.self.inside.told.items } in
    let new : Theory = record { simplex = c.add_form.new.self; known = c.self.inside.bounded; told = c.self.inside.told.items } in
    let f = c.args.sum.sides.parts in
    let joined : IsJoined old.simplex new.simplex f c.in-Ok.var = subst (λ (x : Numbered). IsJoined old.simplex new.simplex x.parts c.in-Ok.var) c.form.ensures.form c.in-Ok.ensures.joined in
    subst (λ (t : Theory). HasMoved t new IsAtZero) c.self.view_is (moves_then old new f c.in-Ok.var joined)
