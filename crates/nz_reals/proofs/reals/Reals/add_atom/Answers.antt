use Rattle.std.proofs.Common.{rules, ◌≡◌, ◌<◌, ℕ, Some, Err, length, map, sym, ap, ◌∙◌, subst}
use Rattle.std.specs.Prelude.{slice_get, ⊤}
use Rattle.std.proofs.lemmas.Option.{slice_get_within}
use Rattle.nz_search.specs.declared.stop.Stop.TheVariants.{Memory}
use Rattle.nz_reals.specs.Joins.{EndsJoining}
use Rattle.nz_simplex.specs.State as simplex
use Rattle.nz_simplex.specs.State.{State}
use Rattle.nz_reals.specs.declared.reals.MarkedLiteral.{MarkedLiteral}
use Rattle.nz_reals.specs.Known.{known_of}
use Rattle.nz_reals.specs.Stands.{IsAt}
use Rattle.nz_reals.proofs.AddedAtoms.{learned, may_add, named_sum, normal_at, of_added, of_term, sum_units}
use Rattle.nz_reals.proofs.WorkAfterJoins.{ends_err, known_more_at, stands_legal}
use Rattle.nz_reals.proofs.reals.Reals.add_atom.Goals as goal

pub returns-in_default-clause-of : goal.returns-in_default-clause-of
returns-in_default-clause-of c = λ ids of. of_term c.args.self.now c.args.log.now.atoms ids c.args.id c.atom.result.now _ of c.atom.ensures.atom c.in_default.is

pub form_for-requires-clause-may : goal.form_for-requires-clause-may
form_for-requires-clause-may c =
    let l = learned c.args.self.now c.args.log.now.atoms c.args.id c.atom.result.now c.in-AtMost.bound c.in_ok-sum.sum c.requires.atom c.atom.ensures.atom c.in-AtMost.is c.in_ok-sum.ensures.zeroed in
    may_add c.args.self.now c.in-AtMost.bound c.in_ok-sum.sum l.may l.is

pub returns-in_err-var-clause-over : goal.returns-in_err-var-clause-over
returns-in_err-var-clause-over c = λ ns lit over.
    let l = learned c.args.self.now c.args.log.now.atoms c.args.id c.atom.result.now c.in-AtMost.bound c.in_ok-sum.sum c.requires.atom c.atom.ensures.atom c.in-AtMost.is c.in_ok-sum.ensures.zeroed in
    let units = sum_units ns c.args.log.now.atoms c.args.id c.in-AtMost.bound c.in_ok-sum.sum l.at l.is lit in
    c.form_for.ensures.adds.over ns units over

pub returns-in_err-var-clause-ends : goal.returns-in_err-var-clause-ends
returns-in_err-var-clause-ends c = λ ns q lit known stands.
    let l = learned c.args.self.now c.args.log.now.atoms c.args.id c.atom.result.now c.in-AtMost.bound c.in_ok-sum.sum c.requires.atom c.atom.ensures.atom c.in-AtMost.is c.in_ok-sum.ensures.zeroed in
    let units = sum_units ns c.args.log.now.atoms c.args.id c.in-AtMost.bound c.in_ok-sum.sum l.at l.is lit in
    let normal = normal_at c.args.log.now.atoms c.args.id c.in-AtMost.bound c.atom_count.ensures.atoms l.at in
    let named = named_sum ns c.args.log.now.atoms c.args.id c.args.number c.args.work.now c.in-AtMost.bound c.in_ok-sum.sum l.at normal l.is known in
    let e = c.in_err-var.field-0.0 in
    let stop : c.from_residual-in_err-var.result ≡ Err e = search rules in
    subst (λ r. EndsJoining (IsAt c.form_for.new.self ns) ns q c.form_for.new.work r) (sym stop)
    (ends_err ℕ ⊤ (IsAt c.form_for.new.self ns) ns q c.form_for.new.work e (c.in_err-var.ensures.ends ns q units named stands))

pub keep-requires-clause-form : goal.keep-requires-clause-form
keep-requires-clause-form c =
    subst (λ (n : ℕ). n < length c.form_for.new.self.simplex.forms) (sym c.new.ensures.form)
    (slice_get_within c.form_for.new.self.simplex.forms c.in_ok-var.var c.in_ok-sum.sum.sides.parts c.in_ok-var.ensures.form)

pub returns-in_err-keep-clause-over : goal.returns-in_err-keep-clause-over
returns-in_err-keep-clause-over c = λ ns lit over.
    let l = learned c.args.self.now c.args.log.now.atoms c.args.id c.atom.result.now c.in-AtMost.bound c.in_ok-sum.sum c.requires.atom c.atom.ensures.atom c.in-AtMost.is c.in_ok-sum.ensures.zeroed in
    let units = sum_units ns c.args.log.now.atoms c.args.id c.in-AtMost.bound c.in_ok-sum.sum l.at l.is lit in
    subst (λ (s : State). simplex.IsOver ns s) (sym c.keep.ensures.simplex) (c.form_for.ensures.adds.over ns units over)

pub returns-in_err-keep-clause-ends : goal.returns-in_err-keep-clause-ends
returns-in_err-keep-clause-ends c = λ ns q lit known stands.
    let l = learned c.args.self.now c.args.log.now.atoms c.args.id c.atom.result.now c.in-AtMost.bound c.in_ok-sum.sum c.requires.atom c.atom.ensures.atom c.in-AtMost.is c.in_ok-sum.ensures.zeroed in
    let units = sum_units ns c.args.log.now.atoms c.args.id c.in-AtMost.bound c.in_ok-sum.sum l.at l.is lit in
    let normal = normal_at c.args.log.now.atoms c.args.id c.in-AtMost.bound c.atom_count.ensures.atoms l.at in
    let named = named_sum ns c.args.log.now.atoms c.args.id c.args.number c.args.work.now c.in-AtMost.bound c.in_ok-sum.sum l.at normal l.is known in
    let stop : c.from_residual-in_err-keep.result ≡ Err Memory = search rules in
    subst (λ r. EndsJoining (IsAt c.keep.new.self ns) ns q c.form_for.new.work r) (sym stop)
    (stands_legal (IsAt c.form_for.new.self ns) ns q c.form_for.new.work (c.in_ok-var.ensures.ends ns q units named stands))

pub returns-clause-of : goal.returns-clause-of
returns-clause-of c = λ ids of.
    let l = learned c.args.self.now c.args.log.now.atoms c.args.id c.atom.result.now c.in-AtMost.bound c.in_ok-sum.sum c.requires.atom c.atom.ensures.atom c.in-AtMost.is c.in_ok-sum.ensures.zeroed in
    let normal = normal_at c.args.log.now.atoms c.args.id c.in-AtMost.bound c.atom_count.ensures.atoms l.at in
    let form : slice_get c.form_for.new.self.simplex.forms c.new.result.var ≡ Some c.in_ok-sum.sum.sides.parts = ap (slice_get c.form_for.new.self.simplex.forms) c.new.ensures.form ∙ c.in_ok-var.ensures.form in
    of_added c.args.self.now c.form_for.new.self c.keep.new.self c.args.log.now.atoms ids c.args.id c.in-AtMost.bound c.in_ok-sum.sum (known_of c.new.result) of c.form_for.ensures.adds c.keep.ensures.simplex
    l.at normal l.may.nonzero l.is form c.new.ensures.says c.in_ok-keep.ensures.kept

pub returns-clause-over : goal.returns-clause-over
returns-clause-over c = λ ns lit over.
    let l = learned c.args.self.now c.args.log.now.atoms c.args.id c.atom.result.now c.in-AtMost.bound c.in_ok-sum.sum c.requires.atom c.atom.ensures.atom c.in-AtMost.is c.in_ok-sum.ensures.zeroed in
    let units = sum_units ns c.args.log.now.atoms c.args.id c.in-AtMost.bound c.in_ok-sum.sum l.at l.is lit in
    subst (λ (s : State). simplex.IsOver ns s) (sym c.keep.ensures.simplex) (c.form_for.ensures.adds.over ns units over)

pub returns-clause-ends : goal.returns-clause-ends
returns-clause-ends c = λ ns q lit known stands.
    let l = learned c.args.self.now c.args.log.now.atoms c.args.id c.atom.result.now c.in-AtMost.bound c.in_ok-sum.sum c.requires.atom c.atom.ensures.atom c.in-AtMost.is c.in_ok-sum.ensures.zeroed in
    let units = sum_units ns c.args.log.now.atoms c.args.id c.in-AtMost.bound c.in_ok-sum.sum l.at l.is lit in
    let normal = normal_at c.args.log.now.atoms c.args.id c.in-AtMost.bound c.atom_count.ensures.atoms l.at in
    let named = named_sum ns c.args.log.now.atoms c.args.id c.args.number c.args.work.now c.in-AtMost.bound c.in_ok-sum.sum l.at normal l.is known in
    let mid = c.in_ok-var.ensures.ends ns q units named stands in
    let untold = ap (map (λ (y : MarkedLiteral). y.literal)) c.form_for.ensures.adds.told ∙ c.requires.untold in
    record {
      point = mid.point;
      legal = mid.legal;
      at = known_more_at c.form_for.new.self c.keep.new.self ns _ _ mid.point c.keep.ensures.simplex c.keep.ensures.told untold mid.at;
    }
