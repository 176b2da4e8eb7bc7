-- A sum joins, which is noted before; a unit alone is looked for by the simplex.
use Rattle.std.proofs.Common.{rules, ◌≡◌, false, None, Ok, Some, sym, ap, ◌∙◌, subst}
use Rattle.std.specs.Prelude.{Contains}
use Rattle.std.proofs.lemmas.Option.{slice_get-get_or}
use Rattle.nz_tab.specs.Units.{is_unit_form}
use Rattle.nz_reals.specs.Joins.{EndsJoining}
use Rattle.nz_reals.specs.Stands.{IsAt}
use Rattle.nz_reals.proofs.WorkAfterJoins.{form_ends}
use Rattle.nz_reals.proofs.reals.Reals.form_for.Goals as goal

pub returns-clause-ends : goal.returns-clause-ends
returns-clause-ends c = λ ns q units named stands.
    let t = c.args.self.now in
    let f = c.args.sum.sides.parts in
    let missing : c.find.result ≡ Ok None = search rules in
    let many : is_unit_form f ≡ false = search rules in
    let fresh : Contains t.simplex.forms f → ⊥ = λ has. c.find.ensures.free missing many has.0 (slice_get-get_or t.simplex.forms has.0 f has.1 ∙ ap Some has.2) in
    subst (λ w. EndsJoining (IsAt c.join.new.self ns) ns q w c.join.result) (sym c.in_ok-note.ensures.ok)
    (form_ends ns q c.args.work.now c.args.number c.legal_work_goes_on.ensures.goes_on c.one_number.ensures.one c.tells_literals.ensures.tells t f c.requires.untold units named stands
    c.stored.ensures.forms c.requires.may.sum fresh
    c.joins_stop_at_rows.ensures.stop c.stored.ensures.sound c.join.new.self c.join.result c.join.ensures.adds c.join.ensures.position c.join.ensures.stops)
