-- Whether the unit was there is told by how many forms there are then.
use Rattle.std.proofs.Common.{rules, ◌≡◌, ◌<◌, ◌≤◌, ℕ, length, false, true, Err, refl, sym, ◌∙◌, subst, true≢false}
use Rattle.std.specs.Prelude.{Contains}
use Rattle.nz_search.specs.Standing.{Stands}
use Rattle.nz_search.specs.declared.stop.Stop.{Stop}
use Rattle.nz_search.specs.declared.stop.Stop.TheVariants.{Memory}
use Rattle.nz_reals.specs.Joins.{EndsJoining}
use Rattle.nz_reals.specs.Stands.{IsAt}
use Rattle.nz_reals.proofs.JoinedForms.{unit_shape}
use Rattle.nz_reals.proofs.WorkAfterJoins.{alone_stops, stands_legal, stands_then, unit_ends, unit_is_new}
use Rattle.nz_reals.proofs.reals.Reals.unit_for.Goals as goal

pub join-requires-clause-free : goal.join-requires-clause-free
join-requires-clause-free c = λ many. absurd (true≢false (sym c.requires.alone ∙ many))

pub returns-in_err-var-clause-ends : goal.returns-in_err-var-clause-ends
returns-in_err-var-clause-ends c = λ ns q units named stands.
    let e : Stop = c.in_err-var.field-0.0 in
    let stop : c.from_residual.result ≡ Err e = search rules in
    subst (λ r. EndsJoining (IsAt c.join.new.self ns) ns q c.args.work.now r) (sym stop)
    (alone_stops (IsAt c.join.new.self ns) ns q c.args.work.now c.args.self.now c.args.sum.sides.parts c.requires.alone e c.in_err-var.ensures.stops (stands_legal (IsAt c.args.self.now ns) ns q c.args.work.now stands))

pub returns-then-not-has_more-clause-ends : goal.returns-then-not-has_more-clause-ends
returns-then-not-has_more-clause-ends c = λ ns q units named stands.
    let old = c.args.self.now in
    let new = c.join.new.self in
    let none : c.has_more.result ≡ false = search rules in
    let fewer : length new.simplex.forms ≤ length old.simplex.forms =
    subst (λ (n : ℕ). length new.simplex.forms ≤ n) c.form_count-count.ensures.count (c.has_more.ensures.none none) in
    unit_ends ns q c.args.work.now c.args.work.now old new c.args.sum.sides.parts c.requires.untold units c.join.ensures.adds c.requires.alone (c.in_ok-var.ensures.position ns stands.at.over units) fewer refl stands

pub returns-in_err-note-clause-ends : goal.returns-in_err-note-clause-ends
returns-in_err-note-clause-ends c = λ ns q units named stands.
    let stop : c.from_residual-in_err-note.result ≡ Err Memory = search rules in
    subst (λ r. EndsJoining (IsAt c.join.new.self ns) ns q c.note.new.self r) (sym stop)
    (subst (λ w. EndsJoining {A = ℕ} (IsAt c.join.new.self ns) ns q w (Err Memory)) (sym c.in_err-note.ensures.err) (stands_legal (IsAt c.args.self.now ns) ns q c.args.work.now stands))

pub returns-clause-ends : goal.returns-clause-ends
returns-clause-ends c = λ ns q units named stands.
    let old = c.args.self.now in
    let new = c.join.new.self in
    let f = c.args.sum.sides.parts in
    let position = c.in_ok-var.ensures.position ns stands.at.over units in
    let p = unit_shape f c.requires.alone in
    let is_more : c.has_more.result ≡ true = search rules in
    let more : length old.simplex.forms < length new.simplex.forms = subst (λ (n : ℕ). n < length new.simplex.forms) c.form_count-count.ensures.count (c.has_more.ensures.more is_more) in
    let fresh : Contains old.simplex.forms f → ⊥ = unit_is_new ns old.simplex new.simplex f p.0 p.1 c.requires.alone position more in
    subst (λ w. Stands (IsAt new ns) ns q w) (sym c.in_ok-note.ensures.ok)
    (stands_then ns q c.args.work.now c.args.number c.legal_work_goes_on.ensures.goes_on c.one_number.ensures.one c.tells_literals.ensures.tells old f c.requires.untold units named stands c.stored.ensures.forms c.requires.may.sum fresh
    new c.join.ensures.adds position)
