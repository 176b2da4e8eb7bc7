-- The least forms are exchanged, and the values follow; or no form can help; or it stops.
use Rattle.std.proofs.Common.{rules, ◌≡◌, ℕ, ◌<◌, refl, true, false, List, length, Option, None, sym, ap, ◌∙◌, subst, arith, Bool}
use Rattle.std.specs.Prelude.{◌==◌, if◌then◌else◌, All, IsSome, Err, slice_index_or, vec_capacity}
use Rattle.nz_lists.proofs.Numbers.{equal-number}
use Rattle.nz_spec.specs.simplex.Bland.{IsCheckStep}
use Rattle.nz_spec.specs.simplex.Pivots.{pivot}
use Rattle.nz_spec.specs.terms.Table.{Node}
use Rattle.nz_tab.specs.Rows.{is_nonbasic}
use Rattle.nz_trail.specs.Bounds.{other_side}
use Rattle.nz_simplex.specs.declared.answer.SimplexStop.{SimplexStop}
use Rattle.nz_simplex.specs.Checks.{Answers}
use Rattle.nz_simplex.specs.State.{State, IsOver, nonbasic_in, position_over, value_in}
use Rattle.nz_simplex.specs.Stored.{IsStored, state_of, first_passing, is_helping, nonbasic_numbers}
use Rattle.nz_simplex.proofs.Exchanges.{enters_nonbasic, enters_nonzero, exchange_place, exchanged_sound, exchanged_step, helpless, may_step, written_back}
use Rattle.nz_simplex.proofs.Pointed.{all_below, all_known, all_listed, some_at}
use Rattle.nz_simplex.proofs.simplex.Simplex.step.Given.{Over}
use Rattle.nz_simplex.proofs.StoredStates.{stored_again}
use Rattle.nz_simplex.specs.Tabled.{rows_in}
use Rattle.nz_simplex.proofs.simplex.Simplex.step.Goals as goal
use Rattle.nz_simplex.proofs.simplex.Simplex.step.Goals.{After-first_helper}

pub first_helper-requires-clause-listed : goal.first_helper-requires-clause-listed
first_helper-requires-clause-listed g c =
    let x = c.self.inside in
    let here : State = state_of g.S.Coordinate.stands_for x.tab x.trail x.values.items x.why.items in
    subst (λ (ks : List ℕ). All (λ k. k < x.trail.vars) ks) (sym (c.as_slice.ensures.value ∙ c.self.invariant.nonbasic_listed))
    (all_below (length x.tab.forms) x.trail.vars (nonbasic_in here) c.self.invariant.numbered)

pub first_helper-requires-clause-held : goal.first_helper-requires-clause-held
first_helper-requires-clause-held g c =
    let x = c.self.inside in
    subst (λ (vs : List (Option g.row.S.Denot)). All (λ k. k < length vs) c.as_slice.result.now) (sym c.as_slice-2.ensures.value)
    (subst (λ (ks : List ℕ). All (λ k. k < length x.values.items) ks) (sym (c.as_slice.ensures.value ∙ c.self.invariant.nonbasic_listed))
    (all_listed g.S.Coordinate.stands_for x.tab x.trail x.values.items x.why.items c.self.invariant.sound))

pub first_helper-requires-clause-valued : goal.first_helper-requires-clause-valued
first_helper-requires-clause-valued g c =
    let x = c.self.inside in
    subst (λ (vs : List (Option g.row.S.Denot)). All (λ k. IsSome (slice_index_or vs k None)) c.as_slice.result.now) (sym c.as_slice-2.ensures.value)
    (subst (λ (ks : List ℕ). All (λ k. IsSome (slice_index_or x.values.items k None)) ks) (sym (c.as_slice.ensures.value ∙ c.self.invariant.nonbasic_listed))
    (all_known g.S.Coordinate.stands_for x.tab x.trail x.values.items x.why.items c.self.invariant.sound))

-- what was found among the nonbasic forms
told : (g : Over) (c : After-first_helper g)
    → first_passing (λ k. is_helping g.S.Coordinate.stands_for c.self.inside.trail.asserted c.self.inside.values.items (other_side c.args.broken.now.side) k (rows_in c.self.inside.tab c.args.broken.now.var k))
    (nonbasic_numbers (state_of g.S.Coordinate.stands_for c.self.inside.tab c.self.inside.trail c.self.inside.values.items c.self.inside.why.items))
    ≡ c.first_helper.result
told g c =
    let x = c.self.inside in
    let b = c.args.broken.now in
    let helps : List (Option g.row.S.Denot) → ℕ → Bool = λ vs k. is_helping g.S.Coordinate.stands_for x.trail.asserted vs (other_side b.side) k (rows_in x.tab b.var k) in
    sym
    (c.first_helper.ensures.first
    ∙ ap (λ (vs : List (Option g.row.S.Denot)). first_passing (helps vs) c.as_slice.result.now) c.as_slice-2.ensures.value
    ∙ ap (first_passing (helps x.values.items)) (c.as_slice.ensures.value ∙ c.self.invariant.nonbasic_listed))

pub returns-in_default-clause-helpless : goal.returns-in_default-clause-helpless
returns-in_default-clause-helpless g c =
    let x = c.self.inside in
    let b = c.args.broken.now in
    let none : c.first_helper.result ≡ None = search rules in
    λ e.
    helpless g.S.Coordinate.stands_for x.tab x.trail x.values.items x.why.items c.args.self.now c.self.view_is c.self.invariant.sound b.var c.requires.known c.requires.basic b.side c.rows_tell.ensures.tell c.known_tableau.ensures.tableau
    (told g (goal.at.returns-in_default-clause-helpless g c).After-first_helper ∙ none)

pub returns-then-left-eq0-clause-stops : goal.returns-then-left-eq0-clause-stops
returns-then-left-eq0-clause-stops g c =
    let x = c.self.inside in
    let b = c.args.broken.now in
    λ ns over. (
      sym c.left.ensures.left ∙ c.if-left-eq0.true,
      (
        pivot b.var c.in-Some.enters,
        may_step g.S.Coordinate.stands_for x.tab x.trail x.values.items x.why.items c.args.self.now c.self.view_is c.self.invariant.sound b.var c.requires.known c.requires.basic b.side c.rows_tell.ensures.tell c.known_tableau.ensures.tableau c.in-Some.enters
            (told g (goal.at.returns-then-left-eq0-clause-stops g c).After-first_helper ∙ c.in-Some.is) b.limit.value c.requires.broken ns over,
      ),
    )

pub pivot-requires-clause-enters : goal.pivot-requires-clause-enters
pivot-requires-clause-enters g c =
    let x = c.self.inside in
    let b = c.args.broken.now in
    enters_nonbasic g.S.Coordinate.stands_for x.tab x.trail x.values.items x.why.items c.args.self.now c.self.view_is c.self.invariant.sound b.var c.requires.known c.requires.basic b.side c.in-Some.enters
    (told g (goal.at.pivot-requires-clause-enters g c).After-first_helper ∙ c.in-Some.is)

pub pivot-requires-clause-nonzero : goal.pivot-requires-clause-nonzero
pivot-requires-clause-nonzero g c =
    let x = c.self.inside in
    let b = c.args.broken.now in
    enters_nonzero g.S.Coordinate.stands_for x.tab x.trail x.values.items x.why.items c.args.self.now c.self.view_is c.self.invariant.sound b.var c.requires.known c.requires.basic b.side c.in-Some.enters
    (told g (goal.at.pivot-requires-clause-nonzero g c).After-first_helper ∙ c.in-Some.is)

pub returns-in-Err-clause-stops : goal.returns-in-Err-clause-stops
returns-in-Err-clause-stops g c =
    let x = c.self.inside in
    let b = c.args.broken.now in
    subst (λ (e : SimplexStop). (ns : List Node) → IsOver ns c.args.self.now → Answers ns c.args.self.now (g.W.Steps.units_left c.args.work.now) (Err e)) (sym c.exchange_stop.ensures.stop)
    (exchange_place g.S.Coordinate.stands_for x.tab x.trail x.values.items x.why.items c.args.self.now c.self.view_is c.self.invariant.sound b.var c.requires.known c.requires.basic b.side c.rows_tell.ensures.tell c.known_tableau.ensures.tableau c.in-Some.enters
    (told g (goal.at.returns-in-Err-clause-stops g c).After-first_helper ∙ c.in-Some.is) b.limit.value c.requires.broken c.in-Err.wide c.in-Err.ensures.stops c.exchange_stop.ensures.left c.exchange_stop.ensures.right)

pub move_to-requires-clause-nonbasic : goal.move_to-requires-clause-nonbasic
move_to-requires-clause-nonbasic g c =
    let i = c.args.broken.now.var in
    c.in_default-pivot.ensures.pivoted.rows.nonbasic i
    ∙ ap (λ b. if b then true else if i == c.in-Some.enters then false else is_nonbasic c.self.inside.tab.grid i) (equal-number i i refl)

pub move_to-requires-clause-some : goal.move_to-requires-clause-some
move_to-requires-clause-some g c =
    let x = c.self.inside in
    let stands = g.S.Coordinate.stands_for in
    let i = c.args.broken.now.var in
    subst (λ (vs : List (Option g.row.S.Denot)). IsSome (slice_index_or vs i None)) (sym c.as_mut_slice.ensures.value)
    (some_at stands x.values.items i (subst (λ (s : State). IsSome (value_in s i)) (sym c.self.view_is) c.requires.valued))

pub invariant_of-self-2 : goal.invariant_of-self-2
invariant_of-self-2 g c =
    let x = c.self.inside in
    let b = c.args.broken.now in
    let stored = c.self.invariant in
    let pivoted = c.in_default-pivot.ensures.pivoted in
    let new = c.move_to.new.values in
    let same : new ≡ _ = sym (written_back x.values.len x.values.items new x.values.ok.0 (omega (arith, c.move_to.auto.values, c.as_mut_slice.ensures.len, x.values.ok.0))) in
    subst
    (λ (vs : List (Option g.row.S.Denot)). IsStored (state_of g.S.Coordinate.stands_for c.pivot.new.self x.trail vs x.why.items) x.trail.vars c.list_forms.new.basic.items c.list_forms.new.nonbasic.items
    (vec_capacity c.list_forms.new.basic) (vec_capacity c.list_forms.new.nonbasic) (vec_capacity x.why))
    same
    (stored_again stored
    (exchanged_sound g.S.Coordinate.stands_for x.tab x.trail x.values.items x.why.items c.args.self.now c.self.view_is c.self.invariant.sound b.var c.requires.known c.requires.basic b.side c.rows_tell.ensures.tell c.known_tableau.ensures.tableau c.in-Some.enters
    (told g (goal.at.invariant_of-self-2 g c).After-first_helper ∙ c.in-Some.is) b.limit.value c.requires.broken c.pivot.new.self c.as_mut_slice.result.now new pivoted c.as_mut_slice.ensures.value c.move_to.ensures.moved c.move_to.ensures.stays
    c.moves_keep_ready.ensures.ready c.check_steps_keep_basis.ensures.kept c.infinitesimals_move.ensures.moves c.nonbasic_form_is_itself.ensures.itself c.known_tableau-2.ensures.tableau c.move_to.auto.values c.move_to.ensures.follows)
    (ap length pivoted.forms) c.list_forms.ensures.basic c.list_forms.ensures.nonbasic c.list_forms.ensures.basic_capacity c.list_forms.ensures.nonbasic_capacity refl)

pub returns-clause-taken : goal.returns-clause-taken
returns-clause-taken g c =
    let x = c.self.inside in
    let b = c.args.broken.now in
    let pivoted = c.in_default-pivot.ensures.pivoted in
    let new = c.move_to.new.values in
    λ e. (
      c.in-Some.enters,
      c.note.ensures.noted,
      subst
          (λ (vs : List (Option g.row.S.Denot)). (ns : List Node) → IsOver ns c.args.self.now
          → IsCheckStep (position_over ns c.args.self.now) (position_over ns (state_of g.S.Coordinate.stands_for c.pivot.new.self x.trail vs x.why.items)) b.var c.in-Some.enters)
          (sym (written_back x.values.len x.values.items new x.values.ok.0 (omega (arith, c.move_to.auto.values, c.as_mut_slice.ensures.len, x.values.ok.0))))
          (exchanged_step g.S.Coordinate.stands_for x.tab x.trail x.values.items x.why.items c.args.self.now c.self.view_is c.self.invariant.sound b.var c.requires.known c.requires.basic b.side c.rows_tell.ensures.tell c.known_tableau.ensures.tableau c.in-Some.enters
          (told g (goal.at.returns-clause-taken g c).After-first_helper ∙ c.in-Some.is) b.limit.value c.requires.broken c.pivot.new.self c.as_mut_slice.result.now new pivoted c.as_mut_slice.ensures.value c.move_to.ensures.moved c.move_to.ensures.stays),
    )
