-- A bound that is tighter stands, and a nonbasic form outside of it has moved to it; else nothing changes.
use Rattle.std.proofs.Common.{◌≡◌, ℕ, List, length, Option, None, sym, ap, ◌∙◌, subst, arith, Ok, refl}
use Rattle.std.specs.Prelude.{IsSome, OnErr, slice_index_or, vec_capacity}
use Rattle.std.proofs.lemmas.Result.{err_from_is_err_and}
use Rattle.nz_spec.specs.numbers.Infinitesimal.{infinitesimal_cmp}
use Rattle.nz_trail.specs.Bounds.{IsExcluded, IsImplied, TrailState, asserted}
use Rattle.nz_trail.specs.declared.limits.AssertOutcome.TheVariants.{Tighter}
use Rattle.nz_simplex.specs.Moves.{IsBounded}
use Rattle.nz_simplex.specs.Standing.{Held}
use Rattle.nz_simplex.specs.State.{State}
use Rattle.nz_simplex.specs.Stored.{IsStored, state_of}
use Rattle.nz_simplex.proofs.Bounded.{asserted_shown}
use Rattle.nz_simplex.proofs.ScalarBounds.{Tells, outcome_shown, same_ok, stands_shown}
use Rattle.nz_simplex.proofs.Exchanges.{written_back}
use Rattle.nz_simplex.proofs.Pointed.{some_at}
use Rattle.nz_simplex.proofs.simplex.Simplex.assert_bound.Given.{Over}
use Rattle.nz_simplex.proofs.StoredStates.{stored_again}
use Rattle.nz_simplex.proofs.simplex.Simplex.assert_bound.Goals as goal
use Rattle.nz_simplex.proofs.simplex.Simplex.assert_bound.Goals.{In-Tighter, In_ok-outcome}

pub invariant_of-self-in-Tighter : goal.invariant_of-self-in-Tighter
invariant_of-self-in-Tighter g c =
    let x = c.self.inside in
    let stored = c.self.invariant in
    let new = c.move_within.new.values in
    let long : length new ≡ length x.values.items = omega (arith, c.move_within.auto.values, c.as_mut_slice.ensures.len, x.values.ok.0) in
    let vars : c.assert_bound.new.self.vars ≡ x.trail.vars = ap (λ (t : TrailState g.row.S.Denot). t.vars) (c.assert_bound.ensures.grown (c.in_ok-outcome.was ∙ ap Ok c.in-Tighter.is)) in
    subst
    (λ (vs : List (Option g.row.S.Denot)). IsStored (state_of g.S.Coordinate.stands_for x.tab c.assert_bound.new.self vs x.why.items) c.assert_bound.new.self.vars x.basic.items x.nonbasic.items
    (vec_capacity x.basic) (vec_capacity x.nonbasic) (vec_capacity x.why))
    (sym (written_back x.values.len x.values.items new x.values.ok.0 long))
    (subst
    (λ (n : ℕ). IsStored (state_of g.S.Coordinate.stands_for x.tab c.assert_bound.new.self new x.why.items) n x.basic.items x.nonbasic.items (vec_capacity x.basic) (vec_capacity x.nonbasic) (vec_capacity x.why))
    (sym vars)
    (stored_again stored
    (asserted_shown g.S.Coordinate.stands_for g.S.Scalar.order g.met.S.Scalar.laws.ordered g.met.S.Coordinate.faithful.compares x.tab x.trail c.assert_bound.new.self x.values.items c.as_mut_slice.result.now new x.why.items
    c.args.self.now c.args.var c.args.side c.args.value c.args.reason c.self.view_is c.self.invariant.sound c.requires.known (c.in_ok-outcome.ensures.tighter.0 c.in-Tighter.is)
    (c.assert_bound.ensures.grown (c.in_ok-outcome.was ∙ ap Ok c.in-Tighter.is))
    c.moves_keep_ready.ensures.ready c.sum_moves.ensures.moves c.positions_have_values.ensures.values c.infinitesimals_move.ensures.moves c.nonbasic_form_is_itself.ensures.itself c.known_tableau.ensures.tableau
    c.as_mut_slice.ensures.value c.move_within.auto.values c.move_within.ensures.still c.move_within.ensures.moved c.move_within.ensures.stays c.move_within.ensures.follows).sound
    refl stored.basic_listed stored.nonbasic_listed refl refl refl))

pub returns-in-Tighter-clause-bounded : goal.returns-in-Tighter-clause-bounded
returns-in-Tighter-clause-bounded g c =
    let x = c.self.inside in
    let new = c.move_within.new.values in
    let long : length new ≡ length x.values.items = omega (arith, c.move_within.auto.values, c.as_mut_slice.ensures.len, x.values.ok.0) in
    λ e.
    subst
    (λ (vs : List (Option g.row.S.Denot)). IsBounded c.args.self.now (state_of g.S.Coordinate.stands_for x.tab c.assert_bound.new.self vs x.why.items)
    (asserted c.args.var c.args.side (g.S.Coordinate.stands_for c.args.value) c.args.reason))
    (sym (written_back x.values.len x.values.items new x.values.ok.0 long))
    (asserted_shown g.S.Coordinate.stands_for g.S.Scalar.order g.met.S.Scalar.laws.ordered g.met.S.Coordinate.faithful.compares x.tab x.trail c.assert_bound.new.self x.values.items c.as_mut_slice.result.now new x.why.items
    c.args.self.now c.args.var c.args.side c.args.value c.args.reason c.self.view_is c.self.invariant.sound c.requires.known (c.in_ok-outcome.ensures.tighter.0 c.in-Tighter.is)
    (c.assert_bound.ensures.grown (c.in_ok-outcome.was ∙ ap Ok c.in-Tighter.is))
    c.moves_keep_ready.ensures.ready c.sum_moves.ensures.moves c.positions_have_values.ensures.values c.infinitesimals_move.ensures.moves c.nonbasic_form_is_itself.ensures.itself c.known_tableau.ensures.tableau
    c.as_mut_slice.ensures.value c.move_within.auto.values c.move_within.ensures.still c.move_within.ensures.moved c.move_within.ensures.stays c.move_within.ensures.follows).shown

-- what the outcome tells of the bounds that are shown
outcome_told : (g : Over) (c : In_ok-outcome g) → Tells c.args.self.now.asserted (asserted c.args.var c.args.side (g.S.Coordinate.stands_for c.args.value) c.args.reason) c.in_ok-outcome.outcome
outcome_told g c =
    subst (λ (s : State). Tells s.asserted (asserted c.args.var c.args.side (g.S.Coordinate.stands_for c.args.value) c.args.reason) c.in_ok-outcome.outcome) c.self.view_is
    (outcome_shown g.S.Coordinate.stands_for g.S.Scalar.order g.met.S.Coordinate.faithful.compares c.self.inside.trail.asserted (asserted c.args.var c.args.side c.args.value c.args.reason) c.in_ok-outcome.outcome
    c.in_ok-outcome.ensures.kept c.in_ok-outcome.ensures.clash c.in_ok-outcome.ensures.tighter)

tighter_told : (g : Over) (c : In-Tighter g) → Tells c.args.self.now.asserted (asserted c.args.var c.args.side (g.S.Coordinate.stands_for c.args.value) c.args.reason) Tighter
tighter_told g c = subst (Tells c.args.self.now.asserted (asserted c.args.var c.args.side (g.S.Coordinate.stands_for c.args.value) c.args.reason)) c.in-Tighter.is (outcome_told g (goal.at.In-Tighter g c).In_ok-outcome)

pub returns-in-Tighter-clause-kept : goal.returns-in-Tighter-clause-kept
returns-in-Tighter-clause-kept g c = (tighter_told g (goal.at.returns-in-Tighter-clause-kept g c).In-Tighter).kept

pub returns-in-Tighter-clause-clash : goal.returns-in-Tighter-clause-clash
returns-in-Tighter-clause-clash g c = (tighter_told g (goal.at.returns-in-Tighter-clause-clash g c).In-Tighter).clash

pub returns-in-Tighter-clause-tighter : goal.returns-in-Tighter-clause-tighter
returns-in-Tighter-clause-tighter g c = (tighter_told g (goal.at.returns-in-Tighter-clause-tighter g c).In-Tighter).tighter

-- only a bound that is to stand wants memory
abbrev IsToStand : List Held → Held → Type 0
IsToStand bs b = (¬ IsImplied infinitesimal_cmp bs b) × (¬ IsExcluded infinitesimal_cmp bs b)

pub returns-in_err-outcome-clause-memory : goal.returns-in_err-outcome-clause-memory
returns-in_err-outcome-clause-memory g c =
    let p = err_from_is_err_and c.from_residual.result c.from_residual.ensures.1 in
    let b = asserted c.args.var c.args.side (g.S.Coordinate.stands_for c.args.value) c.args.reason in
    subst (λ r. OnErr r (IsToStand c.args.self.now.asserted b)) (sym p.1)
    (subst (λ (s : State). IsToStand s.asserted b) c.self.view_is
    (stands_shown g.S.Coordinate.stands_for g.S.Scalar.order g.met.S.Coordinate.faithful.compares c.self.inside.trail.asserted (asserted c.args.var c.args.side c.args.value c.args.reason) c.in_err-outcome.ensures.memory))

pub move_within-requires-clause-some : goal.move_within-requires-clause-some
move_within-requires-clause-some g c = λ nonbasic.
    subst (λ (vs : List (Option g.row.S.Denot)). IsSome (slice_index_or vs c.args.var None)) (sym c.as_mut_slice.ensures.value)
    (some_at g.S.Coordinate.stands_for c.self.inside.values.items c.args.var (c.self.invariant.sound.known c.args.var nonbasic))

pub invariant_of-self-in_default : goal.invariant_of-self-in_default
invariant_of-self-in_default g c =
    let x = c.self.inside in
    let same : c.assert_bound.new.self ≡ x.trail = c.assert_bound.ensures.unchanged (λ e. c.in_default.not-Tighter (same_ok (sym c.in_ok-outcome.was ∙ e))) in
    subst
    (λ (t : TrailState g.row.S.Denot). IsStored (state_of g.S.Coordinate.stands_for x.tab t x.values.items x.why.items) t.vars x.basic.items x.nonbasic.items
    (vec_capacity x.basic) (vec_capacity x.nonbasic) (vec_capacity x.why))
    (sym same) c.self.invariant

pub returns-in_default : goal.returns-in_default
returns-in_default g c =
    let x = c.self.inside in
    let same : c.assert_bound.new.self ≡ x.trail = c.assert_bound.ensures.unchanged (λ e. c.in_default.not-Tighter (same_ok (sym c.in_ok-outcome.was ∙ e))) in
    let told = outcome_told g (goal.at.returns-in_default g c).In_ok-outcome in
    record {
      kept = told.kept;
      clash = told.clash;
      tighter = told.tighter;
      bounded = λ e. absurd (c.in_default.not-Tighter (same_ok e));
      unchanged = λ n. ap (λ (t : TrailState g.row.S.Denot). state_of g.S.Coordinate.stands_for x.tab t x.values.items x.why.items) same ∙ c.self.view_is;
      memory = tt;
    }
