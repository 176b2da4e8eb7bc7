-- The bounds that hold the nonbasic forms back, with their multipliers, refute the broken one.
use Rattle.std.proofs.Common.{◌≡◌, ℕ, ◌<◌, false, List, ◌∷◌, flat_map, length, sym, ap, ◌∙◌, subst, arith, refl}
use Rattle.std.specs.Prelude.{All, pos}
use Rattle.nz_fractions.specs.Fraction.{whole}
use Rattle.nz_spec.specs.simplex.Bland as bland
use Rattle.nz_spec.specs.simplex.Bland.{Breaks, CanHelp}
use Rattle.nz_simplex.specs.Standing.{half, standing}
use Rattle.nz_simplex.specs.State.{State, IsOver, nonbasic_in, position_over}
use Rattle.nz_simplex.specs.Stored.{held_back, state_of}
use Rattle.nz_simplex.specs.Tabled.{rows_in}
use Rattle.nz_simplex.proofs.Pointed.{all_below, count_below}
use Rattle.nz_simplex.proofs.BoundRefutations.{explained, sound_why}
use Rattle.nz_simplex.proofs.StoredStates.{stored_again}
use Rattle.nz_simplex.proofs.simplex.Simplex.explain.Goals as goal

pub put_multipliers-requires-clause-listed : goal.put_multipliers-requires-clause-listed
put_multipliers-requires-clause-listed g c =
    let x = c.self.inside in
    let here : State = state_of g.S.Coordinate.stands_for x.tab x.trail x.values.items x.why.items in
    subst (λ (ks : List ℕ). All (λ k. k < x.trail.vars) ks) (sym (c.as_slice.ensures.value ∙ c.self.invariant.nonbasic_listed))
    (all_below (length x.tab.forms) x.trail.vars (nonbasic_in here) c.self.invariant.numbered)

pub put_multipliers-requires-clause-room : goal.put_multipliers-requires-clause-room
put_multipliers-requires-clause-room g c =
    let x = c.self.inside in
    let here : State = state_of g.S.Coordinate.stands_for x.tab x.trail x.values.items x.why.items in
    let inside : c.args.broken.now.var < length x.tab.forms = subst (λ (s : State). c.args.broken.now.var < length s.forms) (sym c.self.view_is) c.requires.known in
    let basic : nonbasic_in here c.args.broken.now.var ≡ false = ap (λ (s : State). nonbasic_in s c.args.broken.now.var) c.self.view_is ∙ c.requires.basic in
    let fewer = count_below (length x.tab.forms) (nonbasic_in here) c.args.broken.now.var inside basic in
    let count = ap length (c.as_slice.ensures.value ∙ c.self.invariant.nonbasic_listed) in
    omega (arith, fewer, count, c.self.invariant.room_for_why)

pub invariant_of-self : goal.invariant_of-self
invariant_of-self g c =
    let x = c.self.inside in
    let stored = c.self.invariant in
    stored_again stored
    (sound_why (state_of g.S.Coordinate.stands_for x.tab x.trail x.values.items x.why.items) c.put_multipliers.new.why.items stored.sound)
    refl stored.basic_listed stored.nonbasic_listed refl refl c.put_multipliers.ensures.capacity

pub returns-clause-refuted : goal.returns-clause-refuted
returns-clause-refuted g c =
    let x = c.self.inside in
    let stands = g.S.Coordinate.stands_for in
    let b = c.args.broken.now in
    let here : State = state_of stands x.tab x.trail x.values.items x.why.items in
    let inside : b.var < length x.tab.forms = subst (λ (s : State). b.var < length s.forms) (sym c.self.view_is) c.requires.known in
    let basic : nonbasic_in here b.var ≡ false = ap (λ (s : State). nonbasic_in s b.var) c.self.view_is ∙ c.requires.basic in
    let back = sym c.self.view_is in
    let told_why = c.put_multipliers.ensures.put
    ∙ ap (λ (ks : List ℕ). (b.limit.reason, whole (pos 1)) ∷ flat_map (held_back here.asserted b.side (rows_in x.tab b.var)) ks) (c.as_slice.ensures.value ∙ c.self.invariant.nonbasic_listed) in
    λ ns over.
    explained stands x.tab x.trail x.values.items x.why.items c.self.invariant.sound c.positions_have_values.ensures.values c.no_help_refutes.ensures.refutes c.infinitesimals_move.ensures.moves c.known_tableau.ensures.tableau
    b.var inside basic ns (subst (λ (s : State). IsOver ns s) back over) b.side b.limit c.put_multipliers.new.why.items
    (ap (λ (s : State). standing s.asserted b.var b.side) c.self.view_is ∙ c.requires.stands)
    (subst (λ (s : State). Breaks (position_over ns s) (half b.side) (stands b.limit.value) b.var) back (c.requires.broken ns over))
    (subst (λ (s : State). (j : ℕ) → CanHelp (position_over ns s) b.var (bland.other_side (half b.side)) j → ⊥) back (c.requires.helpless ns over))
    told_why
