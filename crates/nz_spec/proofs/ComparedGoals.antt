-- Goals compared with numbers: what such literals say of the value of the goal.
use Rattle.std.proofs.Common.{◌≡◌, Bool, true, false, [], ◌∷◌, map, refl, sym, ap₂, subst, if◌then◌else◌}
use Rattle.nz_fractions.specs.Fraction.{Fraction, ◌=ℚ◌, ◌≤ℚ◌, ◌<ℚ◌, ◌+ℚ◌, ◌-ℚ◌, neg_ℚ, Difference, exact, outcome}
use Rattle.nz_fractions.proofs.Laws.{=ℚ_sym, =ℚ_trans, ≤ℚ-from_eq, ≤ℚ_trans, <ℚ-≤ℚ_trans, ≤ℚ-<ℚ_trans, reduce-same}
use Rattle.nz_fractions.proofs.Arithmetic.{+ℚ_comm}
use Rattle.nz_fractions.proofs.Bounds.{moved_right, moved_right_lt}
use Rattle.nz_fractions.proofs.Order.{lt_is, le_is}
use Rattle.nz_ints.proofs.Ring.{Atom, ◌⊕◌, Minus}
use Rattle.nz_fractions.proofs.Solver.{solve}
use Rattle.nz_spec.specs.terms.Term.{Assignment}
use Rattle.nz_spec.specs.terms.Form.{parts_value, negated_part}
use Rattle.nz_spec.specs.clauses.Literal.{is_literal_true}
use Rattle.nz_spec.specs.clauses.Goals.{Goal, goal_value, Beats, compared, beats}
use Rattle.nz_spec.proofs.FormValues.{parts-negated}
use Rattle.nz_spec.proofs.LinearLiterals.{turned_le, turned_lt}

-- the goal's sum, and the number that goes to the other side
difference : (v o : Fraction) → outcome Difference v o =ℚ (neg_ℚ o +ℚ v)
unfolding outcome exact ◌-ℚ◌
difference v o = =ℚ_trans (reduce-same (v +ℚ neg_ℚ o)) (+ℚ_comm v (neg_ℚ o))

module _ (a : Assignment) (g : Goal) (v : Fraction) where
  abbrev sum : Fraction
  sum = parts_value a g.form.parts

  abbrev bound : Fraction
  bound = outcome Difference v g.form.offset

  shifted : (neg_ℚ g.form.offset +ℚ goal_value a g) =ℚ sum
  shifted = solve (sum ∷ g.form.offset ∷ []) (Minus (Atom 1) ⊕ (Atom 0 ⊕ Atom 1)) (Atom 0) refl

  sum_at_most : goal_value a g ≤ℚ v → sum ≤ℚ bound
  sum_at_most h = ≤ℚ_trans (≤ℚ-from_eq (=ℚ_sym shifted)) (≤ℚ_trans (moved_right (neg_ℚ g.form.offset) (goal_value a g) v h) (≤ℚ-from_eq (=ℚ_sym (difference v g.form.offset))))

  sum_below : goal_value a g <ℚ v → sum <ℚ bound
  sum_below h = ≤ℚ-<ℚ_trans (≤ℚ-from_eq (=ℚ_sym shifted)) (<ℚ-≤ℚ_trans (moved_right_lt (neg_ℚ g.form.offset) (goal_value a g) v h) (≤ℚ-from_eq (=ℚ_sym (difference v g.form.offset))))

  sum_at_least : v ≤ℚ goal_value a g → bound ≤ℚ sum
  sum_at_least h = ≤ℚ_trans (≤ℚ-from_eq (difference v g.form.offset)) (≤ℚ_trans (moved_right (neg_ℚ g.form.offset) v (goal_value a g) h) (≤ℚ-from_eq shifted))

  sum_above : v <ℚ goal_value a g → bound <ℚ sum
  sum_above h = ≤ℚ-<ℚ_trans (≤ℚ-from_eq (difference v g.form.offset)) (<ℚ-≤ℚ_trans (moved_right_lt (neg_ℚ g.form.offset) v (goal_value a g) h) (≤ℚ-from_eq shifted))

  negated : parts_value a (map negated_part g.form.parts) =ℚ neg_ℚ sum
  negated = parts-negated (λ t. 0) a g.form.parts

  at_most-true : goal_value a g ≤ℚ v → is_literal_true a (compared g true false v).result ≡ true
  at_most-true h = le_is sum bound (sum_at_most h)

  below-true : goal_value a g <ℚ v → is_literal_true a (compared g true true v).result ≡ true
  below-true h = lt_is sum bound (sum_below h)

  at_least-true : v ≤ℚ goal_value a g → is_literal_true a (compared g false false v).result ≡ true
  at_least-true h = le_is (parts_value a (map negated_part g.form.parts)) (neg_ℚ bound) (≤ℚ_trans (≤ℚ-from_eq negated) (turned_le bound sum (sum_at_least h)))

  above-true : v <ℚ goal_value a g → is_literal_true a (compared g false true v).result ≡ true
  above-true h = lt_is (parts_value a (map negated_part g.form.parts)) (neg_ℚ bound) (≤ℚ-<ℚ_trans (≤ℚ-from_eq negated) (turned_lt bound sum (sum_above h)))

-- a goal that has a value is at most it, and at least it
pub held_compared : (a : Assignment) (g : Goal) (from_above : Bool) (v : Fraction) → goal_value a g =ℚ v → is_literal_true a (compared g from_above false v).result ≡ true
held_compared a g true v h = at_most-true a g v (≤ℚ-from_eq h)
held_compared a g false v h = at_least-true a g v (≤ℚ-from_eq (=ℚ_sym h))

-- one that is better than a value, or as good, compares so
pub beaten : (a : Assignment) (g : Goal) (strict : Bool) (v : Fraction) → Beats g.up strict (goal_value a g) v → is_literal_true a (beats g strict v).result ≡ true
beaten a g strict v h = by_way g.up strict refl refl h
  where
    by_way : (up s : Bool) → g.up ≡ up → strict ≡ s → Beats up s (goal_value a g) v → is_literal_true a (compared g (if g.up then false else true) strict v).result ≡ true
    by_way true true e f k = subst (λ (t : Bool × Bool). is_literal_true a (compared g (if t.0 then false else true) t.1 v).result ≡ true) (sym (ap₂ (λ x y. (x, y)) e f)) (above-true a g v k)
    by_way true false e f k = subst (λ (t : Bool × Bool). is_literal_true a (compared g (if t.0 then false else true) t.1 v).result ≡ true) (sym (ap₂ (λ x y. (x, y)) e f)) (at_least-true a g v k)
    by_way false true e f k = subst (λ (t : Bool × Bool). is_literal_true a (compared g (if t.0 then false else true) t.1 v).result ≡ true) (sym (ap₂ (λ x y. (x, y)) e f)) (below-true a g v k)
    by_way false false e f k = subst (λ (t : Bool × Bool). is_literal_true a (compared g (if t.0 then false else true) t.1 v).result ≡ true) (sym (ap₂ (λ x y. (x, y)) e f)) (at_most-true a g v k)
