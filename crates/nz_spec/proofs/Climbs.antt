-- Laws of climbs: what bounds the goal at a vertex, and what it passes along a ray.
use Rattle.std.proofs.Common.{ℕ, Bool, true, false, IsTrue, List, [], ◌∷◌, ℤ, pos, negsuc, ◌+ℤ◌, ◌≤ℤ◌, unsigned_abs, refl, arith, sym, subst}
use Rattle.std.proofs.lemmas.Int.{ints}
use Rattle.nz_lists.proofs.Elements.{AllByRecursion-weaker}
use Rattle.nz_ints.proofs.Products.{mul-le-mul_pos}
use Rattle.nz_ints.proofs.Ring.{Atom, Literal, ◌⊕◌, ◌⊗◌, Minus}
use Rattle.nz_fractions.specs.Fraction.{Fraction, denominator, whole, ◌=ℚ◌, ◌≤ℚ◌, ◌<ℚ◌, fraction_le, fraction_lt, ◌+ℚ◌, neg_ℚ, ◌*ℚ◌, ◌/ℚ◌, floor}
use Rattle.nz_spec.specs.terms.Term.{Term, Assignment}
use Rattle.nz_spec.specs.terms.Form.{Part, unit_value}
use Rattle.nz_spec.specs.simplex.Basis.{worth}
use Rattle.nz_spec.specs.clauses.Literal as literals
use Rattle.nz_spec.specs.clauses.Literal.{term_literal, is_at_most, is_below, is_literal_true}
use Rattle.nz_spec.specs.clauses.Goals.{IsBetter, IsAsGood}
use Rattle.nz_spec.specs.simplex.Climb.{Line, Range, IsInRange, is_met, kept_literals, goal_at, point_at, VerticesBoundGoal, RaysPassAll}
use Rattle.nz_fractions.proofs.Laws.{=ℚ_sym, ≤ℚ-from_eq, ≤ℚ_refl, <ℚ-≤ℚ_trans, ≤ℚ-<ℚ_trans}
use Rattle.nz_fractions.proofs.Arithmetic.{*ℚ_comm}
use Rattle.nz_spec.proofs.FormValues.{value_is_worth}
use Rattle.nz_fractions.proofs.FloorsAndCeilings.{rounds}
use Rattle.nz_fractions.proofs.Bounds.{within_sum, times_lt}
use Rattle.nz_fractions.proofs.Solver.{◌∙ℚ◌, solve, plus_left, plus_right}
use Rattle.nz_fractions.proofs.Quotients.{quotient-back}

-- ---- Vertices

-- a true literal is met by what the units are worth
met : (a : Assignment) (l : literals.Literal) → IsTrue (is_literal_true a l) → IsTrue (is_met (unit_value a) l)
met a (term_literal t sign) h = refl
met a (is_at_most ps b) h = subst (λ (x : Fraction). IsTrue (fraction_le x b)) (value_is_worth a ps) h
met a (is_below ps b) h = subst (λ (x : Fraction). IsTrue (fraction_lt x b)) (value_is_worth a ps) h

pub vertices_bound_goal : VerticesBoundGoal
vertices_bound_goal r f vertex a true_ones units =
    let kept =
    AllByRecursion-weaker (λ (l : literals.Literal). IsTrue (is_literal_true a l)) (λ (l : literals.Literal). IsTrue (is_met (unit_value a) l)) (met a) (kept_literals r) true_ones
    in
    let found = vertex.best (unit_value a) (record { literals = kept; units = units }) in (
      found.0,
      found.1,
      subst (λ (x : Fraction). IsAsGood r.up (goal_at r (point_at vertex.lines found.0)) (x +ℚ r.goal.offset)) (sym (value_is_worth a r.goal.parts)) found.2,
    )

-- ---- Rays

-- a sum along lines is a line
sum_along : (lines : Term → Line) (s : Fraction) (ps : List Part)
    → worth (point_at lines s) ps =ℚ (worth (λ (u : Term). (lines u).start) ps +ℚ worth (λ (u : Term). (lines u).slope) ps *ℚ s)
sum_along lines s [] = solve (s ∷ []) (Literal (pos 0)) (Literal (pos 0) ⊕ Literal (pos 0) ⊗ Atom 0) refl
sum_along lines s (p ∷ ps) =
    let line = lines p.unit in
    let starts = worth (λ (u : Term). (lines u).start) ps in
    let slopes = worth (λ (u : Term). (lines u).slope) ps in
    plus_right (p.coefficient *ℚ (line.start +ℚ line.slope *ℚ s)) (sum_along lines s ps)
    ∙ℚ solve (p.coefficient ∷ line.start ∷ line.slope ∷ s ∷ starts ∷ slopes ∷ [])
    (Atom 0 ⊗ (Atom 1 ⊕ Atom 2 ⊗ Atom 3) ⊕ (Atom 4 ⊕ Atom 5 ⊗ Atom 3))
    ((Atom 0 ⊗ Atom 1 ⊕ Atom 4) ⊕ (Atom 0 ⊗ Atom 2 ⊕ Atom 5) ⊗ Atom 3)
    refl

-- an integer is at most a natural number
at_most_size : (z : ℤ) → z ≤ℤ pos (unsigned_abs z)
at_most_size (pos n) = omega (arith, ints)
at_most_size (negsuc n) = omega (arith, ints)

below_natural : (z : ℤ) → whole z ≤ℚ whole (pos (unsigned_abs z))
unfolding denominator
below_natural z = record { cross = mul-le-mul_pos z (pos (unsigned_abs z)) 1 (at_most_size z) }

-- multiples of what is above 0 pass every number
passed : (slope q : Fraction) → whole (pos 0) <ℚ slope → (n : ℕ) × (q <ℚ (slope *ℚ whole (pos n)))
passed slope q above =
    let quotient = q /ℚ slope in
    let next = floor quotient +ℤ pos 1 in
    let n = unsigned_abs next in
    let less : quotient <ℚ whole (pos n) = <ℚ-≤ℚ_trans (rounds quotient).0.greatest (below_natural next) in
    (n, ≤ℚ-<ℚ_trans (≤ℚ-from_eq (=ℚ_sym (quotient-back q slope above) ∙ℚ *ℚ_comm quotient slope)) (times_lt slope quotient (whole (pos n)) above less))

-- what is less stays so when the same is added
less_with : (p q r : Fraction) → p <ℚ q → (p +ℚ r) <ℚ (q +ℚ r)
less_with p q r h = within_sum true false p q r r h (≤ℚ_refl r)

less_alike : {p q x y : Fraction} → x =ℚ p → q =ℚ y → p <ℚ q → x <ℚ y
less_alike e f h = ≤ℚ-<ℚ_trans (≤ℚ-from_eq e) (<ℚ-≤ℚ_trans h (≤ℚ-from_eq f))

-- so does a line, in its direction
line_passes : (up : Bool) (start slope q : Fraction) → IsBetter up slope (whole (pos 0)) → (n : ℕ) × IsBetter up (start +ℚ slope *ℚ whole (pos n)) q
line_passes true start slope q above =
    let found = passed slope (q +ℚ neg_ℚ start) above in
    let s = whole (pos found.0) in (
      found.0,
      less_alike
          (solve (q ∷ start ∷ []) (Atom 0) ((Atom 0 ⊕ Minus (Atom 1)) ⊕ Atom 1) refl)
          (solve (start ∷ slope ∷ s ∷ []) (Atom 1 ⊗ Atom 2 ⊕ Atom 0) (Atom 0 ⊕ Atom 1 ⊗ Atom 2) refl)
          (less_with (q +ℚ neg_ℚ start) (slope *ℚ s) start found.1),
    )
line_passes false start slope q below =
    let above : whole (pos 0) <ℚ neg_ℚ slope =
    less_alike
    (solve (slope ∷ []) (Literal (pos 0)) (Atom 0 ⊕ Minus (Atom 0)) refl)
    (solve (slope ∷ []) (Literal (pos 0) ⊕ Minus (Atom 0)) (Minus (Atom 0)) refl)
    (less_with slope (whole (pos 0)) (neg_ℚ slope) below)
    in
    let found = passed (neg_ℚ slope) (start +ℚ neg_ℚ q) above in
    let s = whole (pos found.0) in (
      found.0,
      less_alike
          (solve (start ∷ slope ∷ s ∷ q ∷ []) (Atom 0 ⊕ Atom 1 ⊗ Atom 2) ((Atom 0 ⊕ Minus (Atom 3)) ⊕ (Atom 3 ⊕ Atom 1 ⊗ Atom 2)) refl)
          (solve (slope ∷ s ∷ q ∷ []) (Minus (Atom 0) ⊗ Atom 1 ⊕ (Atom 2 ⊕ Atom 0 ⊗ Atom 1)) (Atom 2) refl)
          (less_with (start +ℚ neg_ℚ q) (neg_ℚ slope *ℚ s) (q +ℚ slope *ℚ s) found.1),
    )

better_alike : (up : Bool) {p x : Fraction} (q : Fraction) → p =ℚ x → IsBetter up p q → IsBetter up x q
better_alike true q e h = <ℚ-≤ℚ_trans h (≤ℚ-from_eq e)
better_alike false q e h = ≤ℚ-<ℚ_trans (≤ℚ-from_eq (=ℚ_sym e)) h

pub rays_pass_all : RaysPassAll
rays_pass_all r f ray q =
    let starts = worth (λ (u : Term). (ray.lines u).start) r.goal.parts in
    let slopes = worth (λ (u : Term). (ray.lines u).slope) r.goal.parts in
    let found = line_passes r.up (starts +ℚ r.goal.offset) slopes q ray.slope in
    let s = whole (pos found.0) in (
      s,
      subst (λ (range : Range). IsInRange range s) (sym ray.range) (found.0, refl),
      better_alike r.up q
          (solve (starts ∷ r.goal.offset ∷ slopes ∷ s ∷ []) ((Atom 0 ⊕ Atom 1) ⊕ Atom 2 ⊗ Atom 3) ((Atom 0 ⊕ Atom 2 ⊗ Atom 3) ⊕ Atom 1) refl
          ∙ℚ plus_left r.goal.offset (=ℚ_sym (sum_along ray.lines s r.goal.parts)))
          found.1,
    )
