-- Sums of multiples of true literals are true bounds, so a contradiction leaves one of the literals false.
use Rattle.std.proofs.Common.{◌≡◌, Bool, true, false, not, ◌&&◌, ◌||◌, ◌⊎◌, inl, inr, List, [], ◌∷◌, pos, Some, None, refl, sym, subst, ◌∙◌, true≢false}
use Rattle.std.specs.Prelude.{if◌then◌else◌}
use Rattle.std.specs.List.{list_all, list_any, AllByRecursion}
use Rattle.std.proofs.lemmas.Bool.{and_parts}
use Rattle.nz_fractions.specs.Fraction.{Fraction, whole, ◌<ℚ◌, fraction_lt, Sum, Product}
use Rattle.nz_spec.specs.terms.Term.{Assignment, is_zero}
use Rattle.nz_spec.specs.numbers.Computation.{operated, at_once, turned_into}
use Rattle.nz_spec.specs.terms.Form.{Numbering, Part, parts_value}
use Rattle.nz_spec.specs.clauses.Literal.{Literal, term_literal, is_at_most, is_below, is_literal_true, negation_of, Clause, clause_of, IsClauseTrue}
use Rattle.nz_spec.specs.clauses.LinearLiteral.{is_without_units}
use Rattle.nz_spec.specs.clauses.Farkas.{Multiple, Bound, empty_bound, bound_of, is_linear_literal, is_multiple, bound_scaled, bounds_joined, multiples_onto, sum_of_multiples, is_contradiction, negations_of, FarkasClausesAreTrue}
use Rattle.nz_fractions.proofs.Laws.{≤ℚ-from_eq, ≤ℚ-from_lt, ≤ℚ_refl, <ℚ_irrefl}
use Rattle.nz_fractions.proofs.Order.{same-fraction_eq, le_from, lt_from}
use Rattle.nz_fractions.proofs.Arithmetic.{outcome-sum, outcome-product}
use Rattle.nz_fractions.proofs.Bounds.{Within, within_alike, within_sum, within_times}
use Rattle.nz_spec.proofs.FormValues.{by_sum, parts-value, parts-scaled}
use Rattle.nz_spec.proofs.Literals.{or_either, negation_is, together}

turned : (b : Bool) → not b ≡ false → b ≡ true
turned true g = refl
turned false g = absurd (true≢false g)

module _ (a : Assignment) where
  -- the assignment keeps the bound
  abbrev pub Meets : Bound → Type 0
  Meets x = Within x.is_strict (parts_value a x.parts) x.limit

  true_meets : (l : Literal) → is_literal_true a l ≡ true → Meets (bound_of l)
  true_meets (term_literal t sign) e = ≤ℚ_refl (whole (pos 0))
  true_meets (is_at_most ps b) e = le_from (parts_value a ps) b e
  true_meets (is_below ps b) e = lt_from (parts_value a ps) b e

  scaled_meets : (m : Fraction) (x : Bound) → whole (pos 0) <ℚ m → Meets x → Meets (bound_scaled m x).result
  scaled_meets m x z h =
      within_alike x.is_strict
      (parts-scaled (λ t. 0) a (operated Product m) m (outcome-product m) x.parts)
      (outcome-product m x.limit)
      (within_times x.is_strict m (parts_value a x.parts) x.limit z h)

  module _ (number : Numbering) where
    joined_meets : (x y : Bound) → Meets x → Meets y → Meets (bounds_joined number x y).result
    joined_meets x y h k =
        within_alike (x.is_strict || y.is_strict)
        (parts-value number a Sum by_sum x.parts y.parts)
        (outcome-sum x.limit y.limit)
        (within_sum x.is_strict y.is_strict (parts_value a x.parts) x.limit (parts_value a y.parts) y.limit h k)

    abbrev pub AreTrue : List Multiple → Type 0
    AreTrue ms = AllByRecursion (λ (m : Multiple). is_literal_true a m.literal ≡ true) ms

    onto_meets : (x : Bound) (ms : List Multiple) → Meets x → list_all is_multiple ms ≡ true → AreTrue ms → Meets (multiples_onto number x ms).result
    onto_meets x [] h e k = h
    onto_meets x (m ∷ ms) h e k =
        let both = and_parts (is_multiple m) (list_all is_multiple ms) e in
        let positive = and_parts (is_linear_literal m.literal) (fraction_lt (whole (pos 0)) m.multiplier) both.0 in
        let y = (bound_scaled m.multiplier (bound_of m.literal)).result in
        onto_meets (bounds_joined number x y).result ms
        (joined_meets x y h (scaled_meets m.multiplier (bound_of m.literal) (lt_from (whole (pos 0)) m.multiplier positive.1) (true_meets m.literal k.0)))
        both.1 k.1

    pub sum_meets : (ms : List Multiple) → list_all is_multiple ms ≡ true → AreTrue ms → Meets (sum_of_multiples number ms).result
    sum_meets ms e k = onto_meets empty_bound ms (≤ℚ_refl (whole (pos 0))) e k

    -- where none of the negations is true, all literals are
    fails_by : (m : Multiple) (ms : List Multiple) (b c : Bool) → is_literal_true a (negation_of m.literal) ≡ b → (b || c) ≡ false → (c ≡ false → AreTrue ms) → AreTrue (m ∷ ms)
    fails_by m ms true c f e rest = absurd (true≢false e)
    fails_by m ms false c f e rest = (turned (is_literal_true a m.literal) (sym (negation_is a m.literal) ∙ f), rest e)

    negations_fail : (ms : List Multiple) → list_any (is_literal_true a) (negations_of ms) ≡ false → AreTrue ms
    negations_fail [] e = tt
    negations_fail (m ∷ ms) e =
        fails_by m ms (is_literal_true a (negation_of m.literal)) (list_any (is_literal_true a) (negations_of ms)) refl e (negations_fail ms)

    -- so one of them is true, or the sum of the multiples is kept
    pub one_or_meets : (ms : List Multiple) → list_all is_multiple ms ≡ true
        → (list_any (is_literal_true a) (negations_of ms) ≡ true) ⊎ Meets (sum_of_multiples number ms).result
    one_or_meets ms e = by_any (list_any (is_literal_true a) (negations_of ms)) refl
      where
        by_any : (b : Bool) → list_any (is_literal_true a) (negations_of ms) ≡ b → (list_any (is_literal_true a) (negations_of ms) ≡ true) ⊎ Meets (sum_of_multiples number ms).result
        by_any true f = inl f
        by_any false f = inr (sum_meets ms e (negations_fail ms f))

  -- ---- Contradictions

  never : (s : Bool) (b : Fraction) → Within s (whole (pos 0)) b → (fraction_lt b (whole (pos 0)) || is_zero b && s) ≡ true → ⊥
  never s b h e = elim (or_either (fraction_lt b (whole (pos 0))) (is_zero b && s) e) [ inl f ↦ low s h (lt_from b (whole (pos 0)) f) | inr f ↦ met s h (and_parts (is_zero b) s f) ]
    where
      low : (s : Bool) → Within s (whole (pos 0)) b → b <ℚ whole (pos 0) → ⊥
      low true k f = <ℚ_irrefl k (≤ℚ-from_lt f)
      low false k f = <ℚ_irrefl f k

      met : (s : Bool) → Within s (whole (pos 0)) b → (is_zero b ≡ true) × (s ≡ true) → ⊥
      met true k f = <ℚ_irrefl k (≤ℚ-from_eq (same-fraction_eq b (whole (pos 0)) f.0))
      met false k f = true≢false (sym f.1)

  contradiction : (x : Bound) → is_contradiction x ≡ true → Meets x → ⊥
  contradiction x e h = by_parts x.parts x.is_strict x.limit e h
    where
      by_parts : (ps : List Part) (s : Bool) (b : Fraction) → (is_without_units ps && (fraction_lt b (whole (pos 0)) || is_zero b && s)) ≡ true → Within s (parts_value a ps) b → ⊥
      by_parts [] s b f k = never s b k f
      by_parts (p ∷ ps) s b f k = true≢false (sym f)

pub found : {c d : Clause} → Some c ≡ Some d → c ≡ d
found e = cc

module _ (number : Numbering) (ms : List Multiple) (c : Clause) (a : Assignment) where
  by_sum_of : (b : Bool) → is_contradiction (sum_of_multiples number ms).result ≡ b → list_all is_multiple ms ≡ true
      → (if b then Some (clause_of (negations_of ms)) else None) ≡ Some c → IsClauseTrue a c
  by_sum_of false f m g = absurd (cc)
  by_sum_of true f m g =
      subst (IsClauseTrue a) (found g)
      (together a (negations_of ms)
      ∙ elim (one_or_meets a number ms m) [ inl h ↦ h | inr h ↦ absurd (contradiction a (sum_of_multiples number ms).result f h) ])

  by_multiples : (b : Bool) → list_all is_multiple ms ≡ b
      → (if b then turned_into (λ x. if is_contradiction x then Some (clause_of (negations_of ms)) else None) (sum_of_multiples number ms) else at_once None).result ≡ Some c
      → IsClauseTrue a c
  by_multiples false m g = absurd (cc)
  by_multiples true m g = by_sum_of (is_contradiction (sum_of_multiples number ms).result) refl m g

pub farkas_clauses_are_true : FarkasClausesAreTrue
farkas_clauses_are_true number ms c e a = by_multiples number ms c a (list_all is_multiple ms) refl e
