-- A contradiction stays one over other units: nothing but the units changes, and these come to nothing whatever they are worth.
use Rattle.std.proofs.Common.{◌≡◌, Bool, true, false, true≢false, List, [], ◌∷◌, map, pos, refl, sym, ap, ap₂, ◌∙◌}
use Rattle.std.specs.Prelude.{◌&&◌, ◌||◌}
use Rattle.std.specs.List.{list_all, AllByRecursion}
use Rattle.std.proofs.lemmas.Bool.{and_parts}
use Rattle.nz_fractions.specs.Fraction.{Fraction, whole, ◌=ℚ◌, ◌+ℚ◌, ◌*ℚ◌, Sum, Product, fraction_lt, outcome}
use Rattle.nz_fractions.proofs.Laws.{=ℚ-from_same, =ℚ_sym}
use Rattle.nz_fractions.proofs.Identities.{zero_left}
use Rattle.nz_fractions.proofs.Solver.{◌∙ℚ◌}
use Rattle.nz_spec.specs.terms.Term.{Term, is_zero}
use Rattle.nz_spec.specs.terms.Form.{Numbering, Part}
use Rattle.nz_spec.specs.clauses.Literal.{Literal, term_literal, is_at_most, is_below}
use Rattle.nz_spec.specs.clauses.LinearLiteral.{is_without_units}
use Rattle.nz_spec.specs.terms.Same.{TellsTerms}
use Rattle.nz_spec.specs.simplex.Basis.{Valuation, worth, WorthIsByUnits}
use Rattle.nz_spec.specs.clauses.Farkas.{Bound, Multiple, bound_of, bound_scaled, bounds_joined, empty_bound, is_linear_literal, is_multiple, multiples_onto, sum_of_multiples}
use Rattle.nz_simplex.specs.Contradictions.{AreSum, Contradicts}
use Rattle.nz_simplex.specs.OtherUnits.{ContradictionsStay, other_literal, other_multiple, other_part}
use Rattle.nz_simplex.proofs.SumsInOrder.{no_units, onto_sum}
use Rattle.nz_simplex.proofs.Totals.{onto-worth, total}

no_parts : (ps : List Part) → is_without_units ps ≡ true → ps ≡ []
no_parts [] e = refl
no_parts (p ∷ ps) e = absurd (true≢false (sym e))

module _ (other : Term → Term) where
  -- ---- Literals

  other_worth : (v : Valuation) (ps : List Part) → worth v (map (other_part other) ps) ≡ worth (λ t. v (other t)) ps
  other_worth v [] = refl
  other_worth v (p ∷ ps) = ap (λ (q : Fraction). p.coefficient *ℚ v (other p.unit) +ℚ q) (other_worth v ps)

  literal_worth : (v : Valuation) (l : Literal) → worth v (bound_of (other_literal other l)).parts ≡ worth (λ t. v (other t)) (bound_of l).parts
  literal_worth v (term_literal t sign) = refl
  literal_worth v (is_at_most ps b) = other_worth v ps
  literal_worth v (is_below ps b) = other_worth v ps

  same_limit : (l : Literal) → (bound_of (other_literal other l)).limit ≡ (bound_of l).limit
  same_limit (term_literal t sign) = refl
  same_limit (is_at_most ps b) = refl
  same_limit (is_below ps b) = refl

  same_strict : (l : Literal) → (bound_of (other_literal other l)).is_strict ≡ (bound_of l).is_strict
  same_strict (term_literal t sign) = refl
  same_strict (is_at_most ps b) = refl
  same_strict (is_below ps b) = refl

  same_linear : (l : Literal) → is_linear_literal (other_literal other l) ≡ is_linear_literal l
  same_linear (term_literal t sign) = refl
  same_linear (is_at_most ps b) = refl
  same_linear (is_below ps b) = refl

  -- ---- Sums

  same_multiples : (ms : List Multiple) → list_all is_multiple (map (other_multiple other) ms) ≡ list_all is_multiple ms
  same_multiples [] = refl
  same_multiples (m ∷ ms) = ap₂ (λ (b c : Bool). (b && fraction_lt (whole (pos 0)) m.multiplier) && c) (same_linear m.literal) (same_multiples ms)

  total_worth : (v : Valuation) (ms : List Multiple) → total (λ (l : Literal). worth v (bound_of l).parts) (map (other_multiple other) ms) ≡ total (λ (l : Literal). worth (λ t. v (other t)) (bound_of l).parts) ms
  total_worth v [] = refl
  total_worth v (m ∷ ms) = ap₂ (λ (p q : Fraction). m.multiplier *ℚ p +ℚ q) (literal_worth v m.literal) (total_worth v ms)

  module _ (number later : Numbering) where
    -- limits don't depend on the units, nor does what is strict
    same_limits : (x y : Bound) (ms : List Multiple) → y.limit ≡ x.limit → (multiples_onto later y (map (other_multiple other) ms)).result.limit ≡ (multiples_onto number x ms).result.limit
    same_limits x y [] e = e
    same_limits x y (m ∷ ms) e =
        same_limits (bounds_joined number x (bound_scaled m.multiplier (bound_of m.literal)).result).result
        (bounds_joined later y (bound_scaled m.multiplier (bound_of (other_literal other m.literal))).result).result ms
        (ap₂ (λ (p q : Fraction). outcome Sum p (outcome Product m.multiplier q)) e (same_limit m.literal))

    all_strict : (x y : Bound) (ms : List Multiple) → y.is_strict ≡ x.is_strict → (multiples_onto later y (map (other_multiple other) ms)).result.is_strict ≡ (multiples_onto number x ms).result.is_strict
    all_strict x y [] e = e
    all_strict x y (m ∷ ms) e =
        all_strict (bounds_joined number x (bound_scaled m.multiplier (bound_of m.literal)).result).result
        (bounds_joined later y (bound_scaled m.multiplier (bound_of (other_literal other m.literal))).result).result ms
        (ap₂ (λ (p q : Bool). p || q) e (same_strict m.literal))

    other_sums : (ms : List Multiple) → AllByRecursion (λ (m : Multiple). AreSum later (bound_of (other_literal other m.literal)).parts) ms
        → AllByRecursion (λ (m : Multiple). AreSum later (bound_of m.literal).parts) (map (other_multiple other) ms)
    other_sums [] h = tt
    other_sums (m ∷ ms) h = (h.0, other_sums ms h.1)

    module _ (terms : TellsTerms) (units : WorthIsByUnits) (ms : List Multiple) (c : Contradicts number ms) (sums : AllByRecursion (λ (m : Multiple). AreSum later (bound_of (other_literal other m.literal)).parts) ms) where
      abbrev sum : Bound
      sum = (sum_of_multiples number ms).result

      abbrev sum_then : Bound
      sum_then = (sum_of_multiples later (map (other_multiple other) ms)).result

      both : (is_without_units sum.parts ≡ true) × ((fraction_lt sum.limit (whole (pos 0)) || is_zero sum.limit && sum.is_strict) ≡ true)
      both = and_parts (is_without_units sum.parts) (fraction_lt sum.limit (whole (pos 0)) || is_zero sum.limit && sum.is_strict) c.contradiction

      -- the units come to nothing
      nothing : (v : Valuation) → total (λ (l : Literal). worth v (bound_of l).parts) ms =ℚ whole (pos 0)
      nothing v =
          =ℚ_sym (onto-worth v terms number empty_bound ms ∙ℚ zero_left (total (λ (l : Literal). worth v (bound_of l).parts) ms))
          ∙ℚ =ℚ-from_same (ap (worth v) (no_parts sum.parts both.0))

      without : sum_then.parts ≡ []
      without =
          no_units terms later units sum_then.parts
          (onto_sum terms later empty_bound (map (other_multiple other) ms) (record { rising = tt; nonzero = tt }) (other_sums ms sums))
          (λ v.
          onto-worth v terms later empty_bound (map (other_multiple other) ms)
          ∙ℚ zero_left (total (λ (l : Literal). worth v (bound_of l).parts) (map (other_multiple other) ms))
          ∙ℚ =ℚ-from_same (total_worth v ms)
          ∙ℚ nothing (λ t. v (other t)))

      pub stays : Contradicts later (map (other_multiple other) ms)
      stays = record {
        multiples = same_multiples ms ∙ c.multiples;
        contradiction =
            ap₂ (λ (b d : Bool). b && d) (ap is_without_units without)
            (ap₂ (λ (q : Fraction) (b : Bool). fraction_lt q (whole (pos 0)) || is_zero q && b) (same_limits empty_bound empty_bound ms refl) (all_strict empty_bound empty_bound ms refl) ∙ both.1);
      }

pub contradictions_stay : TellsTerms → WorthIsByUnits → ContradictionsStay
contradictions_stay terms units number later other ms c sums = stays other number later terms units ms c sums
