-- Sums of multiples of sums are sums: each unit once, in order. So what is worth nothing has no units left.
use Rattle.std.proofs.Common.{◌≡◌, ℕ, ◌<◌, ◌≤◌, Bool, true, false, List, [], ◌∷◌, pos, refl, sym, ap, ◌∙◌, subst, true≢false, arith}
use Rattle.std.specs.Prelude.{nat_lt, if◌then◌else◌}
use Rattle.std.specs.List.{AllByRecursion}
use Rattle.std.proofs.lemmas.Bool.Decides.{nat_tests}
use Rattle.nz_fractions.specs.Fraction.{Fraction, whole, ◌=ℚ◌, ◌+ℚ◌, Sum, Product, outcome}
use Rattle.nz_fractions.proofs.Laws.{=ℚ_refl, =ℚ-from_same, =ℚ_sym}
use Rattle.nz_fractions.proofs.Order.{fraction_eq-same}
use Rattle.nz_fractions.proofs.Arithmetic.{+ℚ-zero}
use Rattle.nz_fractions.proofs.Solver.{◌∙ℚ◌, plus_right}
use Rattle.nz_spec.specs.terms.Term.{Term, is_zero}
use Rattle.nz_spec.specs.numbers.Computation.{operated, at_once, turned_into}
use Rattle.nz_spec.specs.terms.Form.{Numbering, Part, AreRising, MayPrecede, part_alone, part_joined, parts_joined, parts_scaled, with_part}
use Rattle.nz_spec.specs.terms.Same.{are_same_term, TellsTerms}
use Rattle.nz_spec.specs.simplex.Basis.{Valuation, unit_coefficient, worth, WorthIsByUnits}
use Rattle.nz_spec.specs.clauses.Farkas.{Bound, Multiple, bound_of, bound_scaled, bounds_joined, multiples_onto}
use Rattle.nz_simplex.specs.Contradictions.{AreSum}

abbrev IsNonzero : Part → Type 0
IsNonzero p = is_zero p.coefficient ≡ false

less_from : (m n : ℕ) → nat_lt m n ≡ true → m < n
less_from m n e = grind (arith, nat_tests)

most_from : (m n : ℕ) → nat_lt m n ≡ false → n ≤ m
most_from m n e = grind (arith, nat_tests)

all_weaker : {P Q : Part → Type 0} → ((p : Part) → P p → Q p) → (ps : List Part) → AllByRecursion P ps → AllByRecursion Q ps
all_weaker f [] h = tt
all_weaker f (p ∷ ps) h = (f p h.0, all_weaker f ps h.1)

module _ (number : Numbering) where
  -- what holds of a part with the unit, and of the others, holds of all
  with_all : (P : Part → Type 0) (u : Term) (c : Fraction) (ps : List Part) → (is_zero c ≡ false → P (record { coefficient = c; unit = u })) → AllByRecursion P ps → AllByRecursion P (with_part u c ps)
  with_all P u c ps first rest = by_test (is_zero c) refl
    where
      by_test : (b : Bool) → is_zero c ≡ b → AllByRecursion P (if b then ps else record { coefficient = c; unit = u } ∷ ps)
      by_test true e = rest
      by_test false e = (first e, rest)

  with_rising : (u : Term) (c : Fraction) (ps : List Part) → AllByRecursion (MayPrecede number (record { coefficient = c; unit = u })) ps → AreRising number ps → AreRising number (with_part u c ps)
  with_rising u c ps h rest = by_test (is_zero c)
    where
      by_test : (b : Bool) → AreRising number (if b then ps else record { coefficient = c; unit = u } ∷ ps)
      by_test true = rest
      by_test false = (h, rest)

  -- ---- Multiples

  scaled_all : (P : Part → Type 0) (m : Fraction) (ps : List Part) → ((p : Part) (c : Fraction) → P p → is_zero c ≡ false → P (record { coefficient = c; unit = p.unit }))
      → AllByRecursion P ps → AllByRecursion P (parts_scaled (operated Product m) ps).result
  scaled_all P m [] f h = tt
  scaled_all P m (p ∷ ps) f h =
      with_all P p.unit (outcome Product m p.coefficient) (parts_scaled (operated Product m) ps).result (λ e. f p (outcome Product m p.coefficient) h.0 e) (scaled_all P m ps f h.1)

  scaled_rising : (m : Fraction) (ps : List Part) → AreRising number ps → AreRising number (parts_scaled (operated Product m) ps).result
  scaled_rising m [] h = tt
  scaled_rising m (p ∷ ps) h =
      with_rising p.unit (outcome Product m p.coefficient) (parts_scaled (operated Product m) ps).result
      (scaled_all (MayPrecede number (record { coefficient = outcome Product m p.coefficient; unit = p.unit })) m ps (λ q c k e. k) (all_weaker (λ q k. k) ps h.0))
      (scaled_rising m ps h.1)

  pub scaled_sum : (m : Fraction) (ps : List Part) → AreSum number ps → AreSum number (parts_scaled (operated Product m) ps).result
  scaled_sum m ps s = record {
    rising = scaled_rising m ps s.rising;
    nonzero = scaled_all IsNonzero m ps (λ p c k e. e) s.nonzero;
  }

-- ---- A part that joins

module _ (terms : TellsTerms) (number : Numbering) where
  lesser_precedes : (p q : Part) → number p.unit < number q.unit → MayPrecede number p q
  lesser_precedes p q h = (omega (arith, h), by_test (are_same_term p.unit q.unit) refl)
    where
      by_test : (b : Bool) → are_same_term p.unit q.unit ≡ b → b ≡ false
      by_test false e = refl
      by_test true e = absurd (omega (arith, h, ap number (terms.same p.unit q.unit e)))

  abbrev joined_by : Part → List Part → Part → Bool → Bool → List Part
  joined_by p ps q same before =
      (if same then turned_into (λ c. with_part p.unit c ps) (operated Sum p.coefficient q.coefficient)
      else if before then at_once (part_alone Sum q ∷ p ∷ ps)
      else turned_into (λ rs. p ∷ rs) (part_joined number Sum ps q)).result

  joined_all : (P : Part → Type 0) (ps : List Part) (q : Part) → ((p : Part) (c : Fraction) → P p → is_zero c ≡ false → P (record { coefficient = c; unit = p.unit }))
      → AllByRecursion P ps → P q → AllByRecursion P (part_joined number Sum ps q).result
  joined_all P [] q f h k = (k, tt)
  joined_all P (p ∷ ps) q f h k = by_tests (are_same_term p.unit q.unit) (nat_lt (number q.unit) (number p.unit)) (joined_all P ps q f h.1 k)
    where
      by_tests : (b c : Bool) → AllByRecursion P (part_joined number Sum ps q).result → AllByRecursion P (joined_by p ps q b c)
      by_tests true c rest = with_all number P p.unit (outcome Sum p.coefficient q.coefficient) ps (λ e. f p (outcome Sum p.coefficient q.coefficient) h.0 e) h.1
      by_tests false true rest = (k, h)
      by_tests false false rest = (h.0, rest)

  joined_rising : (ps : List Part) (q : Part) → AreRising number ps → AreRising number (part_joined number Sum ps q).result
  joined_rising [] q h = (tt, tt)
  joined_rising (p ∷ ps) q h = by_tests (are_same_term p.unit q.unit) (nat_lt (number q.unit) (number p.unit)) refl refl (joined_rising ps q h.1)
    where
      by_tests : (b c : Bool) → are_same_term p.unit q.unit ≡ b → nat_lt (number q.unit) (number p.unit) ≡ c → AreRising number (part_joined number Sum ps q).result → AreRising number (joined_by p ps q b c)
      by_tests true c same before rest = with_rising number p.unit (outcome Sum p.coefficient q.coefficient) ps (all_weaker (λ r k. k) ps h.0) h.1
      by_tests false true same before rest =
          let below : number q.unit < number p.unit = less_from (number q.unit) (number p.unit) before in
          ((lesser_precedes q p below, all_weaker (λ r k. lesser_precedes q r (omega (arith, below, k.0))) ps h.0), h)
      by_tests false false same before rest =
          (joined_all (MayPrecede number p) ps q (λ r c k e. k) h.0 (most_from (number q.unit) (number p.unit) before, same), rest)

  joined_sum : (ps qs : List Part) → AreSum number ps → AllByRecursion IsNonzero qs → AreSum number (parts_joined number Sum ps qs).result
  joined_sum ps [] s h = s
  joined_sum ps (q ∷ qs) s h =
      joined_sum (part_joined number Sum ps q).result qs
      (record { rising = joined_rising ps q s.rising; nonzero = joined_all IsNonzero ps q (λ p c k e. e) s.nonzero h.0 })
      h.1

  pub onto_sum : (x : Bound) (ms : List Multiple) → AreSum number x.parts → AllByRecursion (λ (m : Multiple). AreSum number (bound_of m.literal).parts) ms
      → AreSum number (multiples_onto number x ms).result.parts
  onto_sum x [] s h = s
  onto_sum x (m ∷ ms) s h =
      let y = (bound_scaled m.multiplier (bound_of m.literal)).result in
      onto_sum (bounds_joined number x y).result ms (joined_sum x.parts y.parts s (scaled_sum number m.multiplier (bound_of m.literal).parts h.0).nonzero) h.1

  -- ---- What is worth nothing

  -- a unit has no coefficient in what comes behind it
  none_behind : (p : Part) (ps : List Part) → AllByRecursion (MayPrecede number p) ps → unit_coefficient p.unit ps =ℚ whole (pos 0)
  none_behind p [] h = =ℚ_refl (whole (pos 0))
  none_behind p (q ∷ qs) h = by_test (are_same_term q.unit p.unit) refl (none_behind p qs h.1)
    where
      by_test : (b : Bool) → are_same_term q.unit p.unit ≡ b → unit_coefficient p.unit qs =ℚ whole (pos 0) → (if b then q.coefficient +ℚ unit_coefficient p.unit qs else unit_coefficient p.unit qs) =ℚ whole (pos 0)
      by_test false e rest = rest
      by_test true e rest =
          let same : are_same_term p.unit q.unit ≡ true = subst (λ (u : Term). are_same_term u q.unit ≡ true) (terms.same q.unit p.unit e) (terms.one q.unit) in
          absurd (true≢false (sym same ∙ h.0.1))

  pub no_units : WorthIsByUnits → (ps : List Part) → AreSum number ps → ((v : Valuation) → worth v ps =ℚ whole (pos 0)) → ps ≡ []
  no_units units [] s h = refl
  no_units units (p ∷ ps) s h =
      let none : unit_coefficient p.unit (p ∷ ps) =ℚ whole (pos 0) = (units (p ∷ ps) []).0 h p.unit in
      let own : unit_coefficient p.unit (p ∷ ps) ≡ (p.coefficient +ℚ unit_coefficient p.unit ps) =
      ap (λ (b : Bool). if b then p.coefficient +ℚ unit_coefficient p.unit ps else unit_coefficient p.unit ps) (terms.one p.unit) in
      let zero : p.coefficient =ℚ whole (pos 0) =
      =ℚ_sym (+ℚ-zero p.coefficient) ∙ℚ plus_right p.coefficient (=ℚ_sym (none_behind p ps s.rising.0)) ∙ℚ =ℚ-from_same (sym own) ∙ℚ none in
      absurd (true≢false (sym (fraction_eq-same p.coefficient (whole (pos 0)) zero) ∙ s.nonzero.0))
