-- Sums with the other signs, and sums over a table of terms.
use Rattle.std.proofs.Common.{◌≡◌, zero, suc, ◌<◌, Bool, true, false, List, [], ◌∷◌, map, length, get_or, ◌≤◌, refl, sym, ap, ◌∙◌, true≢false, arith}
use Rattle.std.specs.Cmp.{first_so}
use Rattle.std.specs.Prelude.{ℤ, pos, negsuc, neg_ℤ, int_lt, ◌&&◌, if◌then◌else◌}
use Rattle.std.specs.List.{AllByRecursion}
use Rattle.std.proofs.lemmas.Int.{ints}
use Rattle.nz_fractions.specs.Fraction.{Fraction, neg_ℚ, whole, denominator, fraction_lt, fraction_eq}
use Rattle.nz_fractions.proofs.Identities.{neg-back, neg-nonzero, nonzero-test}
use Rattle.nz_spec.specs.terms.Form as spec
use Rattle.nz_spec.specs.terms.Form.{negated_part}
use Rattle.nz_spec.specs.simplex.LiteralBounds.{turned}
use Rattle.nz_spec.specs.clauses.Farkas.{bound_of}
use Rattle.nz_spec.specs.clauses.Literal.{Literal, term_literal, is_at_most, is_below, negation_of, are_same_parts, are_same_literal, TellsLiterals}
use Rattle.nz_spec.specs.terms.Same.{are_same_fraction}
use Rattle.nz_spec.specs.terms.Table.{Node, HasOneNumberEach, term_in}
use Rattle.nz_spec.specs.terms.Term.{are_same_sort, sort_of, is_zero}
use Rattle.nz_spec.specs.terms.Term as spec_terms
use Rattle.nz_term.specs.declared.heads.Sort.{Sort}
use Rattle.nz_term.specs.Constants as sorts
use Rattle.nz_lin.specs.declared.bound.Bound.{Bound}
use Rattle.nz_lin.specs.declared.form.Part.{Part}
use Rattle.nz_lin.specs.Bounds.{HasUnits, bounded, literal_over}
use Rattle.nz_lin.specs.Forms.{NamesUnit, AreInOrder, AreUnits, negated, part_over, parts_over}
use Rattle.nz_log.specs.Same.{same_sort, sort_same}
use Rattle.nz_reals.specs.Sums.{AreNonzero, IsFormSum, is_turned, turned_sum, zero_bound}

-- ---- Twice the other signs

pub parts_back : (ps : List spec.Part) → map negated_part (map negated_part ps) ≡ ps
parts_back [] = refl
parts_back (p ∷ ps) = λ i. record { coefficient = neg-back p.coefficient i; unit = p.unit } ∷ parts_back ps i

pub over_negated : (ns : List Node) (ps : List Part) → parts_over ns (map negated ps) ≡ map negated_part (parts_over ns ps)
over_negated ns [] = refl
over_negated ns (p ∷ ps) = ap (λ (l : List spec.Part). part_over ns (negated p) ∷ l) (over_negated ns ps)

-- ---- Signs

below_is : (q : Fraction) → fraction_lt q (whole (pos 0)) ≡ int_lt q.numerator (pos 0)
unfolding fraction_lt denominator
below_is q = by_test (int_lt q.numerator (pos 0)) (fraction_lt q (whole (pos 0))) refl refl
  where
    by_test : (a b : Bool) → int_lt q.numerator (pos 0) ≡ a → fraction_lt q (whole (pos 0)) ≡ b → b ≡ a
    by_test true true e f = refl
    by_test false false e f = refl
    by_test true false e f = absurd (omega (arith, ints, e, f))
    by_test false true e f = absurd (omega (arith, ints, e, f))

-- what isn't below 0 and isn't 0 is below 0 with the other sign
pub neg_below : (q : Fraction) → fraction_lt q (whole (pos 0)) ≡ false → is_zero q ≡ false → fraction_lt (neg_ℚ q) (whole (pos 0)) ≡ true
unfolding neg_ℚ fraction_eq denominator
neg_below q e nonzero = below_is (neg_ℚ q) ∙ by_number q.numerator (sym (below_is q) ∙ e) (zero_is q nonzero)
  where
    zero_is : (r : Fraction) → is_zero r ≡ false → r.numerator ≡ pos 0 → ⊥
    zero_is r n z = nonzero-test r n (record { cross = omega (arith, ints, z) })

    by_number : (n : ℤ) → int_lt n (pos 0) ≡ false → (n ≡ pos 0 → ⊥) → int_lt (neg_ℤ n) (pos 0) ≡ true
    by_number (pos zero) f n = absurd (n refl)
    by_number (pos (suc k)) f n = refl
    by_number (negsuc k) f n = absurd (true≢false (refl ∙ f))

-- what is below 0 isn't with the other sign
pub neg_above : (q : Fraction) → fraction_lt q (whole (pos 0)) ≡ true → fraction_lt (neg_ℚ q) (whole (pos 0)) ≡ false
unfolding neg_ℚ
neg_above q e = below_is (neg_ℚ q) ∙ by_number q.numerator (sym (below_is q) ∙ e)
  where
    by_number : (n : ℤ) → int_lt n (pos 0) ≡ true → int_lt (neg_ℤ n) (pos 0) ≡ false
    by_number (pos zero) f = refl
    by_number (pos (suc k)) f = absurd (omega (arith, ints, f))
    by_number (negsuc k) f = by_test (int_lt (pos (suc k)) (pos 0)) refl
      where
        by_test : (b : Bool) → int_lt (pos (suc k)) (pos 0) ≡ b → b ≡ false
        by_test false e = refl
        by_test true e = absurd (omega (arith, ints, e))

-- ---- Sums that are turned

pub negated_nonzero : (ps : List Part) → AreNonzero ps → AreNonzero (map negated ps)
negated_nonzero [] h = tt
negated_nonzero (p ∷ ps) h = (neg-nonzero p.coefficient h.0, negated_nonzero ps h.1)

pub turned_form : (ps : List Part) → AreNonzero ps → IsFormSum (turned_sum ps)
turned_form [] h = record { nonzero = tt; straight = refl }
turned_form (p ∷ ps) h = by_test (fraction_lt p.coefficient (whole (pos 0))) refl
  where
    by_test : (b : Bool) → fraction_lt p.coefficient (whole (pos 0)) ≡ b → IsFormSum (if b then map negated (p ∷ ps) else p ∷ ps)
    by_test true e = record { nonzero = negated_nonzero (p ∷ ps) h; straight = neg_above p.coefficient e }
    by_test false e = record { nonzero = h; straight = e }

-- over a table that is what the definitions have
pub turned_over : (ns : List Node) (ps : List Part) → parts_over ns (turned_sum ps) ≡ turned (parts_over ns ps)
turned_over ns [] = refl
turned_over ns (p ∷ ps) = by_test (fraction_lt p.coefficient (whole (pos 0)))
  where
    by_test : (b : Bool) → parts_over ns (if b then map negated (p ∷ ps) else p ∷ ps) ≡ (if b then map negated_part (parts_over ns (p ∷ ps)) else parts_over ns (p ∷ ps))
    by_test true = over_negated ns (p ∷ ps)
    by_test false = refl

-- the test of a sum that has a first part
pub turned_first : (ps : List Part) (p : Part) → 1 ≤ length ps → p ≡ get_or ps 0 p → is_turned ps ≡ fraction_lt p.coefficient (whole (pos 0))
turned_first [] p h e = absurd (omega (arith, h))
turned_first (q ∷ qs) p h e = ap (λ (r : Part). fraction_lt r.coefficient (whole (pos 0))) (sym e)

-- ---- Units

pub negated_units : (ns : List Node) (ps : List Part) → AreUnits ns ps → AreUnits ns (map negated ps)
negated_units ns ps units = record { names = names ps units.names; in_order = order ps units.in_order }
  where
    names : (qs : List Part) → AllByRecursion (NamesUnit ns) qs → AllByRecursion (NamesUnit ns) (map negated qs)
    names [] h = tt
    names (q ∷ qs) h = (h.0, names qs h.1)

    above : (q : Part) (qs : List Part) → AllByRecursion (λ (r : Part). q.unit < r.unit) qs → AllByRecursion (λ (r : Part). q.unit < r.unit) (map negated qs)
    above q [] h = tt
    above q (r ∷ rs) h = (h.0, above q rs h.1)

    order : (qs : List Part) → AreInOrder qs → AreInOrder (map negated qs)
    order [] h = tt
    order (q ∷ qs) h = (above q qs h.0, order qs h.1)

pub turned_units : (ns : List Node) (ps : List Part) → AreUnits ns ps → AreUnits ns (turned_sum ps)
turned_units ns ps units = by_test (is_turned ps)
  where
    by_test : (b : Bool) → AreUnits ns (if b then map negated ps else ps)
    by_test true = negated_units ns ps units
    by_test false = units

-- ---- Sums that are one over a table

sort_told : (s t : Sort) → sorts.sort_of s ≡ sorts.sort_of t → s ≡ t
sort_told s t e = same_sort s t (ap (λ (u : spec_terms.Sort). are_same_sort (sorts.sort_of s) u) (sym e) ∙ sort_same s)

module _ (ns : List Node) (one : HasOneNumberEach ns) where
  pub one_sum : (ps qs : List Part) → AllByRecursion (NamesUnit ns) ps → AllByRecursion (NamesUnit ns) qs → parts_over ns ps ≡ parts_over ns qs → ps ≡ qs
  one_sum [] [] h k e = refl
  one_sum [] (q ∷ qs) h k e = cc
  one_sum (p ∷ ps) [] h k e = cc
  one_sum (p ∷ ps) (q ∷ qs) h k e =
      let P : spec.Part = record { coefficient = p.coefficient; unit = term_in ns p.unit } in
      let Q : spec.Part = record { coefficient = q.coefficient; unit = term_in ns q.unit } in
      let first : P ≡ Q = cc in
      let rest : parts_over ns ps ≡ parts_over ns qs = cc in
      let coefficient : p.coefficient ≡ q.coefficient = ap (λ (r : spec.Part). r.coefficient) first in
      let term : term_in ns p.unit ≡ term_in ns q.unit = ap (λ (r : spec.Part). r.unit) first in
      let unit : p.unit ≡ q.unit = one p.unit q.unit h.0.0 k.0.0 term in
      let sort : p.sort ≡ q.sort = sort_told p.sort q.sort (h.0.1 ∙ ap sort_of term ∙ sym k.0.1) in
      let here : p ≡ q = λ i. record { unit = unit i; sort = sort i; coefficient = coefficient i } in
      let others = one_sum ps qs h.1 k.1 rest in
      λ i. here i ∷ others i

-- ---- The test of sums

pub sums_told : (tells : TellsLiterals) (ps qs : List spec.Part) → are_same_parts ps qs ≡ true → ps ≡ qs
sums_told tells ps qs e =
    let zero : Fraction = whole (pos 0) in
    let both : are_same_literal (is_at_most ps zero) (is_at_most qs zero) ≡ true = ap (λ (b : Bool). b && are_same_fraction zero zero) e in
    let same : is_at_most ps zero ≡ is_at_most qs zero = tells.same (is_at_most ps zero) (is_at_most qs zero) both in
    cc

pub sums_same : (tells : TellsLiterals) (ps : List spec.Part) → are_same_parts ps ps ≡ true
sums_same tells ps = first_so (are_same_parts ps ps) (are_same_fraction (whole (pos 0)) (whole (pos 0))) (tells.one (is_at_most ps (whole (pos 0))))

-- ---- A bound by its literal

-- the parts of the literal of a bound
pub literal_parts : (ns : List Node) (b : Bound) → (bound_of (literal_over ns b)).parts ≡ parts_over ns b.sides.parts
literal_parts ns b = by_sign b.strict
  where
    by_sign : (s : Bool) → (bound_of (bounded s (parts_over ns b.sides.parts) b.sides.offset)).parts ≡ parts_over ns b.sides.parts
    by_sign true = refl
    by_sign false = refl

negated_parts : (l : Literal) → (bound_of (negation_of l)).parts ≡ map negated_part (bound_of l).parts
negated_parts (term_literal t sign) = refl
negated_parts (is_at_most ps b) = refl
negated_parts (is_below ps b) = refl

bound_is : (b c : Bound) → b.sides.parts ≡ c.sides.parts → b.sides.offset ≡ c.sides.offset → b.strict ≡ c.strict → b ≡ c
bound_is b c e f g =
    let sides : b.sides ≡ c.sides = λ i. record { parts = e i; offset = f i } in
    λ i. record { sides = sides i; strict = g i }

-- a bound at most 0 with these units, over a table
pub zero_bound_is : (ns : List Node) → HasOneNumberEach ns → (ps : List Part) (r : Bound) → AreUnits ns ps → HasUnits ns r → r.strict ≡ false
    → literal_over ns r ≡ is_at_most (parts_over ns ps) (whole (pos 0)) → r ≡ zero_bound ps
zero_bound_is ns one ps r units has strict says =
    let here : literal_over ns r ≡ is_at_most (parts_over ns r.sides.parts) r.sides.offset = ap (λ (s : Bool). bounded s (parts_over ns r.sides.parts) r.sides.offset) strict in
    let same : is_at_most (parts_over ns r.sides.parts) r.sides.offset ≡ is_at_most (parts_over ns ps) (whole (pos 0)) = sym here ∙ says in
    let parts : parts_over ns r.sides.parts ≡ parts_over ns ps = cc in
    let offset : r.sides.offset ≡ whole (pos 0) = cc in
    bound_is r (zero_bound ps) (one_sum ns one r.sides.parts ps has.names units.names parts) offset strict

-- the negation of a bound has the sum with the other signs
pub negation_over : (ns : List Node) → HasOneNumberEach ns → (b n : Bound) → HasUnits ns b → HasUnits ns n → literal_over ns n ≡ negation_of (literal_over ns b)
    → n.sides.parts ≡ map negated b.sides.parts
negation_over ns one b n units has says =
    let over : parts_over ns n.sides.parts ≡ parts_over ns (map negated b.sides.parts) =
    sym (literal_parts ns n) ∙ ap (λ (l : Literal). (bound_of l).parts) says ∙ negated_parts (literal_over ns b)
    ∙ ap (map negated_part) (literal_parts ns b) ∙ sym (over_negated ns b.sides.parts) in
    one_sum ns one n.sides.parts (map negated b.sides.parts) has.names (negated_units ns b.sides.parts units).names over
