-- Sums that are one but for the order of their units, and literals that say the same: they are worth the same, and so are their negations.
use Rattle.std.proofs.Common.{◌≡◌, Bool, true, false, not, List, [], ◌∷◌, map, Option, Some, None, pos, negsuc, option_map, refl, sym, ap, ap₂, subst, ◌∙◌, arith}
use Rattle.std.specs.Prelude.{◌<◌, if◌then◌else◌}
use Rattle.std.specs.List.{AllByRecursion}
use Rattle.std.specs.Ordering.{is_lt}
use Rattle.nz_ints.proofs.Ring.{Atom, Literal as Number, ◌⊕◌, ◌⊗◌, Minus}
use Rattle.nz_fractions.specs.Fraction.{Fraction, denominator, whole, ◌=ℚ◌, ◌<ℚ◌, ◌+ℚ◌, neg_ℚ, ◌*ℚ◌, fraction_le, fraction_lt}
use Rattle.nz_fractions.proofs.Laws.{=ℚ_refl, =ℚ_sym, =ℚ-from_same, ≤ℚ-from_eq, ≤ℚ_trans, ≤ℚ-<ℚ_trans, <ℚ-≤ℚ_trans}
use Rattle.nz_fractions.proofs.Order.{lt-cmp, lt_from, le_is, le_from}
use Rattle.nz_fractions.proofs.Arithmetic.{+ℚ-zero, +ℚ-same, cmp-same}
use Rattle.nz_fractions.proofs.Identities.{times_zero}
use Rattle.nz_fractions.proofs.Solver.{◌∙ℚ◌, solve, times_right}
use Rattle.nz_spec.specs.numbers.Infinitesimal.{Infinitesimal, ◌=δ◌}
use Rattle.nz_spec.specs.terms.Term.{Term, Assignment}
use Rattle.nz_spec.specs.terms.Same.{are_same_term}
use Rattle.nz_spec.specs.terms.Form.{Numbering, Part, found, HaveOwnUnits, AreSameSum, as_written, reordered, negated_part, unit_value, parts_value}
use Rattle.nz_spec.specs.clauses.Literal.{Literal, term_literal, is_at_most, is_below, negation_of, SayTheSame, is_literal_true}
use Rattle.nz_spec.specs.clauses.LinearLiteral.{is_without_units}
use Rattle.nz_spec.specs.clauses.Farkas.{is_linear_literal, bound_of}
use Rattle.nz_spec.specs.clauses.Met.{IsMet}
use Rattle.nz_spec.specs.simplex.Basis.{Coefficients, Valuation, worth, weighted, unit_coefficient}
use Rattle.nz_spec.specs.simplex.Bland.{Position, ◌<δ◌, standing, at_most_bound}
use Rattle.nz_spec.specs.search.Search.{HasWorth}
use Rattle.nz_spec.specs.search.Atoms.{IsBroken, HasUnit}
use Rattle.nz_spec.specs.laws.Renumbering.{IsOrdered, IsRenumbered, LiteralsRenumber}
use Rattle.nz_spec.proofs.Same.{same_term}
use Rattle.nz_spec.proofs.BasisSums.{sum-same, sum-scaled}
use Rattle.nz_spec.proofs.FormValues.{value_is_worth}
use Rattle.nz_spec.proofs.FormWorth.{worth_is_by_units, worth-difference}
use Rattle.nz_spec.proofs.InfinitesimalMoves.{infinitesimals_move}
use Rattle.nz_spec.proofs.InfinitesimalOrder.{parts_times, less-times_neg, =δ_refl}
use Rattle.nz_spec.proofs.Negations.{parts-back}
use Rattle.nz_spec.proofs.RenumberedSums.{other_term, itself, found_negated}

-- ---- One sum

pub sum_back : (ps qs : List Part) → AreSameSum ps qs → AreSameSum qs ps
sum_back ps qs (as_written e) = as_written (sym e)
sum_back ps qs (reordered h) = reordered (record { before = h.after; after = h.before; alike = λ u. sym (h.alike u) })

pub sum_along : (ps qs rs : List Part) → AreSameSum ps qs → AreSameSum qs rs → AreSameSum ps rs
sum_along ps qs rs (as_written e) k = subst (λ (xs : List Part). AreSameSum xs rs) (sym e) k
sum_along ps qs rs (reordered h) (as_written f) = subst (AreSameSum ps) f (reordered h)
sum_along ps qs rs (reordered h) (reordered k) = reordered (record { before = h.before; after = k.after; alike = λ u. h.alike u ∙ k.alike u })

units_negated : (p : Part) (ps : List Part) → AllByRecursion (λ (q : Part). are_same_term p.unit q.unit ≡ false) ps
    → AllByRecursion (λ (q : Part). are_same_term p.unit q.unit ≡ false) (map negated_part ps)
units_negated p [] h = tt
units_negated p (q ∷ qs) h = (h.0, units_negated p qs h.1)

own_negated : (ps : List Part) → HaveOwnUnits ps → HaveOwnUnits (map negated_part ps)
own_negated [] h = tt
own_negated (p ∷ ps) h = (units_negated p ps h.0, own_negated ps h.1)

pub sums_negated : (ps qs : List Part) → AreSameSum ps qs → AreSameSum (map negated_part ps) (map negated_part qs)
sums_negated ps qs (as_written e) = as_written (ap (map negated_part) e)
sums_negated ps qs (reordered h) = reordered (record {
  before = own_negated ps h.before;
  after = own_negated qs h.after;
  alike = λ u. found_negated ps u ∙ ap (option_map neg_ℚ) (h.alike u) ∙ sym (found_negated qs u);
})

-- both have units, or neither has
pub same_units : (ps qs : List Part) → AreSameSum ps qs → is_without_units ps ≡ is_without_units qs
same_units ps qs (as_written e) = ap is_without_units e
same_units [] [] (reordered h) = refl
same_units [] (q ∷ qs) (reordered h) = let e : None ≡ Some q.coefficient = h.alike q.unit ∙ itself q qs in absurd (cc)
same_units (p ∷ ps) [] (reordered h) = let e : Some p.coefficient ≡ None = sym (itself p ps) ∙ h.alike p.unit in absurd (cc)
same_units (p ∷ ps) (q ∷ qs) (reordered h) = refl

-- ---- What it is worth

-- a coefficient, or 0 where there is none
abbrev or_zero : Option Fraction → Fraction
or_zero None = whole (pos 0)
or_zero (Some c) = c

-- a unit that stands elsewhere has no coefficient behind
none_behind : (p : Part) (u : Term) (ps : List Part) → are_same_term p.unit u ≡ true → AllByRecursion (λ (q : Part). are_same_term p.unit q.unit ≡ false) ps
    → unit_coefficient u ps ≡ whole (pos 0)
none_behind p u [] same h = refl
none_behind p u (q ∷ qs) same h =
    ap (λ (b : Bool). if b then q.coefficient +ℚ unit_coefficient u qs else unit_coefficient u qs) (other_term p.unit q.unit u h.0 same) ∙ none_behind p u qs same h.1

own_coefficient : (u : Term) (ps : List Part) → HaveOwnUnits ps → unit_coefficient u ps =ℚ or_zero (found u ps)
own_coefficient u [] h = =ℚ_refl (whole (pos 0))
own_coefficient u (p ∷ ps) h = by_test (are_same_term p.unit u) refl (own_coefficient u ps h.1)
  where
    by_test : (b : Bool) → are_same_term p.unit u ≡ b → unit_coefficient u ps =ℚ or_zero (found u ps)
        → (if b then p.coefficient +ℚ unit_coefficient u ps else unit_coefficient u ps) =ℚ or_zero (if b then Some p.coefficient else found u ps)
    by_test true e rest = +ℚ-same (=ℚ_refl p.coefficient) (=ℚ-from_same (none_behind p u ps e h.0)) ∙ℚ +ℚ-zero p.coefficient
    by_test false e rest = rest

pub same_worth : (v : Valuation) (ps qs : List Part) → AreSameSum ps qs → worth v ps =ℚ worth v qs
same_worth v ps qs (as_written e) = =ℚ-from_same (ap (worth v) e)
same_worth v ps qs (reordered h) =
    (worth_is_by_units ps qs).1 (λ u. own_coefficient u ps h.before ∙ℚ =ℚ-from_same (ap or_zero (h.alike u)) ∙ℚ =ℚ_sym (own_coefficient u qs h.after)) v

same_value : (a : Assignment) (ps qs : List Part) → AreSameSum ps qs → parts_value a ps =ℚ parts_value a qs
same_value a ps qs h = =ℚ-from_same (value_is_worth a ps) ∙ℚ same_worth (unit_value a) ps qs h ∙ℚ =ℚ-from_same (sym (value_is_worth a qs))

pub same_has : (p : Position) (ps qs : List Part) (x : Infinitesimal) → AreSameSum ps qs → HasWorth p ps x → HasWorth p qs x
same_has p ps qs x same h = record {
  row = h.row;
  at_basic = h.at_basic;
  equal = λ v. =ℚ_sym (same_worth v ps qs same) ∙ℚ h.equal v;
  at = h.at;
}

-- ---- Negated sums

worth_negated : (v : Valuation) (ps : List Part) → worth v (map negated_part ps) =ℚ (whole (negsuc 0) *ℚ worth v ps)
worth_negated v ps =
    worth-difference v [] ps ∙ℚ solve (worth v ps ∷ []) (Number (pos 0) ⊕ Minus (Atom 0)) (Number (negsuc 0) ⊗ Atom 0) refl

weighted_negated : (n : _) (c y : Coefficients) → weighted n (λ k. whole (negsuc 0) *ℚ c k) y =ℚ (whole (negsuc 0) *ℚ weighted n c y)
weighted_negated n c y =
    sum-same n (λ k. (whole (negsuc 0) *ℚ c k) *ℚ y k) (λ k. whole (negsuc 0) *ℚ (c k *ℚ y k))
    (λ k below. solve (c k ∷ y k ∷ []) (Number (negsuc 0) ⊗ Atom 0 ⊗ Atom 1) (Number (negsuc 0) ⊗ (Atom 0 ⊗ Atom 1)) refl)
    ∙ℚ sum-scaled n (whole (negsuc 0)) (λ k. c k *ℚ y k)

-- what a negated sum is worth
pub has_negated : (p : Position) (ps : List Part) (x : Infinitesimal) → HasWorth p ps x → HasWorth p (map negated_part ps) (parts_times (whole (negsuc 0)) x)
has_negated p ps x h = record {
  row = λ k. whole (negsuc 0) *ℚ h.row k;
  at_basic = λ k basic. times_right (whole (negsuc 0)) (h.at_basic k basic) ∙ℚ times_zero (whole (negsuc 0));
  equal = λ v. worth_negated v ps ∙ℚ times_right (whole (negsuc 0)) (h.equal v) ∙ℚ =ℚ_sym (weighted_negated _ h.row _);
  at = record {
    standard = times_right (whole (negsuc 0)) h.at.standard ∙ℚ =ℚ_sym (weighted_negated _ h.row _);
    coefficient = times_right (whole (negsuc 0)) h.at.coefficient ∙ℚ =ℚ_sym (weighted_negated _ h.row _);
  };
}

below_zero : whole (negsuc 0) <ℚ whole (pos 0)
unfolding denominator fraction_lt
below_zero = lt_from (whole (negsuc 0)) (whole (pos 0)) refl

-- a number and its negation, times -1
turned_back : (b : Fraction) → parts_times (whole (negsuc 0)) (standing (neg_ℚ b)) =δ standing b
turned_back b = record { standard = solve (b ∷ []) (Number (negsuc 0) ⊗ Minus (Atom 0)) (Atom 0) refl; coefficient = times_zero (whole (negsuc 0)) }

turned_over : (b : Fraction) → parts_times (whole (negsuc 0)) (standing b) =δ standing (neg_ℚ b)
turned_over b = record { standard = solve (b ∷ []) (Number (negsuc 0) ⊗ Atom 0) (Minus (Atom 0)) refl; coefficient = times_zero (whole (negsuc 0)) }

-- A bound on a negated sum is broken where the sum is below the negated bound.
pub negated_broken : (p : Position) (ps : List Part) (v : Infinitesimal) (b : Fraction) → HasWorth p ps v → v <δ standing (neg_ℚ b)
    → IsBroken p (is_at_most (map negated_part ps) b)
negated_broken p ps v b has below = record {
  value = parts_times (whole (negsuc 0)) v;
  has = has_negated p ps v has;
  outside =
      sym (infinitesimals_move.ordered (parts_times (whole (negsuc 0)) (standing (neg_ℚ b))) (standing b) (parts_times (whole (negsuc 0)) v) (parts_times (whole (negsuc 0)) v)
      (turned_back b) (=δ_refl (parts_times (whole (negsuc 0)) v)))
      ∙ less-times_neg (whole (negsuc 0)) (standing (neg_ℚ b)) v below_zero ∙ below;
}

pub broken_below : (p : Position) (ps : List Part) (b : Fraction) → IsBroken p (is_at_most (map negated_part ps) b) → (v : Infinitesimal) × HasWorth p ps v × (v <δ standing (neg_ℚ b))
broken_below p ps b broken =
    let v = parts_times (whole (negsuc 0)) broken.value in (
      v,
      subst (λ (qs : List Part). HasWorth p qs v) (parts-back ps) (has_negated p (map negated_part ps) broken.value broken.has),
      sym (infinitesimals_move.ordered v v (parts_times (whole (negsuc 0)) (standing b)) (standing (neg_ℚ b)) (=δ_refl v) (turned_over b))
          ∙ less-times_neg (whole (negsuc 0)) broken.value (standing b) below_zero ∙ broken.outside,
    )

-- ---- Literals

pub say_itself : (l : Literal) → SayTheSame l l
say_itself (term_literal t sign) = (refl, refl)
say_itself (is_at_most ps b) = (as_written refl, refl)
say_itself (is_below ps b) = (as_written refl, refl)

pub say_back : (l m : Literal) → SayTheSame l m → SayTheSame m l
say_back (term_literal t p) (term_literal u q) h = (sym h.0, sym h.1)
say_back (is_at_most ps b) (is_at_most qs c) h = (sum_back ps qs h.0, sym h.1)
say_back (is_below ps b) (is_below qs c) h = (sum_back ps qs h.0, sym h.1)
say_back l m h = absurd h

pub say_along : (l m k : Literal) → SayTheSame l m → SayTheSame m k → SayTheSame l k
say_along (term_literal t p) (term_literal u q) (term_literal v r) h j = (h.0 ∙ j.0, h.1 ∙ j.1)
say_along (term_literal t p) (term_literal u q) k h j = absurd j
say_along (is_at_most ps b) (is_at_most qs c) (is_at_most rs d) h j = (sum_along ps qs rs h.0 j.0, h.1 ∙ j.1)
say_along (is_at_most ps b) (is_at_most qs c) k h j = absurd j
say_along (is_below ps b) (is_below qs c) (is_below rs d) h j = (sum_along ps qs rs h.0 j.0, h.1 ∙ j.1)
say_along (is_below ps b) (is_below qs c) k h j = absurd j
say_along l m k h j = absurd h

pub say_negated : (l m : Literal) → SayTheSame l m → SayTheSame (negation_of l) (negation_of m)
say_negated (term_literal t p) (term_literal u q) h = (h.0, ap not h.1)
say_negated (is_at_most ps b) (is_at_most qs c) h = (sums_negated ps qs h.0, ap neg_ℚ h.1)
say_negated (is_below ps b) (is_below qs c) h = (sums_negated ps qs h.0, ap neg_ℚ h.1)
say_negated l m h = absurd h

pub say_linear : (l m : Literal) → SayTheSame l m → is_linear_literal l ≡ is_linear_literal m
say_linear (term_literal t p) (term_literal u q) h = refl
say_linear (is_at_most ps b) (is_at_most qs c) h = refl
say_linear (is_below ps b) (is_below qs c) h = refl
say_linear l m h = absurd h

pub say_limits : (l m : Literal) → SayTheSame l m → (bound_of l).limit ≡ (bound_of m).limit
say_limits (term_literal t p) (term_literal u q) h = refl
say_limits (is_at_most ps b) (is_at_most qs c) h = h.1
say_limits (is_below ps b) (is_below qs c) h = h.1
say_limits l m h = absurd h

pub say_units : (l m : Literal) → SayTheSame l m → HasUnit l → HasUnit m
say_units (term_literal t p) (term_literal u q) h e = e
say_units (is_at_most ps b) (is_at_most qs c) h e = sym (same_units ps qs h.0) ∙ e
say_units (is_below ps b) (is_below qs c) h e = sym (same_units ps qs h.0) ∙ e
say_units l m h e = absurd h

-- ---- Their truth

same_lt : (p q b c : Fraction) → p =ℚ q → b ≡ c → fraction_lt p b ≡ fraction_lt q c
same_lt p q b c e f = lt-cmp p b ∙ ap is_lt (cmp-same e (=ℚ-from_same f)) ∙ sym (lt-cmp q c)

same_le : (p q b c : Fraction) → p =ℚ q → b ≡ c → fraction_le p b ≡ fraction_le q c
same_le p q b c e f = ap (fraction_le p) f ∙ by_tests (fraction_le p c) (fraction_le q c) refl refl
  where
    by_tests : (x y : Bool) → fraction_le p c ≡ x → fraction_le q c ≡ y → x ≡ y
    by_tests true true h k = refl
    by_tests false false h k = refl
    by_tests true false h k = sym (le_is q c (≤ℚ_trans (≤ℚ-from_eq (=ℚ_sym e)) (le_from p c h))) ∙ k
    by_tests false true h k = sym h ∙ le_is p c (≤ℚ_trans (≤ℚ-from_eq e) (le_from q c k))

pub say_truth : (a : Assignment) (l m : Literal) → SayTheSame l m → is_literal_true a l ≡ is_literal_true a m
say_truth a (term_literal t p) (term_literal u q) h = ap₂ (λ (x : Term) (s : Bool). is_literal_true a (term_literal x s)) h.0 h.1
say_truth a (is_at_most ps b) (is_at_most qs c) h = same_le (parts_value a ps) (parts_value a qs) b c (same_value a ps qs h.0) h.1
say_truth a (is_below ps b) (is_below qs c) h = same_lt (parts_value a ps) (parts_value a qs) b c (same_value a ps qs h.0) h.1
say_truth a l m h = absurd h

pub say_met : (truths : Term → Option Bool) (v : Valuation) (l m : Literal) → SayTheSame l m → IsMet truths v l → IsMet truths v m
say_met truths v (term_literal t p) (term_literal u q) h k = ap truths (sym h.0) ∙ k ∙ ap Some h.1
say_met truths v (is_at_most ps b) (is_at_most qs c) h k = ≤ℚ_trans (≤ℚ-from_eq (=ℚ_sym (same_worth v ps qs h.0))) (≤ℚ_trans k (≤ℚ-from_eq (=ℚ-from_same h.1)))
say_met truths v (is_below ps b) (is_below qs c) h k =
    ≤ℚ-<ℚ_trans (≤ℚ-from_eq (=ℚ_sym (same_worth v ps qs h.0))) (<ℚ-≤ℚ_trans k (≤ℚ-from_eq (=ℚ-from_same h.1)))
say_met truths v l m h k = absurd h

pub say_broken : (p : Position) (l m : Literal) → SayTheSame l m → IsBroken p l → IsBroken p m
say_broken p (term_literal t r) (term_literal u q) h k = record { value = k.value; has = k.has; outside = k.outside }
say_broken p (is_at_most ps b) (is_at_most qs c) h k =
    record { value = k.value; has = same_has p ps qs k.value h.0 k.has; outside = subst (λ (d : Fraction). at_most_bound false d <δ k.value) h.1 k.outside }
say_broken p (is_below ps b) (is_below qs c) h k =
    record { value = k.value; has = same_has p ps qs k.value h.0 k.has; outside = subst (λ (d : Fraction). at_most_bound true d <δ k.value) h.1 k.outside }
say_broken p l m h k = absurd h

-- ---- Renumbered sums

module _ (number : Numbering) (us : List Term) where
  behind_own : (p : Part) (ps : List Part) → AllByRecursion (λ (q : Part). number p.unit < number q.unit) ps → AllByRecursion (λ (q : Part). are_same_term p.unit q.unit ≡ false) ps
  behind_own p [] h = tt
  behind_own p (q ∷ qs) h = (by_test (are_same_term p.unit q.unit) refl, behind_own p qs h.1)
    where
      by_test : (b : Bool) → are_same_term p.unit q.unit ≡ b → are_same_term p.unit q.unit ≡ false
      by_test false e = e
      by_test true e =
          let less : number p.unit < number q.unit = h.0 in
          let same : number p.unit ≡ number q.unit = ap number (same_term p.unit q.unit e) in
          absurd (omega (arith, less, same))

  ordered_own : (ps : List Part) → IsOrdered number us ps → HaveOwnUnits ps
  ordered_own [] h = tt
  ordered_own (p ∷ ps) h = (behind_own p ps h.1, ordered_own ps h.2)

pub renumbered_same : (m n : Numbering) (us : List Term) (ps qs : List Part) → IsRenumbered m n us ps qs → AreSameSum ps qs
renumbered_same m n us ps qs h = reordered (record { before = ordered_own m us ps h.before; after = ordered_own n us qs h.after; alike = h.alike })

pub renumbered_says : (m n : Numbering) (us : List Term) (l k : Literal) → LiteralsRenumber m n us l k → SayTheSame l k
renumbered_says m n us (term_literal t p) (term_literal u q) h = h
renumbered_says m n us (is_at_most ps b) (is_at_most qs c) h = (renumbered_same m n us ps qs h.0, h.1)
renumbered_says m n us (is_below ps b) (is_below qs c) h = (renumbered_same m n us ps qs h.0, h.1)
renumbered_says m n us l k h = absurd h
