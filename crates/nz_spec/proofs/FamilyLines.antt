-- What lines tell of the values of terms along a family.
use Rattle.std.proofs.Common.{◌≡◌, ◌⊎◌, inl, inr, Bool, false, [], ◌∷◌, pos, refl, sym, subst}
use Rattle.std.specs.Prelude.{if◌then◌else◌}
use Rattle.nz_ints.proofs.Ring.{Atom, ◌⊕◌, ◌⊗◌, Minus}
use Rattle.nz_fractions.specs.Fraction.{Fraction, denominator, over, whole, ◌=ℚ◌, ◌<ℚ◌, fraction_lt, ◌-ℚ◌, ◌*ℚ◌, ◌/ℚ◌, reciprocal, Arithmetic, Sum, Difference, Product, Quotient, outcome}
use Rattle.nz_fractions.proofs.Laws.{=ℚ_sym, ≤ℚ-from_eq, ≤ℚ_refl, ≤ℚ-from_lt, <ℚ-≤ℚ_trans, ≤ℚ-<ℚ_trans, <ℚ_irrefl, reduce-same}
use Rattle.nz_fractions.proofs.Order.{lt_from}
use Rattle.nz_fractions.proofs.Arithmetic.{+ℚ-zero, +ℚ-same, neg_ℚ-same, *ℚ-one, outcome-sum, outcome-difference, outcome-product}
use Rattle.nz_fractions.proofs.Identities.{zero_times, times_zero, nonzero-test}
use Rattle.nz_fractions.proofs.Bounds.{above, times_lt}
use Rattle.nz_fractions.proofs.Quotients.{reciprocal-times, outcome-quotient}
use Rattle.nz_fractions.proofs.Solver.{◌∙ℚ◌, solve, plus_right, times_left, times_right}
use Rattle.nz_spec.specs.terms.Term.{is_undefined}
use Rattle.nz_spec.specs.simplex.Climb.{Line, line_at, Range, up_to, naturals, IsInRange, member}
use Rattle.nz_spec.specs.terms.Form.{unit_value}
use Rattle.nz_spec.specs.simplex.Families.{line_through, half_of, line_in, IsReached, line_outcome, StaysFor, LinesTell}

-- ---- The line through two values

abbrev AreSameLines : Line → Line → Type 0
AreSameLines l m = (l.start =ℚ m.start) × (l.slope =ℚ m.slope)

below_apart : {s t : Fraction} → s <ℚ t → (t -ℚ s) =ℚ whole (pos 0) → ⊥
unfolding ◌-ℚ◌
below_apart {s} {t} h e = <ℚ_irrefl (above t s h) (≤ℚ-from_eq e)

module _ (l : Line) (s y t z : Fraction) (at_s : y =ℚ line_at l s) (at_t : z =ℚ line_at l t) (less : s <ℚ t) where
  slope_told : ((z -ℚ y) /ℚ (t -ℚ s)) =ℚ l.slope
  unfolding ◌-ℚ◌ ◌/ℚ◌
  slope_told =
      let r = reciprocal (t -ℚ s) in
      times_left r (+ℚ-same at_t (neg_ℚ-same at_s))
      ∙ℚ solve (l.start ∷ l.slope ∷ s ∷ t ∷ r ∷ [])
      (((Atom 0 ⊕ Atom 1 ⊗ Atom 3) ⊕ Minus (Atom 0 ⊕ Atom 1 ⊗ Atom 2)) ⊗ Atom 4)
      (Atom 1 ⊗ (Atom 4 ⊗ (Atom 3 ⊕ Minus (Atom 2))))
      refl
      ∙ℚ times_right l.slope (reciprocal-times (t -ℚ s) (below_apart less))
      ∙ℚ *ℚ-one l.slope

  told : AreSameLines (line_through s y t z) l
  unfolding ◌-ℚ◌
  told =
      let slope = (line_through s y t z).slope in
      let same : slope =ℚ l.slope = reduce-same ((z -ℚ y) /ℚ (t -ℚ s)) ∙ℚ slope_told in (
        reduce-same (y -ℚ slope *ℚ s)
            ∙ℚ +ℚ-same at_s (neg_ℚ-same (times_left s same))
            ∙ℚ solve (l.start ∷ l.slope ∷ s ∷ []) ((Atom 0 ⊕ Atom 1 ⊗ Atom 2) ⊕ Minus (Atom 1 ⊗ Atom 2)) (Atom 0) refl,
        same,
      )

half_above : whole (pos 0) <ℚ over (pos 1) 2
unfolding over denominator fraction_lt
half_above = lt_from (whole (pos 0)) (over (pos 1) 2) refl

half_below : over (pos 1) 2 <ℚ whole (pos 1)
unfolding over denominator fraction_lt
half_below = lt_from (over (pos 1) 2) (whole (pos 1)) refl

one_above : whole (pos 0) <ℚ whole (pos 1)
unfolding denominator fraction_lt
one_above = lt_from (whole (pos 0)) (whole (pos 1)) refl

by_range : (range : Range) (value : Fraction → Fraction) (l : Line) → IsReached range → ((s : Fraction) → IsInRange range s → value s =ℚ line_at l s) → AreSameLines (line_in range value) l
by_range (up_to limit) value l reached keeps =
    let lower : half_of limit <ℚ limit = <ℚ-≤ℚ_trans (times_lt limit (over (pos 1) 2) (whole (pos 1)) reached half_below) (≤ℚ-from_eq (*ℚ-one limit)) in
    let higher : whole (pos 0) <ℚ half_of limit = ≤ℚ-<ℚ_trans (≤ℚ-from_eq (=ℚ_sym (times_zero limit))) (times_lt limit (whole (pos 0)) (over (pos 1) 2) reached half_above) in
    told l (half_of limit) (value (half_of limit)) limit (value limit) (keeps (half_of limit) (higher, ≤ℚ-from_lt lower)) (keeps limit (reached, ≤ℚ_refl limit)) lower
by_range naturals value l reached keeps =
    told l (whole (pos 0)) (value (whole (pos 0))) (whole (pos 1)) (value (whole (pos 1))) (keeps (whole (pos 0)) (0, refl)) (keeps (whole (pos 1)) (1, refl)) one_above

-- ---- Operations on lines

either_zero : (p q : Fraction) → (p =ℚ whole (pos 0)) ⊎ (q =ℚ whole (pos 0)) → (p *ℚ q) =ℚ whole (pos 0)
either_zero p q (inl e) = times_left q e ∙ℚ zero_times q
either_zero p q (inr e) = times_right p e ∙ℚ times_zero p

-- reciprocals of one value are one
reciprocal_same : (p q : Fraction) → p =ℚ q → (q =ℚ whole (pos 0) → ⊥) → reciprocal p =ℚ reciprocal q
reciprocal_same p q e nonzero =
    =ℚ_sym (*ℚ-one (reciprocal p))
    ∙ℚ times_right (reciprocal p) (=ℚ_sym (reciprocal-times q nonzero))
    ∙ℚ solve (reciprocal p ∷ reciprocal q ∷ q ∷ []) (Atom 0 ⊗ (Atom 1 ⊗ Atom 2)) (Atom 1 ⊗ (Atom 0 ⊗ Atom 2)) refl
    ∙ℚ times_right (reciprocal q) (times_right (reciprocal p) (=ℚ_sym e))
    ∙ℚ times_right (reciprocal q) (reciprocal-times p (λ zero. nonzero (=ℚ_sym e ∙ℚ zero)))
    ∙ℚ *ℚ-one (reciprocal q)

module _ (l m : Line) (s : Fraction) where
  sum_carried : line_at (line_outcome Sum l m) s =ℚ outcome Sum (line_at l s) (line_at m s)
  sum_carried =
      +ℚ-same (outcome-sum l.start m.start) (times_left s (outcome-sum l.slope m.slope))
      ∙ℚ solve (l.start ∷ l.slope ∷ m.start ∷ m.slope ∷ s ∷ [])
      ((Atom 0 ⊕ Atom 2) ⊕ (Atom 1 ⊕ Atom 3) ⊗ Atom 4)
      ((Atom 0 ⊕ Atom 1 ⊗ Atom 4) ⊕ (Atom 2 ⊕ Atom 3 ⊗ Atom 4))
      refl
      ∙ℚ =ℚ_sym (outcome-sum (line_at l s) (line_at m s))

  difference_carried : line_at (line_outcome Difference l m) s =ℚ outcome Difference (line_at l s) (line_at m s)
  difference_carried =
      +ℚ-same (outcome-difference l.start m.start) (times_left s (outcome-difference l.slope m.slope))
      ∙ℚ solve (l.start ∷ l.slope ∷ m.start ∷ m.slope ∷ s ∷ [])
      ((Atom 0 ⊕ Minus (Atom 2)) ⊕ (Atom 1 ⊕ Minus (Atom 3)) ⊗ Atom 4)
      ((Atom 0 ⊕ Atom 1 ⊗ Atom 4) ⊕ Minus (Atom 2 ⊕ Atom 3 ⊗ Atom 4))
      refl
      ∙ℚ =ℚ_sym (outcome-difference (line_at l s) (line_at m s))

  product_carried : StaysFor Product l m → line_at (line_outcome Product l m) s =ℚ outcome Product (line_at l s) (line_at m s)
  product_carried stays =
      +ℚ-same (outcome-product l.start m.start)
      (times_left s
      (outcome-sum (outcome Product l.slope m.start) (outcome Product l.start m.slope) ∙ℚ +ℚ-same (outcome-product l.slope m.start) (outcome-product l.start m.slope)))
      ∙ℚ =ℚ_sym (+ℚ-zero _)
      ∙ℚ plus_right _ (=ℚ_sym (times_left (s *ℚ s) (either_zero l.slope m.slope stays) ∙ℚ zero_times (s *ℚ s)))
      ∙ℚ solve (l.start ∷ l.slope ∷ m.start ∷ m.slope ∷ s ∷ [])
      ((Atom 0 ⊗ Atom 2 ⊕ (Atom 1 ⊗ Atom 2 ⊕ Atom 0 ⊗ Atom 3) ⊗ Atom 4) ⊕ (Atom 1 ⊗ Atom 3) ⊗ (Atom 4 ⊗ Atom 4))
      ((Atom 0 ⊕ Atom 1 ⊗ Atom 4) ⊗ (Atom 2 ⊕ Atom 3 ⊗ Atom 4))
      refl
      ∙ℚ =ℚ_sym (outcome-product (line_at l s) (line_at m s))

  quotient_carried : StaysFor Quotient l m → is_undefined Quotient m.start ≡ false → line_at (line_outcome Quotient l m) s =ℚ outcome Quotient (line_at l s) (line_at m s)
  quotient_carried stays defined =
      let r = reciprocal m.start in
      let divisor : line_at m s =ℚ m.start = plus_right m.start (times_left s stays ∙ℚ zero_times s) ∙ℚ +ℚ-zero m.start in
      let quotient : Line = record { start = outcome Quotient l.start m.start; slope = outcome Quotient l.slope m.start } in
      subst (λ (b : Bool). line_at (if b then record { start = whole (pos 0); slope = whole (pos 0) } else quotient) s =ℚ outcome Quotient (line_at l s) (line_at m s)) (sym defined)
      (+ℚ-same (outcome-quotient l.start m.start) (times_left s (outcome-quotient l.slope m.start))
      ∙ℚ solve (l.start ∷ l.slope ∷ r ∷ s ∷ []) (Atom 0 ⊗ Atom 2 ⊕ (Atom 1 ⊗ Atom 2) ⊗ Atom 3) ((Atom 0 ⊕ Atom 1 ⊗ Atom 3) ⊗ Atom 2) refl
      ∙ℚ times_right (line_at l s) (=ℚ_sym (reciprocal_same (line_at m s) m.start divisor (nonzero-test m.start defined)))
      ∙ℚ =ℚ_sym (outcome-quotient (line_at l s) (line_at m s)))

by_operator : (op : Arithmetic) (l m : Line) (s : Fraction) → StaysFor op l m → is_undefined op m.start ≡ false
    → line_at (line_outcome op l m) s =ℚ outcome op (line_at l s) (line_at m s)
by_operator Sum l m s stays defined = sum_carried l m s
by_operator Difference l m s stays defined = difference_carried l m s
by_operator Product l m s stays defined = product_carried l m s stays
by_operator Quotient l m s stays defined = quotient_carried l m s stays defined

pub lines_tell : LinesTell
lines_tell = record { same = λ f t l reached keeps. by_range f.range (λ s. unit_value (member f s) t) l reached keeps; carried = by_operator }
