-- Bounds that contradict: where no form can help, the row of the form that breaks its bound refutes them.
use Rattle.std.proofs.Common.{◌≡◌, ℕ, zero, suc, ◌<◌, Bool, true, false, ◌⊎◌, inl, inr, length, Option, Some, None, pos, refl, sym, ap, subst, arith, Ordering, Less, Equal, Greater}
use Rattle.std.specs.Prelude.{if◌then◌else◌, unwrap_or}
use Rattle.std.specs.Ordering.{MatchOrdering}
use Rattle.nz_fractions.specs.Fraction.{Fraction, whole, ◌=ℚ◌, ◌<ℚ◌, ◌*ℚ◌, fraction_cmp, fraction_lt}
use Rattle.nz_spec.specs.numbers.Infinitesimal.{Infinitesimal, ◌=δ◌}
use Rattle.nz_spec.specs.terms.Form.{parts_value}
use Rattle.nz_spec.specs.simplex.Basis.{form_at, Coefficients, IsCoefficient}
use Rattle.nz_spec.specs.simplex.Bland.{is_nonbasic, zero_infinitesimal, value_in, sum_at, Position, Side, lower_side, upper_side, other_side, bound_on, IsOutside, IsInside, Breaks, HasRoom, CanHelp, MeetsBounds, IsRefutation, NoHelpRefutes}
use Rattle.nz_fractions.proofs.Laws.{=ℚ_refl, =ℚ_sym, ≤ℚ-from_eq, ≤ℚ-from_lt, <ℚ_irrefl}
use Rattle.nz_fractions.proofs.Order.{fraction_ranked, lt_is, lt_is_not}
use Rattle.nz_fractions.proofs.Identities.{zero_times, times_zero}
use Rattle.nz_fractions.proofs.Solver.{◌∙ℚ◌, times_left}
use Rattle.nz_spec.proofs.BasisSums.{sum-zero}
use Rattle.nz_spec.proofs.BasisExchange.{solutions_stay}
use Rattle.nz_spec.proofs.InfinitesimalOrder.{AtMost, at_most_trans, never_less, less-at_most_too, at_most-less_too, not_less, at_most-less, less-at_most, at_most-equal, =δ_sym, parts_times, at_most-plus, at_most-times_pos, at_most-times_neg}

-- ---- Sums of values that are at most others

at_most-term : (c : Fraction) (x y : Infinitesimal) → (whole (pos 0) <ℚ c → AtMost x y) → (c <ℚ whole (pos 0) → AtMost y x) → AtMost (parts_times c x) (parts_times c y)
at_most-term c x y up down = by_sign (fraction_cmp c (whole (pos 0))) (λ e. fraction_ranked c (whole (pos 0)) (fraction_cmp c (whole (pos 0))) e)
  where
    by_sign : (o : Ordering) → (o ≡ o → MatchOrdering o (c <ℚ whole (pos 0)) (c =ℚ whole (pos 0)) (whole (pos 0) <ℚ c)) → AtMost (parts_times c x) (parts_times c y)
    by_sign Less h = at_most-times_neg c x y (h refl) (down (h refl))
    by_sign Equal h =
        at_most-equal (parts_times c x) (parts_times c y) (record {
          standard = times_left x.standard (h refl) ∙ℚ zero_times x.standard ∙ℚ =ℚ_sym (times_left y.standard (h refl) ∙ℚ zero_times y.standard);
          coefficient = times_left x.coefficient (h refl) ∙ℚ zero_times x.coefficient ∙ℚ =ℚ_sym (times_left y.coefficient (h refl) ∙ℚ zero_times y.coefficient);
        })
    by_sign Greater h = at_most-times_pos c x y (h refl) (up (h refl))

at_most-sum : (n : ℕ) (c : Coefficients) (x y : ℕ → Infinitesimal) → ((k : ℕ) → k < n → whole (pos 0) <ℚ c k → AtMost (x k) (y k)) → ((k : ℕ) → k < n → c k <ℚ whole (pos 0) → AtMost (y k) (x k))
    → AtMost (sum_at n c x) (sum_at n c y)
at_most-sum zero c x y up down = at_most-equal (sum_at 0 c x) (sum_at 0 c y) (record { standard = =ℚ_refl (whole (pos 0)); coefficient = =ℚ_refl (whole (pos 0)) })
at_most-sum (suc n) c x y up down =
    at_most-plus (sum_at n c x) (sum_at n c y) (parts_times (c n) (x n)) (parts_times (c n) (y n))
    (at_most-sum n c x y (λ k p. up k (omega (arith, p))) (λ k p. down k (omega (arith, p))))
    (at_most-term (c n) (x n) (y n) (up n (omega arith)) (down n (omega arith)))

-- ---- Bounds

pub sides : (a b : Side) → (a ≡ b) ⊎ (a ≡ other_side b)
sides lower_side lower_side = inl refl
sides lower_side upper_side = inr refl
sides upper_side lower_side = inr refl
sides upper_side upper_side = inl refl

-- x has come to the bound of this side, or is past it
abbrev pub IsPast : Side → Infinitesimal → Infinitesimal → Type 0
IsPast lower_side bound x = AtMost x bound
IsPast upper_side bound x = AtMost bound x

pub not_inside : (side : Side) (bound x : Infinitesimal) → (IsInside side bound x → ⊥) → IsPast side bound x
not_inside lower_side bound x h = not_less x bound h
not_inside upper_side bound x h = not_less bound x h

pub not_outside : (side : Side) (bound x : Infinitesimal) → (IsOutside side bound x → ⊥) → IsPast (other_side side) bound x
not_outside lower_side bound x h = not_less bound x h
not_outside upper_side bound x h = not_less x bound h

-- a sum over bounds is outside where one is that isn't past it
pub outside-sum : (side : Side) (n : ℕ) (c : Coefficients) (x y : ℕ → Infinitesimal) (bound : Infinitesimal)
    → ((k : ℕ) → k < n → whole (pos 0) <ℚ c k → IsPast (other_side side) (y k) (x k)) → ((k : ℕ) → k < n → c k <ℚ whole (pos 0) → IsPast side (y k) (x k))
    → IsOutside side bound (sum_at n c x) → IsOutside side bound (sum_at n c y)
outside-sum lower_side n c x y bound up down h =
    at_most-less (sum_at n c y) (sum_at n c x) bound (at_most-sum n c y x up down) h
outside-sum upper_side n c x y bound up down h =
    less-at_most bound (sum_at n c x) (sum_at n c y) h (at_most-sum n c x y up down)

pub outside-equal : (side : Side) (bound x y : Infinitesimal) → x =δ y → IsOutside side bound x → IsOutside side bound y
outside-equal lower_side bound x y e h = at_most-less y x bound (at_most-equal y x (=δ_sym e)) h
outside-equal upper_side bound x y e h = less-at_most bound x y h (at_most-equal x y e)

pub past-turned : (side : Side) (bound x : Infinitesimal) → IsPast (other_side (other_side side)) bound x → IsPast side bound x
past-turned lower_side bound x h = h
past-turned upper_side bound x h = h

-- the same the other way round
pub past-swapped : (side : Side) (x y : Infinitesimal) → IsPast side x y → IsPast (other_side side) y x
past-swapped lower_side x y h = h
past-swapped upper_side x y h = h

-- x is past a bound, and y isn't
pub past-between : (side : Side) (bound x y : Infinitesimal) → IsPast side bound x → IsPast (other_side side) bound y → IsPast side y x
past-between lower_side bound x y h k = at_most_trans x bound y h k
past-between upper_side bound x y h k = at_most_trans y bound x k h

-- y is outside of a bound at which x stands
pub past-outside : (side : Side) (bound x y : Infinitesimal) → x =δ bound → IsOutside side bound y → IsPast (other_side side) y x
past-outside lower_side bound x y e h = less-at_most_too y bound x h (at_most-equal bound x (=δ_sym e))
past-outside upper_side bound x y e h = at_most-less_too x bound y (at_most-equal x bound e) h

pub past-equal : (side : Side) (x y : Infinitesimal) → x =δ y → IsPast side y x
past-equal lower_side x y e = at_most-equal x y e
past-equal upper_side x y e = at_most-equal y x (=δ_sym e)

-- what stands at a bound is neither inside nor outside
pub inside-at : (side : Side) (bound x : Infinitesimal) → x =δ bound → IsInside side bound x → ⊥
inside-at lower_side bound x e h = never_less bound (less-at_most bound x bound h (at_most-equal x bound e))
inside-at upper_side bound x e h = never_less x (less-at_most x bound x h (at_most-equal bound x (=δ_sym e)))

pub outside-at : (side : Side) (bound x : Infinitesimal) → x =δ bound → IsOutside side bound x → ⊥
outside-at lower_side bound x e h = inside-at upper_side bound x e h
outside-at upper_side bound x e h = inside-at lower_side bound x e h

-- ---- Refutations

refutes : (s : Position) (i : ℕ) (side : Side) (bound : Infinitesimal) (row : Coefficients) (bounds : ℕ → Infinitesimal) → IsRefutation s i side bound row bounds
    → (y : ℕ → Infinitesimal) → y i =δ sum_at (length s.forms) row y → MeetsBounds s y → ⊥
refutes s i side bound row bounds r y fits meets =
    meets side i bound r.listed r.bounded
    (outside-equal side bound (sum_at (length s.forms) row y) (y i) (=δ_sym fits)
    (outside-sum side (length s.forms) row bounds y bound
    (λ k p h.
    past-swapped side (bounds k) (y k)
    (past-turned side (bounds k) (y k)
    (not_outside (other_side side) (bounds k) (y k) (meets (other_side side) k (bounds k) p (r.above_zero k h)))))
    (λ k p h.
    past-turned side (y k) (bounds k)
    (past-swapped (other_side side) (bounds k) (y k)
    (not_outside side (bounds k) (y k) (meets side k (bounds k) p (r.below_zero k h)))))
    r.short))

-- ---- Where no form can help

-- the bound that holds form k back
abbrev pub held_back : Position → Side → Coefficients → ℕ → Infinitesimal
held_back s side c k = unwrap_or (bound_on (if fraction_lt (whole (pos 0)) (c k) then other_side side else side) s k) zero_infinitesimal

module _ (s : Position) (side : Side) (bound : Infinitesimal) (i : ℕ) (breaks : Breaks s side bound i) where
  abbrev row : Coefficients
  row = breaks.has.row

  -- a form with a coefficient is nonbasic
  nonbasic-where : (k : ℕ) → (row k =ℚ whole (pos 0) → ⊥) → is_nonbasic s.point k ≡ true
  nonbasic-where k h = by_test (is_nonbasic s.point k) refl
    where
      by_test : (t : Bool) → is_nonbasic s.point k ≡ t → t ≡ true
      by_test true e = refl
      by_test false e = absurd (h (breaks.has.is_row.at_basic k e))

  coefficient-at : (k : ℕ) → IsCoefficient s.forms (is_nonbasic s.point) i k (row k)
  coefficient-at k = record { row = row; is_row = breaks.has.is_row; at = =ℚ_refl (row k) }

  -- where a form has no room on a side, it is past its bound there
  without_room : (half : Side) (k : ℕ) → (HasRoom s half k → ⊥) → (bound_on half s k ≡ Some (unwrap_or (bound_on half s k) zero_infinitesimal)) × IsPast half (unwrap_or (bound_on half s k) zero_infinitesimal) (value_in s.point k)
  without_room half k h = by_bound (bound_on half s k) h
    where
      by_bound : (o : Option Infinitesimal) → (((x : Infinitesimal) → o ≡ Some x → IsInside half x (value_in s.point k)) → ⊥)
          → (o ≡ Some (unwrap_or o zero_infinitesimal)) × IsPast half (unwrap_or o zero_infinitesimal) (value_in s.point k)
      by_bound None g = absurd (g (λ x e. absurd (cc)))
      by_bound (Some x) g = (refl, not_inside half x (value_in s.point k) (λ m. g (λ y e. subst (λ (z : Infinitesimal). IsInside half z (value_in s.point k)) (ap (λ (o : Option Infinitesimal). unwrap_or o x) e) m)))

  -- what holds back a form whose coefficient is above 0, and one below 0
  pub held_up : (k : ℕ) → (CanHelp s i (other_side side) k → ⊥) → whole (pos 0) <ℚ row k → (bound_on (other_side side) s k ≡ Some (held_back s side row k)) × IsPast (other_side side) (held_back s side row k) (value_in s.point k)
  held_up k none h =
      subst (λ (t : Bool). let x = unwrap_or (bound_on (if t then other_side side else side) s k) zero_infinitesimal in (bound_on (other_side side) s k ≡ Some x) × IsPast (other_side side) x (value_in s.point k))
      (sym (lt_is (whole (pos 0)) (row k) h))
      (without_room (other_side side) k (λ room. none (record {
        nonbasic = nonbasic-where k (λ e. <ℚ_irrefl h (≤ℚ-from_eq e));
        coefficient = row k;
        at = coefficient-at k;
        way = inl (h, room);
      })))

  turned-room : (half : Side) (k : ℕ) → HasRoom s half k → HasRoom s (other_side (other_side half)) k
  turned-room lower_side k h = h
  turned-room upper_side k h = h

  pub held_down : (k : ℕ) → (CanHelp s i (other_side side) k → ⊥) → row k <ℚ whole (pos 0) → (bound_on side s k ≡ Some (held_back s side row k)) × IsPast side (held_back s side row k) (value_in s.point k)
  held_down k none h =
      subst (λ (t : Bool). let x = unwrap_or (bound_on (if t then other_side side else side) s k) zero_infinitesimal in (bound_on side s k ≡ Some x) × IsPast side x (value_in s.point k))
      (sym (lt_is_not (whole (pos 0)) (row k) (≤ℚ-from_lt h)))
      (without_room side k (λ room. none (record {
        nonbasic = nonbasic-where k (λ e. <ℚ_irrefl h (≤ℚ-from_eq (=ℚ_sym e)));
        coefficient = row k;
        at = coefficient-at k;
        way = inr (h, turned-room side k room);
      })))

  refutation : ((j : ℕ) → CanHelp s i (other_side side) j → ⊥) → IsRefutation s i side bound row (held_back s side row)
  refutation none = record {
    listed = breaks.listed;
    is_row = breaks.has.is_row;
    bounded = breaks.bounded;
    above_zero = λ k h. (held_up k (none k) h).0;
    below_zero = λ k h. (held_down k (none k) h).0;
    short =
        outside-sum side (length s.forms) row (value_in s.point) (held_back s side row) bound
        (λ k p h. (held_up k (none k) h).1)
        (λ k p h. (held_down k (none k) h).1)
        (outside-equal side bound breaks.value (sum_at (length s.forms) row (value_in s.point)) breaks.has.at breaks.outside);
  }

pub no_help_refutes : NoHelpRefutes
no_help_refutes = record {
  found = λ s side bound i breaks none. (held_back s side breaks.has.row, refutation s side bound i breaks none);
  refutes = refutes;
  assignments = λ s i side bound row bounds r a meets.
      refutes s i side bound row bounds r
      (λ k. record { standard = parts_value a (form_at s.forms k); coefficient = whole (pos 0) })
      (record {
        standard = solutions_stay.values s.forms (is_nonbasic s.point) a i row r.listed r.is_row;
        coefficient = =ℚ_sym (sum-zero (length s.forms) (λ k. row k *ℚ whole (pos 0)) (λ k p. times_zero (row k)));
      })
      meets;
}
