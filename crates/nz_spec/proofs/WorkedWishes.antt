-- Worked groups of wishes are computed.
use Rattle.std.proofs.Common.{◌≡◌, inr, [], ◌∷◌, pos, refl, sym, ap, ◌∙◌, arith, true≢false}
use Rattle.nz_ints.specs.Division.{gcd_within, gcd, lcm}
use Rattle.nz_fractions.specs.Fraction.{denominator, whole, over, largest, fraction_eq, ◌+ℚ◌, ◌*ℚ◌, reduce, is_wide_sum, is_wide_product, exact, outcome, is_wide, first_wide}
use Rattle.nz_spec.specs.terms.Term.{Term, is_true, value_of}
use Rattle.nz_spec.specs.clauses.Wishes.{Wish, cost_of}
use Rattle.nz_spec.specs.search.Places.{IsWishOf, IsOfPenalty}
use Rattle.nz_spec.specs.worked.TermSamples.{a_term}
use Rattle.nz_spec.specs.worked.WorkedWishes.{wish_for_a, cost_of_a, cost_order, all_true, heavy, heavy_task, heavy_sum, HasWishes}

-- the second wish, behind the first
abbrev second_wish : IsWishOf heavy_task (wish_for_a (whole (pos largest)) ∷ []) (wish_for_a (whole (pos 2)))
second_wish = record {
  group = record { goal = 0; wishes = heavy };
  listed = (0, omega arith, refl);
  behind = [];
  wishes = refl;
  number = cost_order;
  goal = refl;
}

-- a unit tells its wish
wished : (w : Wish) → cost_of w ≡ cost_of_a → w.term ≡ a_term
wished w e = cc

true_everywhere : IsOfPenalty heavy_task all_true cost_of_a heavy_sum → ⊥
true_everywhere h = true≢false (ap (λ (t : Term). is_true (value_of all_true t)) (sym (wished h.wish h.cost)) ∙ h.unmet)

pub wishes : HasWishes
unfolding gcd_within gcd lcm denominator over fraction_eq ◌+ℚ◌ ◌*ℚ◌ reduce is_wide_sum is_wide_product exact outcome is_wide first_wide
wishes = record {
  form = refl;
  first_false = refl;
  second_false = refl;
  added = refl;
  both_false = refl;
  none_false = refl;
  wide = refl;
  at_term = record {
    listed = (3, omega arith, refl);
    of = inr (record {
      before = wish_for_a (whole (pos largest)) ∷ [];
      wish = wish_for_a (whole (pos 2));
      is_wish = second_wish;
      cost = refl;
      of = (2, omega arith, refl);
    });
  };
  at_value = record {
    before = wish_for_a (whole (pos largest)) ∷ [];
    wish = wish_for_a (whole (pos 2));
    is_wish = second_wish;
    cost = refl;
    unmet = refl;
    fits = refl;
    of = refl;
  };
  met = true_everywhere;
}
