-- Comparisons of fractions, and chains of them.
use Rattle.std.proofs.Common.{◌≡◌, ◌≤◌, ◌-◌, ◌*ℤ◌, Bool, true, false, List, [], ◌∷◌, length, length-drop, map, drop, ℕ, ℤ, pos, negsuc, Less, Equal, Greater, cond, refl, arith}
use Rattle.std.specs.Prelude.{int_lt, int_le, nat_lt, nat_le}
use Rattle.std.specs.Ordering.{int_cmp, is_lt, is_le}
use Rattle.std.proofs.lemmas.Bool.Decides.{nat_tests}
use Rattle.nz_fractions.specs.Fraction.{Fraction, denominator, fraction_cmp, fraction_lt, fraction_le}
use Rattle.nz_spec.specs.terms.Term as spec
use Rattle.nz_spec.specs.terms.Term.{are_chained}
use Rattle.nz_term.specs.declared.assign.Value.{Value}
use Rattle.nz_term.specs.Values.{value_of}

below : (p q : Bool) → is_lt (cond p Less (cond q Greater Equal)) ≡ p
below true q = refl
below false true = refl
below false false = refl

pub less_is : (p q : Fraction) → is_lt (fraction_cmp p q) ≡ fraction_lt p q
unfolding fraction_cmp fraction_lt
less_is p q =
    let a = p.numerator *ℤ pos (denominator q) in
    let b = q.numerator *ℤ pos (denominator p) in
    below (int_lt a b) (int_lt b a)

naturals : (a b : ℕ) → is_le (cond (nat_lt a b) Less (cond (nat_lt b a) Greater Equal)) ≡ nat_le a b
naturals a b = grind (arith, nat_tests)

integers : (a b : ℤ) → is_le (int_cmp a b) ≡ int_le a b
integers (pos a) (pos b) = naturals a b
integers (pos a) (negsuc b) = refl
integers (negsuc a) (pos b) = refl
integers (negsuc a) (negsuc b) = naturals b a

pub at_most_is : (p q : Fraction) → is_le (fraction_cmp p q) ≡ fraction_le p q
unfolding fraction_cmp fraction_le
at_most_is p q = integers (p.numerator *ℤ pos (denominator q)) (q.numerator *ℤ pos (denominator p))

-- one value, and none, are chained
short_chain : (related : spec.Value → spec.Value → Bool) (vs : List Value) → length vs ≤ 1 → are_chained related (map value_of vs) ≡ true
short_chain related [] few = refl
short_chain related (v ∷ []) few = refl
short_chain related (v ∷ w ∷ vs) few = absurd (omega arith)

-- so is what is left behind all pairs
pub end_of_chain : (related : spec.Value → spec.Value → Bool) (vs : List Value) (i : ℕ) → length vs - 1 ≤ i → are_chained related (map value_of (drop i vs)) ≡ true
end_of_chain related vs i past = short_chain related (drop i vs) (omega (arith, length-drop i vs))
