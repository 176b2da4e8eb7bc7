-- Values within the tightest bounds that literals say meet each of these literals.
use Rattle.std.proofs.Common.{◌≡◌, ℕ, zero, suc, ◌+◌, ◌<◌, Bool, true, false, List, [], ◌∷◌, length, map, Option, Some, None, pos, negsuc, refl, sym, ap, ◌∙◌, subst, true≢false, arith, ◌⊎◌, inl, inr, Contains, Ordering, Less, Equal, Greater}
use Rattle.std.specs.Prelude.{◌==◌, ◌&&◌, fold, IfSome, IsSome, is_some, option_map, unwrap_or, if◌then◌else◌}
use Rattle.std.specs.Ordering.{is_gt, is_lt}
use Rattle.std.proofs.lemmas.Int.{ints}
use Rattle.std.proofs.lemmas.Bool.{and_from, and_parts}
use Rattle.nz_ints.proofs.Ring.{Atom, Literal as Number, ◌⊗◌, Minus}
use Rattle.nz_lists.proofs.Numbers.{equal-number}
use Rattle.nz_fractions.specs.Fraction.{Fraction, denominator, whole, ◌=ℚ◌, ◌≤ℚ◌, ◌<ℚ◌, ◌+ℚ◌, neg_ℚ, ◌*ℚ◌}
use Rattle.nz_fractions.proofs.Laws.{=ℚ-from_same, =ℚ_sym, ≤ℚ-from_eq, ≤ℚ-from_lt, ≤ℚ_refl, ≤ℚ_trans, <ℚ-≤ℚ_trans, ≤ℚ-<ℚ_trans}
use Rattle.nz_fractions.proofs.Arithmetic.{+ℚ-zero}
use Rattle.nz_fractions.proofs.Identities.{zero_left, zero_times, one_times, neg-neg}
use Rattle.nz_fractions.proofs.Solver.{◌∙ℚ◌, solve, plus_left, plus_right}
use Rattle.nz_fractions.proofs.Bounds.{moved_right, scaled, Within, within_alike, moved_right_lt}
use Rattle.nz_spec.specs.numbers.Infinitesimal.{Infinitesimal, infinitesimal_cmp, at}
use Rattle.nz_spec.specs.terms.Term.{Term}
use Rattle.nz_spec.specs.terms.Form.{Part, negated_part}
use Rattle.nz_spec.specs.clauses.Literal.{Literal, term_literal, is_at_most, is_below, are_same_parts}
use Rattle.nz_spec.specs.simplex.Basis.{Valuation, worth, form_at}
use Rattle.nz_spec.specs.simplex.BasisMoves.{AreNumbered}
use Rattle.nz_spec.specs.simplex.Bland.{Point, is_nonbasic, HasBasis, Side, lower_side, upper_side, other_side, bound_on, at_most_bound, at_least_bound}
use Rattle.nz_spec.specs.simplex.PositionMoves.{is_outside}
use Rattle.nz_spec.specs.simplex.LiteralBounds.{FormBound, bounded_from, bound_on_side, sum_bound, bound_said, are_same_side, tighter_of, with_bound_said, tightest, position_under}
use Rattle.nz_spec.specs.clauses.Farkas.{bound_of}
use Rattle.nz_spec.specs.laws.ToldBounds.{IsWithinAt, AreWithinAt, ToldBoundsAreMet}
use Rattle.nz_spec.specs.clauses.Met.{IsMet}
use Rattle.nz_spec.proofs.InfinitesimalOrder.{AtMost, at_most_parts, at_most_trans, =δ_refl}
use Rattle.nz_spec.proofs.BasisValues.{solutions_are_worth}
use Rattle.nz_spec.proofs.BlandRefutes.{IsPast, not_outside, past-equal}
use Rattle.nz_spec.proofs.PositionMovesKeep.{outside-test}
use Rattle.nz_spec.proofs.BlandPositions.{positions_have_values}
use Rattle.nz_spec.proofs.FormWorth.{worth-difference}
use Rattle.nz_spec.proofs.LinearLiterals.{turned_le, turned_lt}
use Rattle.nz_spec.proofs.Literals.{same_parts}

-- ---- Forms that are bounded

-- the form is the sum, or the sum with the other signs where it is bounded from below
abbrev IsBoundedAs : Side → List Part → List Part → Type 0
IsBoundedAs upper_side f ps = f ≡ ps
IsBoundedAs lower_side f ps = f ≡ map negated_part ps

-- the form that a sum bounds, of those that are numbered from here
record IsBounded (from : ℕ) (fs : List (List Part)) (ps : List Part) (k : ℕ) (side : Side) : Type 0 where
  place : ℕ
  number : k ≡ from + place
  listed : place < length fs
  form : IsBoundedAs side (form_at fs place) ps

-- it is this form, on this side
abbrev IsFound : ℕ → Side → Option (ℕ × Side) → Type 0
IsFound k side o = o ≡ Some (k, side)

bounded-form : (from : ℕ) (fs : List (List Part)) (ps : List Part) (k : ℕ) (side : Side) → bounded_from from fs ps ≡ Some (k, side)
    → IsBounded from fs ps k side
bounded-form from [] ps k side e = absurd (cc)
bounded-form from (f ∷ fs) ps k side e =
    by_tests (are_same_parts f ps) (are_same_parts f (map negated_part ps)) refl refl e (bounded-form (suc from) fs ps k side)
  where
    here : (s : Side) → IsFound k side (Some (from, s)) → IsBoundedAs s f ps → IsBounded from (f ∷ fs) ps k side
    here s g same =
        let numbered : from ≡ k = ap (λ (o : Option (ℕ × Side)). (unwrap_or o (from, s)).0) g in
        let sided : s ≡ side = ap (λ (o : Option (ℕ × Side)). (unwrap_or o (from, s)).1) g in
        record { place = zero; number = omega (arith, numbered); listed = omega arith; form = subst (λ (t : Side). IsBoundedAs t f ps) sided same }

    by_tests : (a b : Bool) → are_same_parts f ps ≡ a → are_same_parts f (map negated_part ps) ≡ b
        → IsFound k side (if a then Some (from, upper_side) else if b then Some (from, lower_side) else bounded_from (suc from) fs ps)
        → (IsFound k side (bounded_from (suc from) fs ps) → IsBounded (suc from) fs ps k side) → IsBounded from (f ∷ fs) ps k side
    by_tests true b g h i later = here upper_side i (same_parts f ps g)
    by_tests false true g h i later = here lower_side i (same_parts f (map negated_part ps) h)
    by_tests false false g h i later =
        let r = later i in
        record { place = suc r.place; number = omega (arith, r.number); listed = omega (arith, r.listed); form = r.form }

negated-numbered : (fs : List (List Part)) (number : Term → ℕ) (ps : List Part) → AreNumbered fs number ps → AreNumbered fs number (map negated_part ps)
negated-numbered fs number [] h = tt
negated-numbered fs number (p ∷ ps) h = (h.0, negated-numbered fs number ps h.1)

form-numbered : (fs : List (List Part)) (number : Term → ℕ) (side : Side) (f ps : List Part) → IsBoundedAs side f ps → AreNumbered fs number ps
    → AreNumbered fs number f
form-numbered fs number upper_side f ps e h = subst (AreNumbered fs number) (sym e) h
form-numbered fs number lower_side f ps e h = subst (AreNumbered fs number) (sym e) (negated-numbered fs number ps h)

-- what the sum is worth on the side of the form
abbrev signed : Side → Fraction → Fraction
signed upper_side q = q
signed lower_side q = neg_ℚ q

form-worth : (v : Valuation) (side : Side) (f ps : List Part) → IsBoundedAs side f ps → worth v f =ℚ signed side (worth v ps)
form-worth v upper_side f ps e = =ℚ-from_same (ap (worth v) e)
form-worth v lower_side f ps e = =ℚ-from_same (ap (worth v) e) ∙ℚ worth-difference v [] ps ∙ℚ zero_left (neg_ℚ (worth v ps))

-- ---- The bound that stands

-- a bound of this side that a literal says has no δ, or one towards the inside
abbrev pub IsPlain : Side → Infinitesimal → Type 0
IsPlain lower_side t = whole (pos 0) ≤ℚ t.coefficient
IsPlain upper_side t = t.coefficient ≤ℚ whole (pos 0)

-- there is a bound, and it is as tight as this one
pub record IsTight (side : Side) (b : Infinitesimal) (o : Option Infinitesimal) : Type 0 where
  pub bound : Infinitesimal
  pub is : o ≡ Some bound
  pub within : IsPast (other_side side) b bound
  pub plain : IsPlain side bound

plain-said : (side : Side) (strict : Bool) (b : Fraction) → IsPlain side (bound_on_side side strict b)
unfolding denominator
plain-said lower_side true b = record { cross = omega (arith, ints) }
plain-said lower_side false b = ≤ℚ_refl (whole (pos 0))
plain-said upper_side true b = record { cross = omega (arith, ints) }
plain-said upper_side false b = ≤ℚ_refl (whole (pos 0))

abbrev IsPlainBound : FormBound → Type 0
IsPlainBound c = IsPlain c.side c.bound

-- the bound on a form where the sum is bounded
abbrev bound_by : Bool → Fraction → ℕ × Side → FormBound
bound_by strict b k = record { form = k.0; side = k.1; bound = bound_on_side k.1 strict b }

plain-sum : (fs : List (List Part)) (ps : List Part) (strict : Bool) (b : Fraction) → IfSome (sum_bound fs ps strict b) IsPlainBound
plain-sum fs ps strict b = by_found (bounded_from 0 fs ps)
  where
    by_found : (o : Option (ℕ × Side)) → IfSome (option_map (bound_by strict b) o) IsPlainBound
    by_found None = tt
    by_found (Some k) = plain-said k.1 strict b

all_plain : (fs : List (List Part)) (l : Literal) → IfSome (bound_said fs l) IsPlainBound
all_plain fs (term_literal t sign) = tt
all_plain fs (is_at_most ps b) = plain-sum fs ps false b
all_plain fs (is_below ps b) = plain-sum fs ps true b

past-trans : (side : Side) (x y z : Infinitesimal) → IsPast side x y → IsPast side y z → IsPast side x z
past-trans lower_side x y z h k = at_most_trans z y x k h
past-trans upper_side x y z h k = at_most_trans x y z h k

not_gt : (o : Ordering) → is_lt o ≡ true → is_gt o ≡ false
not_gt Less e = refl
not_gt Equal e = refl
not_gt Greater e = absurd (true≢false (sym e))

outside-past : (side : Side) (x y : Infinitesimal) → is_outside side x y ≡ true → IsPast (other_side side) y x
outside-past lower_side x y e = not_gt (infinitesimal_cmp y x) e
outside-past upper_side x y e = not_gt (infinitesimal_cmp x y) e

pub inside-past : (side : Side) (x y : Infinitesimal) → is_outside side x y ≡ false → IsPast (other_side side) x y
inside-past side x y e = not_outside side x y (λ h. true≢false (sym (outside-test side x y h) ∙ e))

pub same_side : (a b : Side) → are_same_side a b ≡ true → a ≡ b
same_side lower_side lower_side e = refl
same_side lower_side upper_side e = absurd (true≢false (sym e))
same_side upper_side lower_side e = absurd (true≢false (sym e))
same_side upper_side upper_side e = refl

side_itself : (a : Side) → are_same_side a a ≡ true
side_itself lower_side = refl
side_itself upper_side = refl

module _ (side : Side) where
  -- the tighter of two is as tight as what the second was
  second-tight : (b c t : Infinitesimal) → IsPlain side c → IsPlain side t → IsPast (other_side side) b t → IsTight side b (Some (tighter_of side c (Some t)))
  second-tight b c t p q h = by_test (is_outside side c t) refl
    where
      by_test : (a : Bool) → is_outside side c t ≡ a → IsTight side b (Some (if a then c else t))
      by_test true e = record { bound = c; is = refl; within = past-trans (other_side side) b t c h (outside-past side c t e); plain = p }
      by_test false e = record { bound = t; is = refl; within = h; plain = q }

  -- and as the first
  first-tight : (c : Infinitesimal) (o : Option Infinitesimal) → IsPlain side c → IfSome o (IsPlain side) → IsTight side c (Some (tighter_of side c o))
  first-tight c None p q = record { bound = c; is = refl; within = past-equal (other_side side) c c (=δ_refl c); plain = p }
  first-tight c (Some t) p q = by_test (is_outside side c t) refl
    where
      by_test : (a : Bool) → is_outside side c t ≡ a → IsTight side c (Some (if a then c else t))
      by_test true e = record { bound = c; is = refl; within = past-equal (other_side side) c c (=δ_refl c); plain = p }
      by_test false e = record { bound = t; is = refl; within = inside-past side c t e; plain = q }

  tight-plain : (b : Infinitesimal) (o : Option Infinitesimal) → IsTight side b o → IfSome o (IsPlain side)
  tight-plain b o h = subst (λ (r : Option Infinitesimal). IfSome r (IsPlain side)) (sym h.is) h.plain

  module _ (k : ℕ) where
    -- the bound where this one is said too, if there is one
    abbrev pub after : Option Infinitesimal → Option FormBound → Option Infinitesimal
    after found o =
        elim o [
          | Some c ↦ if (c.form == k) && are_same_side c.side side then Some (tighter_of side c.bound found) else found
          | None ↦ found
        ]

    -- it is the one that was found, or the tighter one
    after-is : (P : Option Infinitesimal → Type 0) (found : Option Infinitesimal) (o : Option FormBound) → IfSome o IsPlainBound → P found
        → ((c : Infinitesimal) → IsPlain side c → P (Some (tighter_of side c found))) → P (after found o)
    after-is P found None p h more = h
    after-is P found (Some c) p h more = by_test ((c.form == k) && are_same_side c.side side) refl
      where
        by_test : (a : Bool) → ((c.form == k) && are_same_side c.side side) ≡ a → P (if a then Some (tighter_of side c.bound found) else found)
        by_test true e =
            let same = same_side c.side side ((and_parts (c.form == k) (are_same_side c.side side) e).1) in
            more c.bound (subst (λ (s : Side). IsPlain s c.bound) same p)
        by_test false e = h

    after-tight : (b : Infinitesimal) (found : Option Infinitesimal) (o : Option FormBound) → IfSome o IsPlainBound → IsTight side b found
        → IsTight side b (after found o)
    after-tight b found o p h =
        after-is (IsTight side b) found o p h
        (λ c q. subst (λ (r : Option Infinitesimal). IsTight side b (Some (tighter_of side c r))) (sym h.is) (second-tight b c h.bound q h.plain h.within))

    after-plain : (found : Option Infinitesimal) (o : Option FormBound) → IfSome o IsPlainBound → IfSome found (IsPlain side)
        → IfSome (after found o) (IsPlain side)
    after-plain found o p h =
        after-is (λ r. IfSome r (IsPlain side)) found o p h (λ c q. tight-plain c (Some (tighter_of side c found)) (first-tight c found q h))

    module _ (fs : List (List Part)) where
      pub stays-tight : (b : Infinitesimal) (found : Option Infinitesimal) (ls : List Literal) → IsTight side b found
          → IsTight side b (fold (with_bound_said fs side k) found ls)
      stays-tight b found [] h = h
      stays-tight b found (l ∷ ls) h =
          stays-tight b (with_bound_said fs side k found l) ls (after-tight b found (bound_said fs l) (all_plain fs l) h)

      pub stays-plain : (found : Option Infinitesimal) (ls : List Literal) → IfSome found (IsPlain side)
          → IfSome (fold (with_bound_said fs side k) found ls) (IsPlain side)
      stays-plain found [] h = h
      stays-plain found (l ∷ ls) h =
          stays-plain (with_bound_said fs side k found l) ls (after-plain found (bound_said fs l) (all_plain fs l) h)

-- what a literal says stands, or a tighter bound
module _ (fs : List (List Part)) (c : FormBound) where
  said-tight : (found : Option Infinitesimal) → IsPlainBound c → IfSome found (IsPlain c.side) → IsTight c.side c.bound (after c.side c.form found (Some c))
  said-tight found p h =
      by_test ((c.form == c.form) && are_same_side c.side c.side)
      (and_from (c.form == c.form) (are_same_side c.side c.side) (equal-number c.form c.form refl) (side_itself c.side))
    where
      by_test : (a : Bool) → a ≡ true → IsTight c.side c.bound (if a then Some (tighter_of c.side c.bound found) else found)
      by_test true e = first-tight c.side c.bound found p h
      by_test false e = absurd (true≢false (sym e))

  all_said : (found : Option Infinitesimal) (ls : List Literal) (l : Literal) → bound_said fs l ≡ Some c → IfSome found (IsPlain c.side) → Contains ls l
      → IsTight c.side c.bound (fold (with_bound_said fs c.side c.form) found ls)
  all_said found [] l e p (k, h, f) = absurd (omega (arith, h))
  all_said found (m ∷ ls) l e p (zero, h, f) =
      let is : bound_said fs m ≡ Some c = ap (bound_said fs) f ∙ e in
      stays-tight c.side c.form fs c.bound (with_bound_said fs c.side c.form found m) ls
      (subst (λ (o : Option FormBound). IsTight c.side c.bound (after c.side c.form found o)) (sym is)
      (said-tight found (subst (λ (o : Option FormBound). IfSome o IsPlainBound) is (all_plain fs m)) p))
  all_said found (m ∷ ls) l e p (suc k, h, f) =
      all_said (with_bound_said fs c.side c.form found m) ls l e (after-plain c.side c.form found (bound_said fs m) (all_plain fs m) p) (k, omega (arith, h), f)

-- ---- Where a fraction stands for δ

below-within : (s : Bool) {p b : Fraction} → p <ℚ b → Within s p b
below-within true h = h
below-within false h = ≤ℚ-from_lt h

within-under : (s : Bool) {p q : Fraction} (b : Fraction) → p ≤ℚ q → Within s q b → Within s p b
within-under true b h k = ≤ℚ-<ℚ_trans h k
within-under false b h k = ≤ℚ_trans h k

within-over : (s : Bool) (p : Fraction) {b c : Fraction} → Within s p b → b ≤ℚ c → Within s p c
within-over true p h k = <ℚ-≤ℚ_trans h k
within-over false p h k = ≤ℚ_trans h k

within-turned : (s : Bool) (p b : Fraction) → Within s (neg_ℚ b) (neg_ℚ p) → Within s p b
within-turned true p b h = within_alike true (=ℚ_sym (neg-neg p)) (=ℚ_sym (neg-neg b)) (turned_lt (neg_ℚ b) (neg_ℚ p) h)
within-turned false p b h = within_alike false (=ℚ_sym (neg-neg p)) (=ℚ_sym (neg-neg b)) (turned_le (neg_ℚ b) (neg_ℚ p) h)

module _ (e : Fraction) (above : whole (pos 0) <ℚ e) where
  less_nothing : (p : Fraction) → (p +ℚ whole (pos 0) *ℚ e) =ℚ p
  less_nothing p = plus_right p (zero_times e) ∙ℚ +ℚ-zero p

  moved-at : (s p q : Fraction) → p ≤ℚ q → (s +ℚ p *ℚ e) ≤ℚ (s +ℚ q *ℚ e)
  moved-at s p q h = moved_right s (p *ℚ e) (q *ℚ e) (scaled p q e above h)

  -- with no δ, or one towards the inside, a bound is not past its standard part
  below-standard : (t : Infinitesimal) → t.coefficient ≤ℚ whole (pos 0) → at t e ≤ℚ t.standard
  unfolding at
  below-standard t h = ≤ℚ_trans (moved-at t.standard t.coefficient (whole (pos 0)) h) (≤ℚ-from_eq (less_nothing t.standard))

  above-standard : (t : Infinitesimal) → whole (pos 0) ≤ℚ t.coefficient → t.standard ≤ℚ at t e
  unfolding at
  above-standard t h = ≤ℚ_trans (≤ℚ-from_eq (=ℚ_sym (less_nothing t.standard))) (moved-at t.standard (whole (pos 0)) t.coefficient h)

  level-at : (x y : Infinitesimal) → x.standard =ℚ y.standard → x.coefficient ≤ℚ y.coefficient → at x e ≤ℚ at y e
  unfolding at
  level-at x y h k = ≤ℚ_trans (≤ℚ-from_eq (plus_left (x.coefficient *ℚ e) h)) (moved-at y.standard x.coefficient y.coefficient k)

  -- a strict bound keeps off its limit
  upper-limit : (strict : Bool) (b : Fraction) → Within strict (at (at_most_bound strict b) e) b
  unfolding at
  upper-limit true b =
      let less : (whole (negsuc 0) *ℚ e) <ℚ whole (pos 0) =
      ≤ℚ-<ℚ_trans (≤ℚ-from_eq (solve (e ∷ []) (Number (negsuc 0) ⊗ Atom 0) (Minus (Atom 0)) refl))
      (<ℚ-≤ℚ_trans (turned_lt (whole (pos 0)) e above) (≤ℚ-from_eq (solve [] (Minus (Number (pos 0))) (Number (pos 0)) refl))) in
      <ℚ-≤ℚ_trans (moved_right_lt b (whole (negsuc 0) *ℚ e) (whole (pos 0)) less) (≤ℚ-from_eq (+ℚ-zero b))
  upper-limit false b = ≤ℚ-from_eq (less_nothing b)

  lower-limit : (strict : Bool) (b : Fraction) → Within strict b (at (at_least_bound strict b) e)
  unfolding at
  lower-limit true b =
      ≤ℚ-<ℚ_trans (≤ℚ-from_eq (=ℚ_sym (+ℚ-zero b)))
      (moved_right_lt b (whole (pos 0)) (whole (pos 1) *ℚ e) (<ℚ-≤ℚ_trans above (≤ℚ-from_eq (=ℚ_sym (one_times e)))))
  lower-limit false b = ≤ℚ-from_eq (=ℚ_sym (less_nothing b))

  -- a value within a bound that is as tight as the literal's meets the literal
  upper-met : (strict : Bool) (b : Fraction) (t : Infinitesimal) (v : Fraction) → IsPlain upper_side t → AtMost t (at_most_bound strict b) → v ≤ℚ at t e
      → Within strict v b
  upper-met strict b t v p h k = by_parts (at_most_parts t (at_most_bound strict b) h)
    where
      by_parts : (t.standard <ℚ b) ⊎ ((t.standard =ℚ b) × (t.coefficient ≤ℚ (at_most_bound strict b).coefficient)) → Within strict v b
      by_parts (inl l) = within-under strict b (≤ℚ_trans k (below-standard t p)) (below-within strict l)
      by_parts (inr l) = within-under strict b (≤ℚ_trans k (level-at t (at_most_bound strict b) l.0 l.1)) (upper-limit strict b)

  lower-met : (strict : Bool) (b : Fraction) (t : Infinitesimal) (v : Fraction) → IsPlain lower_side t → AtMost (at_least_bound strict b) t → at t e ≤ℚ v
      → Within strict b v
  lower-met strict b t v p h k = by_parts (at_most_parts (at_least_bound strict b) t h)
    where
      by_parts : (b <ℚ t.standard) ⊎ ((b =ℚ t.standard) × ((at_least_bound strict b).coefficient ≤ℚ t.coefficient)) → Within strict b v
      by_parts (inl l) = within-over strict b (below-within strict l) (≤ℚ_trans (above-standard t p) k)
      by_parts (inr l) = within-over strict b (lower-limit strict b) (≤ℚ_trans (level-at (at_least_bound strict b) t l.0 l.1) k)

  sum-met : (side : Side) (strict : Bool) (b w : Fraction) (t x : Infinitesimal) → at x e =ℚ signed side w → IsPlain side t
      → IsPast (other_side side) (bound_on_side side strict b) t → IsWithinAt e side t x → Within strict w b
  sum-met upper_side strict b w t x is p h k = within-under strict b (≤ℚ-from_eq (=ℚ_sym is)) (upper-met strict b t (at x e) p h k)
  sum-met lower_side strict b w t x is p h k =
      within-turned strict w b (within-over strict (neg_ℚ b) (lower-met strict (neg_ℚ b) t (at x e) p h k) (≤ℚ-from_eq is))

-- ---- All literals

mapped-some : {A B : Type 0} (f : A → B) (o : Option A) → is_some (option_map f o) ≡ is_some o
mapped-some f None = refl
mapped-some f (Some k) = refl

pub bound-is : (fs : List (List Part)) (x : Point) (ls : List Literal) (side : Side) (k : ℕ) → bound_on side (position_under fs x ls) k ≡ tightest fs ls side k
bound-is fs x ls lower_side k = refl
bound-is fs x ls upper_side k = refl

module _ (fs : List (List Part)) (x : Point) (ls : List Literal) (y : ℕ → Infinitesimal) (e : Fraction) (number : Term → ℕ)
    (basis : HasBasis (position_under fs x ls)) (fit : AreWithinAt (position_under fs x ls) y e) (above : whole (pos 0) <ℚ e) where
  abbrev numbers_worth : Valuation
  numbers_worth u = at (y (number u)) e

  form-value : (k : ℕ) → k < length fs → AreNumbered fs number (form_at fs k) → worth numbers_worth (form_at fs k) =ℚ at (y k) e
  form-value k h named =
      solutions_are_worth fs (is_nonbasic x) number (λ i. at (y i) e) k basis (positions_have_values.fit (position_under fs x ls) y e basis fit.values) h named

  bound-met : (ps : List Part) (strict : Bool) (b : Fraction) (l : Literal) (o : Option (ℕ × Side)) → bounded_from 0 fs ps ≡ o
      → bound_said fs l ≡ sum_bound fs ps strict b → is_some o ≡ true → Contains ls l → AreNumbered fs number ps → Within strict (worth numbers_worth ps) b
  bound-met ps strict b l None f g some has named = absurd (true≢false (sym some))
  bound-met ps strict b l (Some (k, side)) f g some has named =
      let r = bounded-form 0 fs ps k side f in
      let same : r.place ≡ k = omega (arith, r.number) in
      let listed : k < length fs = omega (arith, r.number, r.listed) in
      let form : IsBoundedAs side (form_at fs k) ps = subst (λ (i : ℕ). IsBoundedAs side (form_at fs i) ps) same r.form in
      let c : FormBound = bound_by strict b (k, side) in
      let said : bound_said fs l ≡ Some c = g ∙ ap (option_map (bound_by strict b)) f in
      let t = all_said fs c None ls l said tt has in
      sum-met e above side strict b (worth numbers_worth ps) t.bound (y k)
      (=ℚ_sym (form-value k listed (form-numbered fs number side (form_at fs k) ps form named)) ∙ℚ form-worth numbers_worth side (form_at fs k) ps form)
      t.plain t.within (fit.within side k t.bound listed (bound-is fs x ls side k ∙ t.is))

  sum-said : (ps : List Part) (strict : Bool) (b : Fraction) (l : Literal) → bound_said fs l ≡ sum_bound fs ps strict b → IsSome (bound_said fs l)
      → Contains ls l → AreNumbered fs number ps → Within strict (worth numbers_worth ps) b
  sum-said ps strict b l g some has named =
      let o = bounded_from 0 fs ps in
      bound-met ps strict b l o refl g (sym (mapped-some (bound_by strict b) o) ∙ sym (ap is_some g) ∙ some) has named

  all-met : (truths : Term → Option Bool) (l : Literal) → IsSome (bound_said fs l) → Contains ls l → AreNumbered fs number (bound_of l).parts
      → IsMet truths numbers_worth l
  all-met truths (term_literal t sign) some has named = absurd (true≢false (sym some))
  all-met truths (is_at_most ps b) some has named = sum-said ps false b (is_at_most ps b) refl some has named
  all-met truths (is_below ps b) some has named = sum-said ps true b (is_below ps b) refl some has named

pub told_bounds_are_met : ToldBoundsAreMet
told_bounds_are_met truths fs x ls y e number l basis fit above has some named = all-met fs x ls y e number basis fit above truths l some has named
