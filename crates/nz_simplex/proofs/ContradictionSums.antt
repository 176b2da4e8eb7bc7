-- The literals that say clashing bounds, with the multipliers that are told, sum to a contradiction.
use Rattle.std.proofs.Common.{◌≡◌, ℕ, zero, suc, Bool, true, false, ◌⊎◌, inl, inr, List, [], ◌∷◌, ◌++◌, length, map, flat_map, Option, Some, None, pos, refl, sym, ap, ap₂, ◌∙◌, subst, arith, Ordering, Less, Equal, Greater}
use Rattle.std.specs.Prelude.{◌==◌, ◌&&◌, ◌||◌, fold, is_some, option_map, unwrap_or, if◌then◌else◌}
use Rattle.std.specs.Ordering.{MatchOrdering, ordering_reverse, ordering_then}
use Rattle.std.specs.List.{list_all, AllByRecursion}
use Rattle.std.proofs.lemmas.Int.{ints}
use Rattle.std.proofs.lemmas.Grind.{flat_map-append}
use Rattle.std.proofs.lemmas.List.{append-nil, length-map, map-append}
use Rattle.std.proofs.Math.Bool.{or-true}
use Rattle.std.proofs.lemmas.Bool.{and_parts}
use Rattle.nz_lists.proofs.Numbers.{same-number}
use Rattle.nz_ints.proofs.Ring.{Atom, Literal as Number, ◌⊕◌, ◌⊗◌, Minus}
use Rattle.nz_fractions.specs.Fraction.{Fraction, whole, ◌=ℚ◌, ◌<ℚ◌, ◌+ℚ◌, ◌*ℚ◌, neg_ℚ, fraction_cmp, fraction_lt, denominator}
use Rattle.nz_fractions.proofs.Laws.{=ℚ_refl, =ℚ-from_same, =ℚ_sym, ≤ℚ-from_eq, <ℚ-≤ℚ_trans, ≤ℚ-<ℚ_trans, <ℚ_irrefl}
use Rattle.nz_fractions.proofs.Order.{fraction_eq-same, fraction_ranked, lt_is, same-fraction_eq}
use Rattle.nz_fractions.proofs.Arithmetic.{+ℚ-neg, +ℚ-same, +ℚ-zero, *ℚ_assoc, cmp-+ℚ, cmp-*ℚ_pos, cmp-same, neg_ℚ-same}
use Rattle.nz_fractions.proofs.Identities.{one_times, zero_left, zero_times}
use Rattle.nz_fractions.proofs.Solver.{◌∙ℚ◌, plus_left, plus_right, solve, times_left, times_right}
use Rattle.nz_fractions.proofs.Bounds.{lt-carried}
use Rattle.nz_fractions.proofs.Signs.{above_told, below_told}
use Rattle.nz_spec.specs.numbers.Infinitesimal.{Infinitesimal, infinitesimal_cmp, InfinitesimalsAreOrdered}
use Rattle.nz_spec.specs.terms.Term.{is_zero}
use Rattle.nz_spec.specs.terms.Same.{TellsTerms}
use Rattle.nz_spec.specs.terms.Form.{Numbering, Part}
use Rattle.nz_spec.specs.clauses.Literal.{Literal}
use Rattle.nz_spec.specs.clauses.LinearLiteral.{is_without_units}
use Rattle.nz_spec.specs.clauses.Farkas.{Bound, Multiple, bound_of, empty_bound, is_linear_literal, is_multiple, sum_of_multiples}
use Rattle.nz_spec.specs.simplex.Basis.{Coefficients, Valuation, form_at, weighted, worth, WorthIsByUnits}
use Rattle.nz_spec.specs.simplex.BasisMoves.{numbers}
use Rattle.nz_spec.specs.simplex.Bland as bland
use Rattle.nz_spec.specs.simplex.Bland.{IsOutside, Position, bound_on, sum_at, zero_infinitesimal}
use Rattle.nz_spec.specs.terms.Table.{Node}
use Rattle.nz_lin.specs.Forms.{parts_over}
use Rattle.nz_trail.specs.Bounds as trails
use Rattle.nz_trail.specs.Bounds.{AreApart, ClashesWith, asserted}
use Rattle.nz_trail.specs.declared.limits.Side.{Side}
use Rattle.nz_trail.specs.declared.limits.Side.TheVariants.{Lower, Upper}
use Rattle.nz_simplex.specs.Checks.{IsRefuted, holding_side, multiplier}
use Rattle.nz_simplex.specs.Choices.{is_below_zero, size_of}
use Rattle.nz_simplex.specs.Contradictions.{AreMultiplesFor, AreSaid, AreSum, ClashesContradict, Contradicts, IsSaid, both_once, signed, strictness}
use Rattle.nz_simplex.specs.Standing.{Held, bound_in, half, is_bound_of, is_news, is_side, reason_in, standing, standing_with}
use Rattle.nz_simplex.specs.State.{State, nonbasic_in, value_in, position_over}
use Rattle.nz_simplex.proofs.HelpfulForms.{bound_told, half_other}
use Rattle.nz_simplex.proofs.SumsInOrder.{no_units, onto_sum}
use Rattle.nz_simplex.proofs.Totals.{onto-lax, onto-limit, onto-worth, total}
use Rattle.nz_simplex.proofs.Standings.{side_same}

-- ---- Numbers

abbrev none : Fraction
none = whole (pos 0)

one_above : none <ℚ whole (pos 1)
unfolding denominator
one_above = record { cross = omega (arith, ints) }

-- where a multiple by a number above 0 is above 0, so is the number
positive_left : (m f q : Fraction) → none <ℚ f → (m *ℚ f) =ℚ q → none <ℚ q → none <ℚ m
positive_left m f q above e h =
    lt-carried none (m *ℚ f) none m
    (cmp-same (=ℚ_sym (zero_times f)) (=ℚ_refl (m *ℚ f)) ∙ cmp-*ℚ_pos none m f above)
    (<ℚ-≤ℚ_trans h (≤ℚ-from_eq (=ℚ_sym e)))

difference_below : (p q : Fraction) → p <ℚ q → (p +ℚ neg_ℚ q) <ℚ none
difference_below p q h =
    lt-carried p q (p +ℚ neg_ℚ q) none (sym (cmp-+ℚ p q (neg_ℚ q)) ∙ cmp-same (=ℚ_refl (p +ℚ neg_ℚ q)) (+ℚ-neg q)) h

difference_none : (p q : Fraction) → p =ℚ q → (p +ℚ neg_ℚ q) =ℚ none
difference_none p q h = plus_left (neg_ℚ q) h ∙ℚ +ℚ-neg q

below_along : (p q : Fraction) → p =ℚ q → q <ℚ none → p <ℚ none
below_along p q e h = ≤ℚ-<ℚ_trans (≤ℚ-from_eq e) h

-- ---- Signs

signed_same : (side : Side) {p q : Fraction} → p =ℚ q → signed side p =ℚ signed side q
signed_same Lower h = neg_ℚ-same h
signed_same Upper h = h

signed_sum : (side : Side) (p q : Fraction) → signed side (p +ℚ q) =ℚ (signed side p +ℚ signed side q)
signed_sum Lower p q = solve (p ∷ q ∷ []) (Minus (Atom 0 ⊕ Atom 1)) (Minus (Atom 0) ⊕ Minus (Atom 1)) refl
signed_sum Upper p q = =ℚ_refl (p +ℚ q)

signed_none : (side : Side) → signed side none =ℚ none
signed_none Lower = solve [] (Minus (Number (pos 0))) (Number (pos 0)) refl
signed_none Upper = =ℚ_refl none

-- what a coefficient adds on the side that holds a form back
signed_times : (side : Side) (c y : Fraction) → (size_of c *ℚ signed (holding_side side c) y) =ℚ signed (trails.other_side side) (c *ℚ y)
signed_times side c y = by_sign side (is_below_zero c)
  where
    by_sign : (side : Side) (b : Bool) → ((if b then neg_ℚ c else c) *ℚ signed (if b then side else trails.other_side side) y) =ℚ signed (trails.other_side side) (c *ℚ y)
    by_sign Lower true = solve (c ∷ y ∷ []) (Minus (Atom 0) ⊗ Minus (Atom 1)) (Atom 0 ⊗ Atom 1) refl
    by_sign Lower false = =ℚ_refl (c *ℚ y)
    by_sign Upper true = solve (c ∷ y ∷ []) (Minus (Atom 0) ⊗ Atom 1) (Minus (Atom 0 ⊗ Atom 1)) refl
    by_sign Upper false = solve (c ∷ y ∷ []) (Atom 0 ⊗ Minus (Atom 1)) (Minus (Atom 0 ⊗ Atom 1)) refl

-- a number and a sum on opposite sides
abbrev apart : Side → Fraction → Fraction → Fraction
apart side p q = signed side p +ℚ signed (trails.other_side side) q

apart_none : (side : Side) (p q : Fraction) → p =ℚ q → apart side p q =ℚ none
apart_none Lower p q h = plus_right (neg_ℚ p) (=ℚ_sym h) ∙ℚ solve (p ∷ []) (Minus (Atom 0) ⊕ Atom 0) (Number (pos 0)) refl
apart_none Upper p q h = difference_none p q h

-- the least of a pair of sums that is below 0
abbrev IsBelow : Fraction → Fraction → Type 0
IsBelow standard coefficient = (standard <ℚ none) ⊎ ((standard =ℚ none) × (coefficient <ℚ none))

less_parts : (x y : Infinitesimal) → infinitesimal_cmp x y ≡ Less → (x.standard <ℚ y.standard) ⊎ ((x.standard =ℚ y.standard) × (x.coefficient <ℚ y.coefficient))
unfolding infinitesimal_cmp
less_parts x y e = by_order (fraction_cmp x.standard y.standard) (fraction_ranked x.standard y.standard (fraction_cmp x.standard y.standard) refl) refl
  where
    by_order : (o : Ordering) → MatchOrdering o (x.standard <ℚ y.standard) (x.standard =ℚ y.standard) (y.standard <ℚ x.standard) → fraction_cmp x.standard y.standard ≡ o
        → (x.standard <ℚ y.standard) ⊎ ((x.standard =ℚ y.standard) × (x.coefficient <ℚ y.coefficient))
    by_order Less h f = inl h
    by_order Equal h f = inr (h, fraction_ranked x.coefficient y.coefficient Less (sym (sym (ap (λ (o : Ordering). ordering_then o (fraction_cmp x.coefficient y.coefficient)) f) ∙ e)))
    by_order Greater h f = let never : Greater ≡ Less = sym (ap (λ (o : Ordering). ordering_then o (fraction_cmp x.coefficient y.coefficient)) f) ∙ e in absurd (cc)

apart_below : (side : Side) (p q : Infinitesimal) → IsOutside (half side) p q → IsBelow (apart side p.standard q.standard) (apart side p.coefficient q.coefficient)
apart_below Lower p q h = elim (less_parts q p h) [
  | inl l ↦ inl (turned p.standard q.standard l)
  | inr r ↦ inr (apart_none Lower p.standard q.standard (=ℚ_sym r.0), turned p.coefficient q.coefficient r.1)
]
  where
    turned : (a b : Fraction) → b <ℚ a → (neg_ℚ a +ℚ b) <ℚ none
    turned a b l = below_along (neg_ℚ a +ℚ b) (b +ℚ neg_ℚ a) (solve (a ∷ b ∷ []) (Minus (Atom 0) ⊕ Atom 1) (Atom 1 ⊕ Minus (Atom 0)) refl) (difference_below b a l)
apart_below Upper p q h = elim (less_parts p q h) [
  | inl l ↦ inl (difference_below p.standard q.standard l)
  | inr r ↦ inr (difference_none p.standard q.standard r.0, difference_below p.coefficient q.coefficient r.1)
]

below_same : (s c t d : Fraction) → t =ℚ s → d =ℚ c → IsBelow s c → IsBelow t d
below_same s c t d e f (inl h) = inl (below_along t s e h)
below_same s c t d e f (inr h) = inr (e ∙ℚ h.0, below_along d c f h.1)

-- ---- Bounds with multipliers

abbrev told_of : Held × Fraction → ℕ × Fraction
told_of h = (h.0.reason, h.1)

-- the sum of what bounds have, each on its side and times its multiplier
abbrev total_of : (Held → Fraction) → List (Held × Fraction) → Fraction
total_of has [] = none
total_of has (h ∷ hs) = h.1 *ℚ signed h.0.side (has h.0) +ℚ total_of has hs

total_of-append : (has : Held → Fraction) (hs ks : List (Held × Fraction)) → total_of has (hs ++ ks) =ℚ (total_of has hs +ℚ total_of has ks)
total_of-append has [] ks = =ℚ_sym (zero_left (total_of has ks))
total_of-append has (h ∷ hs) ks =
    plus_right (h.1 *ℚ signed h.0.side (has h.0)) (total_of-append has hs ks)
    ∙ℚ solve ((h.1 *ℚ signed h.0.side (has h.0)) ∷ total_of has hs ∷ total_of has ks ∷ []) (Atom 0 ⊕ (Atom 1 ⊕ Atom 2)) ((Atom 0 ⊕ Atom 1) ⊕ Atom 2) refl

module _ (number : Numbering) (literal : ℕ → Literal) (factor : ℕ → Fraction) (ns : List Node) (s : State) where
  abbrev forms : List (List Part)
  forms = (position_over ns s).forms

  abbrev IsSaidHere : Held → Type 0
  IsSaidHere b = IsSaid number literal factor ns s b

  abbrev AreFor : List (Held × Fraction) → List Multiple → Type 0
  AreFor hs ms = AreMultiplesFor literal factor (map told_of hs) ms

  -- each is said, and has a multiplier above 0
  abbrev Counts : List (Held × Fraction) → Type 0
  Counts hs = AllByRecursion (λ (h : Held × Fraction). IsSaidHere h.0 × (none <ℚ h.1)) hs

  -- what the literals have comes to what the bounds have
  total_is : (of_literal : Literal → Fraction) (has : Held → Fraction) → ((b : Held) → IsSaidHere b → of_literal (literal b.reason) =ℚ (factor b.reason *ℚ signed b.side (has b)))
      → (hs : List (Held × Fraction)) (ms : List Multiple) → Counts hs → AreFor hs ms → total of_literal ms =ℚ total_of has hs
  total_is of_literal has each [] [] counts are = =ℚ_refl none
  total_is of_literal has each [] (m ∷ ms) counts are = absurd are
  total_is of_literal has each (h ∷ hs) [] counts are = absurd are
  total_is of_literal has each (h ∷ hs) (m ∷ ms) counts are =
      +ℚ-same
      (times_right m.multiplier (=ℚ-from_same (ap of_literal are.0) ∙ℚ each h.0 counts.0.0)
      ∙ℚ =ℚ_sym (*ℚ_assoc m.multiplier (factor h.0.reason) (signed h.0.side (has h.0)))
      ∙ℚ times_left (signed h.0.side (has h.0)) are.1)
      (total_is of_literal has each hs ms counts.1 are.2)

  all_multiples : (hs : List (Held × Fraction)) (ms : List Multiple) → Counts hs → AreFor hs ms → list_all is_multiple ms ≡ true
  all_multiples [] [] counts are = refl
  all_multiples [] (m ∷ ms) counts are = absurd are
  all_multiples (h ∷ hs) [] counts are = absurd are
  all_multiples (h ∷ hs) (m ∷ ms) counts are =
      let said = counts.0.0 in
      let above : none <ℚ m.multiplier = positive_left m.multiplier (factor h.0.reason) h.1 said.positive are.1 counts.0.1 in
      let one : is_multiple m ≡ true = ap₂ (λ (b c : Bool). b && c) (ap is_linear_literal are.0 ∙ said.linear) (lt_is none m.multiplier above) in
      ap₂ (λ (b c : Bool). b && c) one (all_multiples hs ms counts.1 are.2)

  all_sums : (hs : List (Held × Fraction)) (ms : List Multiple) → Counts hs → AreFor hs ms → AllByRecursion (λ (m : Multiple). AreSum number (bound_of m.literal).parts) ms
  all_sums [] [] counts are = tt
  all_sums [] (m ∷ ms) counts are = absurd are
  all_sums (h ∷ hs) [] counts are = absurd are
  all_sums (h ∷ hs) (m ∷ ms) counts are =
      (subst (λ (l : Literal). AreSum number (bound_of l).parts) (sym are.0) counts.0.0.sum, all_sums hs ms counts.1 are.2)

  -- where no literal is strict, no bound has an infinitesimal part
  lax_none : (hs : List (Held × Fraction)) (ms : List Multiple) → Counts hs → AreFor hs ms → AllByRecursion (λ (m : Multiple). (bound_of m.literal).is_strict ≡ false) ms
      → total_of (λ (b : Held). b.value.coefficient) hs =ℚ none
  lax_none [] ms counts are lax = =ℚ_refl none
  lax_none (h ∷ hs) [] counts are lax = absurd are
  lax_none (h ∷ hs) (m ∷ ms) counts are lax =
      let strict : (bound_of (literal h.0.reason)).is_strict ≡ false = ap (λ (l : Literal). (bound_of l).is_strict) (sym are.0) ∙ lax.0 in
      +ℚ-same
      (times_right h.1 (counts.0.0.strict ∙ℚ =ℚ-from_same (ap strictness strict)) ∙ℚ solve (h.1 ∷ []) (Atom 0 ⊗ Number (pos 0)) (Number (pos 0)) refl)
      (lax_none hs ms counts.1 are.2 lax.1)
      ∙ℚ +ℚ-zero none

  by_limit : (b : Fraction) (strict : Bool) → (b <ℚ none) ⊎ ((b =ℚ none) × (strict ≡ true)) → (fraction_lt b none || is_zero b && strict) ≡ true
  by_limit b strict (inl h) = ap (λ (t : Bool). t || is_zero b && strict) (lt_is b none h)
  by_limit b strict (inr h) =
      ap₂ (λ (t u : Bool). fraction_lt b none || t && u) (fraction_eq-same b none h.0) h.1 ∙ or-true (fraction_lt b none)

  module _ (terms : TellsTerms) (by_units : WorthIsByUnits) (hs : List (Held × Fraction)) (ms : List Multiple) (counts : Counts hs) (are : AreFor hs ms) where
    abbrev sum : Bound
    sum = (sum_of_multiples number ms).result

    abbrev standards : Fraction
    standards = total_of (λ (b : Held). b.value.standard) hs

    abbrev coefficients : Fraction
    coefficients = total_of (λ (b : Held). b.value.coefficient) hs

    without : ((v : Valuation) → total_of (λ (b : Held). worth v (form_at forms b.var)) hs =ℚ none) → sum.parts ≡ []
    without nothing =
        no_units terms number by_units sum.parts
        (onto_sum terms number empty_bound ms (record { rising = tt; nonzero = tt }) (all_sums hs ms counts are))
        (λ v.
        onto-worth v terms number empty_bound ms
        ∙ℚ zero_left (total (λ (l : Literal). worth v (bound_of l).parts) ms)
        ∙ℚ total_is (λ (l : Literal). worth v (bound_of l).parts) (λ (b : Held). worth v (form_at forms b.var)) (λ b said. said.parts v) hs ms counts are
        ∙ℚ nothing v)

    limit_is : sum.limit =ℚ standards
    limit_is =
        onto-limit number empty_bound ms
        ∙ℚ zero_left (total (λ (l : Literal). (bound_of l).limit) ms)
        ∙ℚ total_is (λ (l : Literal). (bound_of l).limit) (λ (b : Held). b.value.standard) (λ b said. said.limit) hs ms counts are

    strict_by : (b : Bool) → sum.is_strict ≡ b → coefficients <ℚ none → b ≡ true
    strict_by true e low = refl
    strict_by false e low = absurd (<ℚ_irrefl low (≤ℚ-from_eq (=ℚ_sym (lax_none hs ms counts are (onto-lax number empty_bound ms e).1))))

    by_short : IsBelow standards coefficients → (sum.limit <ℚ none) ⊎ ((sum.limit =ℚ none) × (sum.is_strict ≡ true))
    by_short (inl h) = inl (below_along sum.limit standards limit_is h)
    by_short (inr h) = inr (limit_is ∙ℚ h.0, strict_by sum.is_strict refl h.1)

    -- bounds whose forms come to nothing, and whose numbers come to less
    pub contradicts : ((v : Valuation) → total_of (λ (b : Held). worth v (form_at forms b.var)) hs =ℚ none) → IsBelow standards coefficients → Contradicts number ms
    contradicts nothing short = record {
      multiples = all_multiples hs ms counts are;
      contradiction = ap₂ (λ (t u : Bool). t && u) (ap is_without_units (without nothing)) (by_limit sum.limit sum.is_strict (by_short short));
    }

-- ---- Bounds that stand

-- it is one of those that were asserted, of this form and on this side
record IsOne (P : Held → Type 0) (k : ℕ) (on : Side) (b : Held) : Type 0 where
  holds : P b
  var : b.var ≡ k
  side : b.side ≡ on

module _ (P : Held → Type 0) (k : ℕ) (on : Side) where
  found_step : (o : Option Held) (b : Held) → P b → ((x : Held) → o ≡ Some x → IsOne P k on x) → (x : Held) → standing_with k on o b ≡ Some x → IsOne P k on x
  found_step o b p before x = by_tests (is_bound_of k on b) (is_news on b.value o) refl
    where
      by_tests : (c d : Bool) → is_bound_of k on b ≡ c → (if c && d then Some b else o) ≡ Some x → IsOne P k on x
      by_tests true true t e =
          let parts = and_parts (b.var == k) (is_side on b.side) t in
          let same : b ≡ x = ap (λ (o : Option Held). unwrap_or o b) e in
          subst (IsOne P k on) same (record { holds = p; var = same-number b.var k parts.0; side = side_same on b.side parts.1 })
      by_tests true false t e = before x e
      by_tests false d t e = before x e

  found_all : (o : Option Held) (bs : List Held) → AllByRecursion P bs → ((x : Held) → o ≡ Some x → IsOne P k on x) → (x : Held) → fold (standing_with k on) o bs ≡ Some x → IsOne P k on x
  found_all o [] all before x e = before x e
  found_all o (b ∷ bs) all before x e = found_all (standing_with k on o b) bs all.1 (found_step o b all.0 before) x e

  stands_of : (bs : List Held) → AllByRecursion P bs → (x : Held) → standing bs k on ≡ Some x → IsOne P k on x
  stands_of bs all x e = found_all None bs all (λ y f. absurd (cc)) x e

-- what stands of a form on a side, where something does
abbrev held_at : List Held → Side → ℕ → Held
held_at bs side k = unwrap_or (standing bs k side) (asserted k side zero_infinitesimal 0)

held_there : (bs : List Held) (side : Side) (k : ℕ) (x : Infinitesimal) → bound_in bs side k ≡ Some x → (standing bs k side ≡ Some (held_at bs side k)) × ((held_at bs side k).value ≡ x)
held_there bs side k x e = by_bound (standing bs k side) e
  where
    d : Held
    d = asserted k side zero_infinitesimal 0

    by_bound : (o : Option Held) → option_map (λ (b : Held). b.value) o ≡ Some x → (o ≡ Some (unwrap_or o d)) × ((unwrap_or o d).value ≡ x)
    by_bound None f = absurd (cc)
    by_bound (Some b) f = (refl, ap (λ (o : Option Infinitesimal). unwrap_or o x) f)

reason_there : (bs : List Held) (side : Side) (k : ℕ) → reason_in bs side k ≡ (held_at bs side k).reason
reason_there bs side k = by_bound (standing bs k side)
  where
    by_bound : (o : Option Held) → unwrap_or (option_map (λ (b : Held). b.reason) o) 0 ≡ (unwrap_or o (asserted k side zero_infinitesimal 0)).reason
    by_bound None = refl
    by_bound (Some b) = refl

-- ---- The bounds of a row

module _ (bs : List Held) (side : Side) (row : Coefficients) where
  -- the bound that holds a form back, with its multiplier
  abbrev holding : ℕ → List (Held × Fraction)
  holding k = if is_zero (row k) then [] else (held_at bs (holding_side side (row k)) k, size_of (row k)) ∷ []

  told_one : (k : ℕ) → map told_of (holding k) ≡ multiplier bs side row k
  told_one k = by_test (is_zero (row k))
    where
      by_test : (b : Bool) → map told_of (if b then [] else (held_at bs (holding_side side (row k)) k, size_of (row k)) ∷ []) ≡ (if b then [] else (reason_in bs (holding_side side (row k)) k, size_of (row k)) ∷ [])
      by_test true = refl
      by_test false = ap (λ (r : ℕ). (r, size_of (row k)) ∷ []) (sym (reason_there bs (holding_side side (row k)) k))

  told_all : (ks : List ℕ) → map told_of (flat_map holding ks) ≡ flat_map (multiplier bs side row) ks
  told_all [] = refl
  told_all (k ∷ ks) = map-append told_of (holding k) (flat_map holding ks) ∙ ap₂ (λ (xs ys : List (ℕ × Fraction)). xs ++ ys) (told_one k) (told_all ks)

  -- what the bounds have, by rising numbers
  module _ (has : Held → Fraction) (y : ℕ → Fraction)
      (there : (k : ℕ) → is_zero (row k) ≡ false → ((held_at bs (holding_side side (row k)) k).side ≡ holding_side side (row k)) × (has (held_at bs (holding_side side (row k)) k) =ℚ y k)) where
    one_total : (k : ℕ) → total_of has (holding k) =ℚ signed (trails.other_side side) (row k *ℚ y k)
    one_total k = by_test (is_zero (row k)) refl
      where
        h : Held
        h = held_at bs (holding_side side (row k)) k

        by_test : (b : Bool) → is_zero (row k) ≡ b → total_of has (if b then [] else (h, size_of (row k)) ∷ []) =ℚ signed (trails.other_side side) (row k *ℚ y k)
        by_test true e =
            =ℚ_sym (signed_same (trails.other_side side) (times_left (y k) (same-fraction_eq (row k) none e) ∙ℚ zero_times (y k)) ∙ℚ signed_none (trails.other_side side))
        by_test false e =
            +ℚ-zero (size_of (row k) *ℚ signed h.side (has h))
            ∙ℚ times_right (size_of (row k)) (=ℚ-from_same (ap (λ (t : Side). signed t (has h)) (there k e).0) ∙ℚ signed_same (holding_side side (row k)) (there k e).1)
            ∙ℚ signed_times side (row k) (y k)

    all_total : (n : ℕ) (f : ℕ → Bool) → ((k : ℕ) → f k ≡ false → row k =ℚ none) → total_of has (flat_map holding (numbers n f)) =ℚ signed (trails.other_side side) (weighted n row y)
    all_total zero f zeros = =ℚ_sym (signed_none (trails.other_side side))
    all_total (suc n) f zeros = by_test (f n) refl (all_total n f zeros)
      where
        by_test : (b : Bool) → f n ≡ b → total_of has (flat_map holding (numbers n f)) =ℚ signed (trails.other_side side) (weighted n row y)
            → total_of has (flat_map holding (if b then numbers n f ++ n ∷ [] else numbers n f)) =ℚ signed (trails.other_side side) (weighted n row y +ℚ row n *ℚ y n)
        by_test true e rest =
            =ℚ-from_same (ap (total_of has) (flat_map-append holding (numbers n f) (n ∷ []) ∙ ap (λ (hs : List (Held × Fraction)). flat_map holding (numbers n f) ++ hs) (append-nil (holding n))))
            ∙ℚ total_of-append has (flat_map holding (numbers n f)) (holding n)
            ∙ℚ +ℚ-same rest (one_total n)
            ∙ℚ =ℚ_sym (signed_sum (trails.other_side side) (weighted n row y) (row n *ℚ y n))
        by_test false e rest =
            rest
            ∙ℚ signed_same (trails.other_side side)
            (=ℚ_sym (plus_right (weighted n row y) (times_left (y n) (zeros n e) ∙ℚ zero_times (y n)) ∙ℚ +ℚ-zero (weighted n row y)))

  -- each of them has what holds of the bounds that stand
  module _ (P : Held × Fraction → Type 0) (each : (k : ℕ) → is_zero (row k) ≡ false → P (held_at bs (holding_side side (row k)) k, size_of (row k))) where
    one_holds : (k : ℕ) → AllByRecursion P (holding k)
    one_holds k = by_test (is_zero (row k)) refl
      where
        by_test : (b : Bool) → is_zero (row k) ≡ b → AllByRecursion P (if b then [] else (held_at bs (holding_side side (row k)) k, size_of (row k)) ∷ [])
        by_test true e = tt
        by_test false e = (each k e, tt)

    joined : (hs ks : List (Held × Fraction)) → AllByRecursion P hs → AllByRecursion P ks → AllByRecursion P (hs ++ ks)
    joined [] ks h rest = rest
    joined (x ∷ xs) ks h rest = (h.0, joined xs ks h.1 rest)

    all_hold : (ks : List ℕ) → AllByRecursion P (flat_map holding ks)
    all_hold [] = tt
    all_hold (k ∷ ks) = joined (holding k) (flat_map holding ks) (one_holds k) (all_hold ks)

-- the size of a number other than 0 is above 0
size_above : (c : Fraction) → is_zero c ≡ false → none <ℚ size_of c
size_above c nonzero = by_sign (is_below_zero c) refl
  where
    by_sign : (b : Bool) → is_below_zero c ≡ b → none <ℚ (if b then neg_ℚ c else c)
    by_sign true e =
        ≤ℚ-<ℚ_trans (≤ℚ-from_eq (=ℚ_sym (+ℚ-neg c)))
        (<ℚ-≤ℚ_trans (lt-carried c none (c +ℚ neg_ℚ c) (none +ℚ neg_ℚ c) (sym (cmp-+ℚ c none (neg_ℚ c))) (below_told c e)) (≤ℚ-from_eq (zero_left (neg_ℚ c))))
    by_sign false e = above_told c nonzero e

-- ---- Clashes

module _ (terms : TellsTerms) (by_units : WorthIsByUnits) (order : InfinitesimalsAreOrdered) (number : Numbering) (literal : ℕ → Literal) (factor : ℕ → Fraction) (ns : List Node) (s : State) (said : AreSaid number literal factor ns s) where
  abbrev place : Position
  place = position_over ns s

  abbrev bs : List Held
  bs = s.asserted

  stands : (side : Side) (k : ℕ) (x : Infinitesimal) → bound_on (half side) place k ≡ Some x → IsOne (IsSaid number literal factor ns s) k side (held_at bs side k) × ((held_at bs side k).value ≡ x)
  stands side k x e =
      let there = held_there bs side k x (sym (bound_told ns s side k) ∙ e) in
      (stands_of (IsSaid number literal factor ns s) k side bs said (held_at bs side k) there.0, there.1)

  module _ (r : IsRefuted ns s) where
    abbrev side : Side
    side = r.side

    abbrev row : Coefficients
    row = r.row

    bound_there : (k : ℕ) → is_zero (row k) ≡ false → bound_on (half (holding_side side (row k))) place k ≡ Some (r.bounds k)
    bound_there k nonzero = by_sign (is_below_zero (row k)) refl
      where
        by_sign : (b : Bool) → is_below_zero (row k) ≡ b → bound_on (half (if b then side else trails.other_side side)) place k ≡ Some (r.bounds k)
        by_sign true e = r.refutes.below_zero k (below_told (row k) e)
        by_sign false e = ap (λ (t : bland.Side). bound_on t place k) (sym (half_other side)) ∙ r.refutes.above_zero k (above_told (row k) nonzero e)

    abbrev broken : Held
    broken = held_at bs side r.broken

    broken_stands : IsOne (IsSaid number literal factor ns s) r.broken side broken × (broken.value ≡ r.bound)
    broken_stands = stands side r.broken r.bound r.refutes.bounded

    abbrev clashing : List (Held × Fraction)
    clashing = (broken, whole (pos 1)) ∷ flat_map (holding bs side row) (numbers (length s.forms) (nonbasic_in s))

    told : map told_of clashing ≡ s.why
    told =
        ap₂ (λ (k : ℕ) (ws : List (ℕ × Fraction)). (k, whole (pos 1)) ∷ ws) (sym (reason_there bs side r.broken)) (told_all bs side row (numbers (length s.forms) (nonbasic_in s)))
        ∙ sym r.why

    counts : Counts number literal factor ns s clashing
    counts = (
      (broken_stands.0.holds, one_above),
      all_hold bs side row (λ (h : Held × Fraction). IsSaid number literal factor ns s h.0 × (none <ℚ h.1))
          (λ k nonzero. ((stands (holding_side side (row k)) k (r.bounds k) (bound_there k nonzero)).0.holds, size_above (row k) nonzero))
          (numbers (length s.forms) (nonbasic_in s)),
    )

    -- only nonbasic forms have coefficients
    zeros : (k : ℕ) → nonbasic_in s k ≡ false → row k =ℚ none
    zeros k e = r.refutes.is_row.at_basic k (ap (λ (b : Bool). is_some (if b then value_in s k else None)) e)

    whole_total : (has : Held → Fraction) (q : Fraction) (y : ℕ → Fraction) → has broken =ℚ q → ((k : ℕ) → is_zero (row k) ≡ false → has (held_at bs (holding_side side (row k)) k) =ℚ y k)
        → total_of has clashing =ℚ apart side q (weighted (length place.forms) row y)
    whole_total has q y own there =
        +ℚ-same
        (one_times (signed broken.side (has broken)) ∙ℚ =ℚ-from_same (ap (λ (t : Side). signed t (has broken)) broken_stands.0.side) ∙ℚ signed_same side own)
        (all_total bs side row has y
        (λ k nonzero. ((stands (holding_side side (row k)) k (r.bounds k) (bound_there k nonzero)).0.side, there k nonzero))
        (length s.forms) (nonbasic_in s) zeros
        ∙ℚ signed_same (trails.other_side side) (=ℚ-from_same (ap (λ (n : ℕ). weighted n row y) (sym (length-map s.forms (parts_over ns))))))

    form_total : (v : Valuation) → total_of (λ (b : Held). worth v (form_at place.forms b.var)) clashing =ℚ none
    form_total v =
        whole_total (λ (b : Held). worth v (form_at place.forms b.var)) (worth v (form_at place.forms r.broken)) (λ k. worth v (form_at place.forms k))
        (=ℚ-from_same (ap (λ (k : ℕ). worth v (form_at place.forms k)) broken_stands.0.var))
        (λ k nonzero. =ℚ-from_same (ap (λ (i : ℕ). worth v (form_at place.forms i)) (stands (holding_side side (row k)) k (r.bounds k) (bound_there k nonzero)).0.var))
        ∙ℚ apart_none side (worth v (form_at place.forms r.broken)) (weighted (length place.forms) row (λ k. worth v (form_at place.forms k))) (r.refutes.is_row.equal v)

    part_total : (part : Infinitesimal → Fraction)
        → total_of (λ (b : Held). part b.value) clashing =ℚ apart side (part r.bound) (weighted (length place.forms) row (λ k. part (r.bounds k)))
    part_total part =
        whole_total (λ (b : Held). part b.value) (part r.bound) (λ k. part (r.bounds k)) (=ℚ-from_same (ap part broken_stands.1))
        (λ k nonzero. =ℚ-from_same (ap part (stands (holding_side side (row k)) k (r.bounds k) (bound_there k nonzero)).1))

    pub check_contradicts : (ms : List Multiple) → AreMultiplesFor literal factor s.why ms → Contradicts number ms
    check_contradicts ms are =
        contradicts number literal factor ns s terms by_units clashing ms counts (subst (λ (ws : List (ℕ × Fraction)). AreMultiplesFor literal factor ws ms) (sym told) are)
        form_total
        (below_same
        (apart side r.bound.standard (sum_at (length place.forms) row r.bounds).standard)
        (apart side r.bound.coefficient (sum_at (length place.forms) row r.bounds).coefficient)
        (total_of (λ (b : Held). b.value.standard) clashing)
        (total_of (λ (b : Held). b.value.coefficient) clashing)
        (part_total (λ (x : Infinitesimal). x.standard)) (part_total (λ (x : Infinitesimal). x.coefficient))
        (apart_below side r.bound (sum_at (length place.forms) row r.bounds) r.refutes.short))

  -- ---- Two bounds of a form

  middle : (P : Held → Type 0) (xs : List Held) (x : Held) (ys : List Held) → AllByRecursion P (xs ++ x ∷ ys) → P x
  middle P [] x ys h = h.0
  middle P (z ∷ zs) x ys h = middle P zs x ys h.1

  outside_by : (side : Side) (x y : Infinitesimal) → AreApart infinitesimal_cmp side x y → IsOutside (half side) x y
  outside_by Lower x y h = order.total.antisymm y x ∙ ap ordering_reverse h
  outside_by Upper x y h = order.total.antisymm x y ∙ ap ordering_reverse h

  module _ (b : Held) (other : ℕ) (clash : ClashesWith infinitesimal_cmp s.asserted b other) (b_said : IsSaid number literal factor ns s b) where
    abbrev against : Held
    against = asserted b.var (trails.other_side b.side) clash.value other

    abbrev both : List (Held × Fraction)
    both = (b, whole (pos 1)) ∷ (against, whole (pos 1)) ∷ []

    against_said : IsSaid number literal factor ns s against
    against_said =
        middle (IsSaid number literal factor ns s) clash.tightest.before against clash.tightest.after (subst (AllByRecursion (IsSaid number literal factor ns s)) clash.tightest.parts said)

    two_total : (has : Held → Fraction) → total_of has both =ℚ apart b.side (has b) (has against)
    two_total has =
        +ℚ-same (one_times (signed b.side (has b)))
        (+ℚ-zero (whole (pos 1) *ℚ signed (trails.other_side b.side) (has against)) ∙ℚ one_times (signed (trails.other_side b.side) (has against)))

    pub assert_contradicts : (ms : List Multiple) → AreMultiplesFor literal factor (both_once b.reason other) ms → Contradicts number ms
    assert_contradicts ms are =
        contradicts number literal factor ns s terms by_units both ms ((b_said, one_above), ((against_said, one_above), tt)) are
        (λ v.
        two_total (λ (h : Held). worth v (form_at place.forms h.var))
        ∙ℚ apart_none b.side (worth v (form_at place.forms b.var)) (worth v (form_at place.forms b.var)) (=ℚ_refl (worth v (form_at place.forms b.var))))
        (below_same
        (apart b.side b.value.standard clash.value.standard)
        (apart b.side b.value.coefficient clash.value.coefficient)
        (total_of (λ (h : Held). h.value.standard) both)
        (total_of (λ (h : Held). h.value.coefficient) both)
        (two_total (λ (h : Held). h.value.standard)) (two_total (λ (h : Held). h.value.coefficient))
        (apart_below b.side b.value clash.value (outside_by b.side b.value clash.value clash.apart)))

pub clashes_contradict : TellsTerms → WorthIsByUnits → InfinitesimalsAreOrdered → ClashesContradict
clashes_contradict terms by_units order = record {
  check = λ number literal factor ns s ms refuted said are. check_contradicts terms by_units order number literal factor ns s said refuted ms are;
  assert = λ number literal factor ns s b other ms clash said b_said are. assert_contradicts terms by_units order number literal factor ns s said b other clash b_said ms are;
}
