-- The difference of two numbers, of two sums in order, and of two forms, from either side.
use Rattle.std.proofs.Common.{◌≡◌, ℕ, suc, ◌<◌, ◌+◌, ◌||◌, Bool, true, false, List, [], ◌∷◌, ◌++◌, map, None, Some, refl, sym, ap, ap₂, subst, ◌∙◌, arith, if◌then◌else◌}
use Rattle.std.specs.Prelude.{nat_lt, ℤ, pos, neg_ℤ, unsigned_abs, ◌+ℤ◌, ◌*ℤ◌, ◌*◌, ◌/◌}
use Rattle.std.specs.List.{AllByRecursion}
use Rattle.std.proofs.lemmas.Bool.Decides.{nat_tests}
use Rattle.std.proofs.Math.Bool.{or_comm, or_assoc}
use Rattle.std.proofs.Math.IntN.{+ℤ_comm, neg_ℤ-+ℤ, neg_ℤ-neg_ℤ}
use Rattle.nz_ints.specs.Division.{lcm, gcd}
use Rattle.nz_ints.proofs.Divisors.{gcd_comm}
use Rattle.nz_ints.proofs.Multiples.{lcm-is}
use Rattle.nz_ints.proofs.Products.{neg-mul}
use Rattle.nz_ints.proofs.Sizes.{unsigned_abs-neg}
use Rattle.nz_fractions.specs.Fraction.{Fraction, Difference, Operation, denominator, exact, exceeds, first_wide, is_wide, is_wide_sum, neg_ℚ, outcome, reduce, ◌-ℚ◌, ◌+ℚ◌, ◌=ℚ◌}
use Rattle.nz_fractions.proofs.Arithmetic.{+ℚ_comm, +ℚ-same, neg_ℚ-same}
use Rattle.nz_fractions.proofs.Identities.{neg-+ℚ, neg-back, neg-nonzero}
use Rattle.nz_fractions.proofs.Laws.{=ℚ_refl, =ℚ_sym, =ℚ_trans, =ℚ-from_same, IsLowest, reduce-is, reduce-lowest, reduce-same}
use Rattle.nz_spec.specs.numbers.Computation.{Computation, operated, turned_into, and_then}
use Rattle.nz_spec.specs.terms.Form as spec
use Rattle.nz_spec.specs.terms.Form.{MayPrecede, negated_part, parts_joined, part_joined, with_part}
use Rattle.nz_spec.specs.terms.FormOf.{number_in, TermHasItsNumber}
use Rattle.nz_spec.specs.laws.FormPlace.{JoinsAtItsPlace}
use Rattle.nz_spec.specs.clauses.Literal.{TellsLiterals}
use Rattle.nz_spec.specs.terms.Same.{are_same_term}
use Rattle.nz_spec.specs.terms.Table.{IsTable, Node, term_in}
use Rattle.nz_spec.specs.terms.Term.{Term, is_zero}
use Rattle.nz_lin.specs.declared.form.Part.{Part}
use Rattle.nz_lin.specs.Comes.{IsDone}
use Rattle.nz_lin.specs.Differences.{DifferencesAreOpposite}
use Rattle.nz_lin.specs.Forms.{AreUnits, NamesUnit, part_over, parts_over}
use Rattle.nz_fractions.proofs.FirstOperations.{first_wide-none, no_operation}
use Rattle.nz_lin.proofs.PartInsertion.{may_precede, one_term, stays}

-- ---- Numbers

lcm_turned : (a b : ℕ) → lcm a b ≡ lcm b a
unfolding lcm
lcm_turned a b = lcm-is a b ∙ ap (λ (g : ℕ). b / g * a) (gcd_comm a b)

abbrev any_exceeds : ℕ → ℤ → ℤ → Bool
any_exceeds common l r = exceeds common || exceeds (unsigned_abs l) || exceeds (unsigned_abs r) || exceeds (unsigned_abs (l +ℤ r))

-- of two numbers with the other sign, the other way round
exceeds_turned : (common : ℕ) (l r : ℤ) → any_exceeds common (neg_ℤ r) (neg_ℤ l) ≡ any_exceeds common l r
exceeds_turned common l r =
    let c = exceeds common in
    let a = exceeds (unsigned_abs l) in
    let b = exceeds (unsigned_abs r) in
    let both : unsigned_abs (neg_ℤ r +ℤ neg_ℤ l) ≡ unsigned_abs (l +ℤ r) =
    ap unsigned_abs (sym (neg_ℤ-+ℤ r l)) ∙ unsigned_abs-neg (r +ℤ l) ∙ ap unsigned_abs (+ℤ_comm r l) in
    let swapped : (c || b || a) ≡ (c || a || b) = or_assoc c b a ∙ ap (λ (x : Bool). c || x) (or_comm b a) ∙ sym (or_assoc c a b) in
    (λ i. c || exceeds (unsigned_abs-neg r i) || exceeds (unsigned_abs-neg l i) || exceeds (both i))
    ∙ ap (λ (x : Bool). x || exceeds (unsigned_abs (l +ℤ r))) swapped

wide_turned : (p q : Fraction) → is_wide Difference q p ≡ is_wide Difference p q
unfolding is_wide is_wide_sum neg_ℚ denominator
wide_turned p q =
    let common = lcm (suc p.below) (suc q.below) in
    let l = p.numerator *ℤ pos (common / suc p.below) in
    let r = neg_ℤ q.numerator *ℤ pos (common / suc q.below) in
    let left : q.numerator *ℤ pos (common / suc q.below) ≡ neg_ℤ r = let back : neg_ℤ (neg_ℤ (q.numerator *ℤ pos (common / suc q.below))) ≡ q.numerator *ℤ pos (common / suc q.below) = neg_ℤ-neg_ℤ _ in sym back ∙ ap neg_ℤ (sym (neg-mul q.numerator (pos (common / suc q.below)))) in
    let right : neg_ℤ p.numerator *ℤ pos (common / suc p.below) ≡ neg_ℤ l = neg-mul p.numerator (pos (common / suc p.below)) in
    ap (λ (n : ℕ). any_exceeds n (q.numerator *ℤ pos (n / suc q.below)) (neg_ℤ p.numerator *ℤ pos (n / suc p.below))) (lcm_turned (suc q.below) (suc p.below))
    ∙ ap₂ (any_exceeds common) left right
    ∙ exceeds_turned common l r

neg_lowest : (q : Fraction) → IsLowest q → IsLowest (neg_ℚ q)
unfolding neg_ℚ denominator
neg_lowest q h = record { lowest = ap (λ (n : ℕ). gcd n (suc q.below)) (unsigned_abs-neg q.numerator) ∙ h.lowest }

turned_value : (p q : Fraction) → (q +ℚ neg_ℚ p) =ℚ neg_ℚ (p +ℚ neg_ℚ q)
turned_value p q =
    =ℚ_trans (+ℚ_comm q (neg_ℚ p))
    (=ℚ_sym (=ℚ_trans (neg-+ℚ p (neg_ℚ q)) (+ℚ-same (=ℚ_refl (neg_ℚ p)) (=ℚ-from_same (neg-back q)))))

outcome_turned : (p q : Fraction) → outcome Difference q p ≡ neg_ℚ (outcome Difference p q)
unfolding outcome exact ◌-ℚ◌
outcome_turned p q =
    reduce-is (=ℚ_trans (turned_value p q) (neg_ℚ-same (=ℚ_sym (reduce-same (p +ℚ neg_ℚ q))))) (neg_lowest (reduce (p +ℚ neg_ℚ q)) (reduce-lowest (p +ℚ neg_ℚ q)))

zero_turned : (q : Fraction) → is_zero (neg_ℚ q) ≡ is_zero q
zero_turned q = by_test (is_zero q) refl
  where
    by_test : (b : Bool) → is_zero q ≡ b → is_zero (neg_ℚ q) ≡ is_zero q
    by_test false e = neg-nonzero q e ∙ sym e
    by_test true e = by_other (is_zero (neg_ℚ q)) refl
      where
        by_other : (b : Bool) → is_zero (neg_ℚ q) ≡ b → is_zero (neg_ℚ q) ≡ is_zero q
        by_other true f = f ∙ sym e
        by_other false f = absurd (let g : is_zero q ≡ false = ap is_zero (sym (neg-back q)) ∙ neg-nonzero (neg_ℚ q) f in cc)

-- ---- The first operation that leaves the numbers

turned_by : (b c : Bool) (x y : Operation) (xs ys : List Operation) → c ≡ b → (first_wide xs ≡ None → first_wide ys ≡ None) → (if b then Some x else first_wide xs) ≡ None
    → (if c then Some y else first_wide ys) ≡ None
turned_by true c x y xs ys same rest e = cc
turned_by false true x y xs ys same rest e = cc
turned_by false false x y xs ys same rest e = rest e

abbrev less : Fraction → Fraction → Operation
less p q = record { operator = Difference; left = p; right = q }

fits_turned : (p q : Fraction) (xs ys : List Operation) → (first_wide xs ≡ None → first_wide ys ≡ None) → first_wide (less p q ∷ xs) ≡ None → first_wide (less q p ∷ ys) ≡ None
unfolding first_wide
fits_turned p q xs ys rest e = turned_by (is_wide Difference p q) (is_wide Difference q p) (less p q) (less q p) xs ys (wide_turned p q) rest e

rest_by : (b : Bool) (x : Operation) (xs : List Operation) → (if b then Some x else first_wide xs) ≡ None → first_wide xs ≡ None
rest_by true x xs e = cc
rest_by false x xs e = e

rest_fits : (x : Operation) (xs : List Operation) → first_wide (x ∷ xs) ≡ None → first_wide xs ≡ None
unfolding first_wide
rest_fits x xs e = rest_by (is_wide x.operator x.left x.right) x xs e

front_by : (b : Bool) (x : Operation) (xs ys : List Operation) → (first_wide (xs ++ ys) ≡ None → first_wide xs ≡ None) → (if b then Some x else first_wide (xs ++ ys)) ≡ None
    → (if b then Some x else first_wide xs) ≡ None
front_by true x xs ys rest e = cc
front_by false x xs ys rest e = rest e

front_fits : (xs ys : List Operation) → first_wide (xs ++ ys) ≡ None → first_wide xs ≡ None
unfolding first_wide
front_fits [] ys e = refl
front_fits (x ∷ xs) ys e = front_by (is_wide x.operator x.left x.right) x xs ys (front_fits xs ys) e

-- ---- Sums in order

-- where the one stays within the numbers, so does the other, and comes to its negation
abbrev AreOpposite : Computation (List spec.Part) → Computation (List spec.Part) → Type 0
AreOpposite c d = first_wide c.operations ≡ None → IsDone d (map negated_part c.result)

behind_one : (p r : spec.Part) (c d : Computation (List spec.Part)) → negated_part p ≡ r → AreOpposite c d
    → AreOpposite (turned_into (λ ps. p ∷ ps) c) (turned_into (λ ps. r ∷ ps) d)
behind_one p r c d e h fits = record { result = λ i. e i ∷ (h fits).result i; fits = (h fits).fits }

with_by : (u : Term) (a b : Fraction) (x y : Bool) (ps qs : List spec.Part) → b ≡ neg_ℚ a → y ≡ x → map negated_part ps ≡ qs
    → map negated_part (if x then ps else record { coefficient = a; unit = u } ∷ ps) ≡ (if y then qs else record { coefficient = b; unit = u } ∷ qs)
with_by u a b true true ps qs turned same e = e
with_by u a b false false ps qs turned same e = λ i. (let p : spec.Part = record { coefficient = sym turned i; unit = u } in p) ∷ e i
with_by u a b true false ps qs turned same e = cc
with_by u a b false true ps qs turned same e = cc

-- the parts of one unit
abbrev met : Term → Fraction → Fraction → Computation (List spec.Part) → Computation (List spec.Part)
met u a b c = and_then (operated Difference a b) (λ x. turned_into (λ ps. with_part u x ps) c)

met_opposite : (u : Term) (a b : Fraction) (c d : Computation (List spec.Part)) → AreOpposite c d → AreOpposite (met u a b c) (met u b a d)
met_opposite u a b c d h fits =
    let done = h (rest_fits (less a b) c.operations fits) in
    record {
      result =
          with_by u (outcome Difference a b) (outcome Difference b a) (is_zero (outcome Difference a b)) (is_zero (outcome Difference b a)) c.result d.result
          (outcome_turned a b) (ap is_zero (outcome_turned a b) ∙ zero_turned (outcome Difference a b)) done.result;
      fits = fits_turned a b c.operations d.operations (λ e. (h e).fits) fits;
    }

module _ (law : JoinsAtItsPlace) (numbers : TermHasItsNumber) (tells : TellsLiterals) (ns : List Node) (table : IsTable ns) where
  abbrev number : spec.Numbering
  number = number_in ns

  abbrev less_parts : List spec.Part → List Part → Computation (List spec.Part)
  less_parts ps qs = parts_joined number Difference ps (parts_over ns qs)

  -- a part that may stand before all that are subtracted stays first
  passed : (p : spec.Part) (ps : List spec.Part) (qs : List Part) → AllByRecursion (λ (q : Part). MayPrecede number p (part_over ns q)) qs
      → less_parts (p ∷ ps) qs ≡ turned_into (λ rs. p ∷ rs) (less_parts ps qs)
  passed p ps [] h = refl
  passed p ps (q ∷ qs) h =
      let c = part_joined number Difference ps (part_over ns q) in
      ap (λ (d : Computation (List spec.Part)). and_then d (λ rs. less_parts rs qs)) (law.passes number Difference (p ∷ []) ps (part_over ns q) (h.0, tt))
      ∙ ap (λ (d : Computation (List spec.Part)). and_then c (λ rs. d)) (passed p c.result qs h.1)

  precede : (p : Part) → NamesUnit ns p → (qs : List Part) → AllByRecursion (NamesUnit ns) qs → AllByRecursion (λ (q : Part). p.unit < q.unit) qs
      → AllByRecursion (λ (q : Part). MayPrecede number (part_over ns p) (part_over ns q)) qs
  precede p named [] h above = tt
  precede p named (q ∷ qs) h above = (may_precede law numbers tells ns table Difference q h.0 p named above.0, precede p named qs h.1 above.1)

  higher : (a b : ℕ) → a < b → (qs : List Part) → AllByRecursion (λ (q : Part). b < q.unit) qs → AllByRecursion (λ (q : Part). a < q.unit) qs
  higher a b less [] h = tt
  higher a b less (q ∷ qs) h = (let more : b < q.unit = h.0 in omega (arith, less, more), higher a b less qs h.1)

  -- a first part that stands alone, on this side or on that
  module _ (p : Part) (ps qs : List Part) (named : NamesUnit ns p) (names : AllByRecursion (NamesUnit ns) ps) (others : AllByRecursion (NamesUnit ns) qs)
      (behind : AllByRecursion (λ (q : Part). p.unit < q.unit) ps) (above : AllByRecursion (λ (q : Part). p.unit < q.unit) qs) where
    left_first : less_parts (parts_over ns (p ∷ ps)) qs ≡ turned_into (λ rs. part_over ns p ∷ rs) (less_parts (parts_over ns ps) qs)
    left_first = passed (part_over ns p) (parts_over ns ps) qs (precede p named qs others above)

    right_first : less_parts (parts_over ns qs) (p ∷ ps) ≡ turned_into (λ rs. negated_part (part_over ns p) ∷ rs) (less_parts (parts_over ns qs) ps)
    right_first =
        ap (λ (d : Computation (List spec.Part)). and_then d (λ rs. less_parts rs ps)) (stays law numbers tells ns table Difference p named qs others above)
        ∙ passed (negated_part (part_over ns p)) (parts_over ns qs) ps (precede p named ps names behind)

  met_by : (u : Term) (c : Fraction) (b : Bool) (ps : List spec.Part) (qs : List Part) → AllByRecursion (λ (q : Part). MayPrecede number (record { coefficient = c; unit = u }) (part_over ns q)) qs
      → less_parts (if b then ps else record { coefficient = c; unit = u } ∷ ps) qs ≡ turned_into (λ rs. if b then rs else record { coefficient = c; unit = u } ∷ rs) (less_parts ps qs)
  met_by u c true ps qs h = refl
  met_by u c false ps qs h = passed (record { coefficient = c; unit = u }) ps qs h

  both_first : (p q : Part) (ps qs : List Part) → NamesUnit ns p → p.unit ≡ q.unit → AllByRecursion (NamesUnit ns) qs → AllByRecursion (λ (r : Part). p.unit < r.unit) qs
      → less_parts (parts_over ns (p ∷ ps)) (q ∷ qs) ≡ met (term_in ns p.unit) p.coefficient q.coefficient (less_parts (parts_over ns ps) qs)
  both_first p q ps qs named same others above =
      let c = operated Difference p.coefficient q.coefficient in
      let u = term_in ns p.unit in
      ap (λ (d : Computation (List spec.Part)). and_then d (λ rs. less_parts rs qs))
      (law.meets number Difference (part_over ns p) (parts_over ns ps) (part_over ns q)
      (ap (λ (k : ℕ). are_same_term (term_in ns k) (term_in ns q.unit)) same ∙ one_term tells (term_in ns q.unit)))
      ∙ ap (λ (d : Computation (List spec.Part)). and_then c (λ x. d))
      (met_by u c.result (is_zero c.result) (parts_over ns ps) qs (precede p named qs others above))

  abbrev Opposite : List Part → List Part → Type 0
  Opposite ps qs = AreOpposite (less_parts (parts_over ns ps) qs) (less_parts (parts_over ns qs) ps)

  -- the least unit is of the first, of the second, or of both
  first_least : (p : Part) (ps qs : List Part) → AreUnits ns (p ∷ ps) → AllByRecursion (NamesUnit ns) qs → AllByRecursion (λ (q : Part). p.unit < q.unit) qs → Opposite ps qs → Opposite (p ∷ ps) qs
  first_least p ps qs h others above rest =
      subst (λ (c : Computation (List spec.Part)). AreOpposite c (less_parts (parts_over ns qs) (p ∷ ps))) (sym (left_first p ps qs h.names.0 h.names.1 others h.in_order.0 above))
      (subst (λ (d : Computation (List spec.Part)). AreOpposite (turned_into (λ rs. part_over ns p ∷ rs) (less_parts (parts_over ns ps) qs)) d)
      (sym (right_first p ps qs h.names.0 h.names.1 others h.in_order.0 above))
      (behind_one (part_over ns p) (negated_part (part_over ns p)) (less_parts (parts_over ns ps) qs) (less_parts (parts_over ns qs) ps) refl rest))

  second_least : (q : Part) (ps qs : List Part) → AreUnits ns (q ∷ qs) → AllByRecursion (NamesUnit ns) ps → AllByRecursion (λ (p : Part). q.unit < p.unit) ps → Opposite ps qs → Opposite ps (q ∷ qs)
  second_least q ps qs h others above rest =
      subst (λ (c : Computation (List spec.Part)). AreOpposite c (less_parts (parts_over ns (q ∷ qs)) ps)) (sym (right_first q qs ps h.names.0 h.names.1 others h.in_order.0 above))
      (subst (λ (d : Computation (List spec.Part)). AreOpposite (turned_into (λ rs. negated_part (part_over ns q) ∷ rs) (less_parts (parts_over ns ps) qs)) d)
      (sym (left_first q qs ps h.names.0 h.names.1 others h.in_order.0 above))
      (behind_one (negated_part (part_over ns q)) (part_over ns q) (less_parts (parts_over ns ps) qs) (less_parts (parts_over ns qs) ps)
      (λ i. record { coefficient = neg-back q.coefficient i; unit = term_in ns q.unit }) rest))

  both_least : (p q : Part) (ps qs : List Part) → AreUnits ns (p ∷ ps) → AreUnits ns (q ∷ qs) → p.unit ≡ q.unit → Opposite ps qs → Opposite (p ∷ ps) (q ∷ qs)
  both_least p q ps qs h k same rest =
      let c = less_parts (parts_over ns ps) qs in
      let d = less_parts (parts_over ns qs) ps in
      let over_p = subst (λ (u : ℕ). AllByRecursion (λ (r : Part). u < r.unit) qs) (sym same) k.in_order.0 in
      let over_q = subst (λ (u : ℕ). AllByRecursion (λ (r : Part). u < r.unit) ps) same h.in_order.0 in
      subst (λ (e : Computation (List spec.Part)). AreOpposite e (less_parts (parts_over ns (q ∷ qs)) (p ∷ ps))) (sym (both_first p q ps qs h.names.0 same k.names.1 over_p))
      (subst (λ (e : Computation (List spec.Part)). AreOpposite (met (term_in ns p.unit) p.coefficient q.coefficient c) e)
      (ap (λ (u : ℕ). met (term_in ns u) q.coefficient p.coefficient d) same ∙ sym (both_first q p qs ps k.names.0 (sym same) h.names.1 over_q))
      (met_opposite (term_in ns p.unit) p.coefficient q.coefficient c d rest))

  least : (p q : Part) (ps qs : List Part) → AreUnits ns (p ∷ ps) → AreUnits ns (q ∷ qs) → (a b : Bool) → nat_lt p.unit q.unit ≡ a → nat_lt q.unit p.unit ≡ b
      → Opposite ps (q ∷ qs) → Opposite (p ∷ ps) qs → Opposite ps qs → Opposite (p ∷ ps) (q ∷ qs)
  least p q ps qs h k true b e f one two both =
      let below : p.unit < q.unit = grind (arith, nat_tests) in
      first_least p ps (q ∷ qs) h k.names (below, higher p.unit q.unit below qs k.in_order.0) one
  least p q ps qs h k false true e f one two both =
      let below : q.unit < p.unit = grind (arith, nat_tests) in
      second_least q (p ∷ ps) qs k h.names (below, higher q.unit p.unit below ps h.in_order.0) two
  least p q ps qs h k false false e f one two both =
      let same : p.unit ≡ q.unit = grind (arith, nat_tests) in
      both_least p q ps qs h k same both

  rest_units : (p : Part) (ps : List Part) → AreUnits ns (p ∷ ps) → AreUnits ns ps
  rest_units p ps h = record { names = h.names.1; in_order = h.in_order.1 }

  opposite : (ps qs : List Part) → AreUnits ns ps → AreUnits ns qs → Opposite ps qs
  opposite [] [] h k = λ fits. record { result = refl; fits = no_operation }
  opposite [] (q ∷ qs) h k = second_least q [] qs k tt tt (opposite [] qs h (rest_units q qs k))
  opposite (p ∷ ps) [] h k = first_least p ps [] h tt tt (opposite ps [] (rest_units p ps h) k)
  opposite (p ∷ ps) (q ∷ qs) h k =
      let h_rest = rest_units p ps h in
      let k_rest = rest_units q qs k in
      least p q ps qs h k (nat_lt p.unit q.unit) (nat_lt q.unit p.unit) refl refl (opposite ps (q ∷ qs) h_rest k) (opposite (p ∷ ps) qs h k_rest) (opposite ps qs h_rest k_rest)

-- ---- Forms

pub differences_are_opposite : JoinsAtItsPlace → TermHasItsNumber → TellsLiterals → DifferencesAreOpposite
differences_are_opposite law numbers tells ns table f g h k fits =
    let c = parts_joined (number_in ns) Difference (parts_over ns f.parts) (parts_over ns g.parts) in
    let d = parts_joined (number_in ns) Difference (parts_over ns g.parts) (parts_over ns f.parts) in
    let front = front_fits c.operations (less f.offset g.offset ∷ []) fits in
    let done = opposite law numbers tells ns table f.parts g.parts h k front in
    record {
      result = λ i. record { parts = done.result i; offset = sym (outcome_turned f.offset g.offset) i };
      fits =
          first_wide-none d.operations (less g.offset f.offset ∷ []) done.fits
          ∙ fits_turned f.offset g.offset [] [] (λ e. e) (sym (first_wide-none c.operations (less f.offset g.offset ∷ []) front) ∙ fits);
    }
