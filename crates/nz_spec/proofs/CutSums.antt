-- Cuts: a sum of multiples over integers is within the rounded limit, or one of the literals is false.
use Rattle.std.proofs.Common.{◌≡◌, Bool, true, false, ◌||◌, inl, inr, List, [], ◌∷◌, ◌++◌, Some, None, refl, subst, ◌∙◌}
use Rattle.std.specs.Prelude.{if◌then◌else◌}
use Rattle.std.specs.List.{list_all, list_any, AllByRecursion}
use Rattle.std.proofs.lemmas.List.Folds.{list_any-append}
use Rattle.nz_fractions.specs.Fraction.{whole, ◌≤ℚ◌, floor}
use Rattle.nz_fractions.proofs.Bounds.{Within}
use Rattle.nz_fractions.proofs.Order.{le_is}
use Rattle.nz_spec.specs.numbers.Computation.{at_once, turned_into, and_then}
use Rattle.nz_spec.specs.terms.Term.{Term, sort_of, Assignment}
use Rattle.nz_spec.specs.terms.Model.{IsAssignment, HasSort}
use Rattle.nz_spec.specs.terms.Form.{Numbering, parts_value}
use Rattle.nz_spec.specs.clauses.Literal.{is_at_most, is_literal_true, Clause, clause_of, IsClauseTrue}
use Rattle.nz_spec.specs.clauses.LinearLiteral.{are_integral, greatest_below, parts_of, HaveSortedUnits}
use Rattle.nz_spec.specs.clauses.Farkas.{Multiple, Bound, empty_bound, is_multiple, sum_of_multiples, negations_of}
use Rattle.nz_spec.specs.clauses.Cuts.{rounded_limit, CutClausesAreTrue}
use Rattle.nz_spec.proofs.FarkasSums.{Meets, one_or_meets, found}
use Rattle.nz_spec.proofs.SumUnits.{onto-over}
use Rattle.nz_spec.proofs.IntegerSums.{integer_of_sum, floored, put_below}
use Rattle.nz_spec.proofs.Literals.{or_first, or_second, together}

-- ---- Cuts

module _ (number : Numbering) (ms : List Multiple) (c : Clause) (units : AllByRecursion (λ (m : Multiple). HaveSortedUnits (parts_of m.literal)) ms)
    (a : Assignment) (good : IsAssignment a) where
  rounds_down : (x : Bound) → are_integral x.parts ≡ true → HaveSortedUnits x.parts → Meets a x → parts_value a x.parts ≤ℚ (rounded_limit x).result
  rounds_down x e h k = by_strict x.is_strict k
    where
      by_strict : (s : Bool) → Within s (parts_value a x.parts) x.limit → parts_value a x.parts ≤ℚ (if s then greatest_below x.limit else at_once (whole (floor x.limit))).result
      by_strict true i = let n = integer_of_sum a good x.parts e h in put_below (parts_value a x.parts) x.limit n.0 n.1 i
      by_strict false i = let n = integer_of_sum a good x.parts e h in floored (parts_value a x.parts) x.limit n.0 n.1 i

  abbrev x : Bound
  x = (sum_of_multiples number ms).result

  one_is_true : list_all is_multiple ms ≡ true → are_integral x.parts ≡ true
      → list_any (is_literal_true a) (negations_of ms ++ is_at_most x.parts (rounded_limit x).result ∷ []) ≡ true
  one_is_true m e =
      let last = is_at_most x.parts (rounded_limit x).result in
      list_any-append (is_literal_true a) (negations_of ms) (last ∷ [])
      ∙ elim (one_or_meets a number ms m) [
        | inl h ↦ or_first (list_any (is_literal_true a) (negations_of ms)) (is_literal_true a last || false) h
        | inr h ↦
            or_second (list_any (is_literal_true a) (negations_of ms)) (is_literal_true a last || false)
            (or_first (is_literal_true a last) false
            (le_is (parts_value a x.parts) (rounded_limit x).result
            (rounds_down x e (onto-over (λ (t : Term). HasSort (sort_of t) t) number empty_bound ms tt units) h)))
      ]

  integral_by : (d : Bool) → list_all is_multiple ms ≡ true → are_integral x.parts ≡ d
      → (if d then turned_into (λ k. Some (clause_of (negations_of ms ++ is_at_most x.parts k ∷ []))) (rounded_limit x) else at_once None).result ≡ Some c
      → IsClauseTrue a c
  integral_by false m e f = absurd (cc)
  integral_by true m e f =
      subst (IsClauseTrue a) (found f) (together a (negations_of ms ++ is_at_most x.parts (rounded_limit x).result ∷ []) ∙ one_is_true m e)

  multiples_by : (b : Bool) → list_all is_multiple ms ≡ b
      → (if b
      then and_then (sum_of_multiples number ms) (λ y. if are_integral y.parts then turned_into (λ k. Some (clause_of (negations_of ms ++ is_at_most y.parts k ∷ []))) (rounded_limit y) else at_once None)
      else at_once None).result ≡ Some c
      → IsClauseTrue a c
  multiples_by false m f = absurd (cc)
  multiples_by true m f = integral_by (are_integral x.parts) m refl f

pub cuts_are_true : CutClausesAreTrue
cuts_are_true number ms c units e a good = multiples_by number ms c units a good (list_all is_multiple ms) refl e
