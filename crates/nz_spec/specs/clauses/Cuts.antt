-- Branches and cuts: what a sum of integers may be. It is at most an integer or at least the next one, and a bound on it may be rounded.
-- Source: Gomory, Outline of an algorithm for integer solutions to linear programs, 1958.
use Rattle.std.specs.Prelude.{◌≡◌, ◌&&◌, List, [], ◌∷◌, ◌++◌, map, Option, Some, None, pos, if◌then◌else◌}
use Rattle.std.specs.List.{list_all, AllByRecursion}
use Rattle.nz_fractions.specs.Fraction.{Fraction, whole, neg_ℚ, floor, Difference}
use Rattle.nz_spec.specs.numbers.Computation.{Computation, operated, at_once, turned_into, and_then}
use Rattle.nz_spec.specs.terms.Term.{Assignment}
use Rattle.nz_spec.specs.terms.Model.{IsAssignment}
use Rattle.nz_spec.specs.terms.Form.{Numbering, Part, negated_part}
use Rattle.nz_spec.specs.clauses.Literal.{is_at_most, Clause, clause_of, IsClauseTrue}
use Rattle.nz_spec.specs.clauses.LinearLiteral.{is_whole, are_integral, greatest_below, parts_of, HaveSortedUnits}
use Rattle.nz_spec.specs.clauses.Farkas.{Multiple, Bound, is_multiple, sum_of_multiples, negations_of}

-- A sum of integers is at most k, or at least k + 1.
abbrev pub branch_clause : List Part → Fraction → Computation (Option Clause)
branch_clause ps k =
    if are_integral ps && is_whole k
    then turned_into (λ c. Some (clause_of (is_at_most ps k ∷ is_at_most (map negated_part ps) c ∷ []))) (operated Difference (neg_ℚ k) (whole (pos 1)))
    else at_once None

-- the greatest integer within the limit
abbrev pub rounded_limit : Bound → Computation Fraction
rounded_limit x = if x.is_strict then greatest_below x.limit else at_once (whole (floor x.limit))

-- Where the sum of the multiples is one of integers, it is within the rounded limit, or one of the literals is false.
abbrev pub cut_clause : Numbering → List Multiple → Computation (Option Clause)
cut_clause number ms =
    if list_all is_multiple ms
    then
    and_then (sum_of_multiples number ms)
    (λ x. if are_integral x.parts
    then turned_into (λ c. Some (clause_of (negations_of ms ++ is_at_most x.parts c ∷ []))) (rounded_limit x)
    else at_once None)
    else at_once None

-- ---- Laws

-- The clause of a branch over units that have values of their sorts is true under each assignment of the sorts.
abbrev pub BranchClausesAreTrue : Type 0
BranchClausesAreTrue = (ps : List Part) (k : Fraction) (c : Clause) → HaveSortedUnits ps → (branch_clause ps k).result ≡ Some c
    → (a : Assignment) → IsAssignment a → IsClauseTrue a c

-- So is that of a cut.
abbrev pub CutClausesAreTrue : Type 0
CutClausesAreTrue = (number : Numbering) (ms : List Multiple) (c : Clause) → AllByRecursion (λ (m : Multiple). HaveSortedUnits (parts_of m.literal)) ms
    → (cut_clause number ms).result ≡ Some c → (a : Assignment) → IsAssignment a → IsClauseTrue a c
