-- Worked values of numbers: short texts, and the values that they have.
use Rattle.std.specs.Prelude.{◌≡◌, ℕ, Bool, true, false, List, [], ◌∷◌, map, ℤ, pos, negsuc, Option, Some, codes}
use Rattle.nz_fractions.specs.Fraction.{Fraction, over}
use Rattle.nz_spec.specs.terms.Term.{Value, truth, number, whole_number}
use Rattle.nz_script.specs.worked.Samples.{value_in}

abbrev pub values_in : List (List ℕ) → List (Option Value)
values_in texts = map value_in texts

abbrev pub integers : List ℤ → List (Option Value)
integers ns = map (λ n. Some (whole_number n)) ns

abbrev pub fractions : List Fraction → List (Option Value)
fractions qs = map (λ q. Some (number q)) qs

abbrev pub truths : List Bool → List (Option Value)
truths bs = map (λ b. Some (truth b)) bs

-- Division of integers, by divisors of both signs: the remainder is never negative. `div` groups to the left.
pub record HasDivisions : Type 0 where
  pub quotients : values_in (codes "(div 7 2)" ∷ codes "(div (- 7) 2)" ∷ codes "(div 7 (- 2))" ∷ codes "(div (- 7) (- 2))" ∷ []) ≡ integers (pos 3 ∷ negsuc 3 ∷ negsuc 2 ∷ pos 4 ∷ [])
  pub remainders : values_in (codes "(mod 7 2)" ∷ codes "(mod (- 7) 2)" ∷ codes "(mod 7 (- 2))" ∷ codes "(mod (- 7) (- 2))" ∷ []) ≡ integers (pos 1 ∷ pos 1 ∷ pos 1 ∷ pos 1 ∷ [])
  pub exact : values_in (codes "(div (- 6) 2)" ∷ codes "(mod (- 6) 2)" ∷ codes "(div 0 (- 2))" ∷ codes "(mod 0 (- 2))" ∷ []) ≡ integers (negsuc 2 ∷ pos 0 ∷ pos 0 ∷ pos 0 ∷ [])
  pub grouped : values_in (codes "(div 12 3 2)" ∷ codes "(div 100 (- 7) 3)" ∷ []) ≡ integers (pos 2 ∷ negsuc 4 ∷ [])

-- Rounding, and what tells integers: both go by the value, and not by how it is written.
pub record HasRounding : Type 0 where
  pub floors : values_in (codes "(to_int (/ (- 3) 2))" ∷ codes "(to_int 1.5)" ∷ codes "(to_int (- 2.0))" ∷ codes "(to_int 0.99)" ∷ []) ≡ integers (negsuc 1 ∷ pos 1 ∷ negsuc 1 ∷ pos 0 ∷ [])
  pub tests : values_in (codes "(is_int 2.0)" ∷ codes "(is_int 0.5)" ∷ codes "(is_int (/ 6 3))" ∷ codes "(is_int (- 7))" ∷ []) ≡ truths (true ∷ false ∷ true ∷ true ∷ [])
  pub sizes : values_in (codes "(abs (- 3))" ∷ codes "(abs 3)" ∷ codes "(abs 0)" ∷ []) ≡ integers (pos 3 ∷ pos 3 ∷ pos 0 ∷ [])

-- Sums, differences, products and quotients, from the left.
pub record HasArithmetic : Type 0 where
  pub whole : values_in (codes "(- 5 2 1)" ∷ codes "(- 5)" ∷ codes "(- 0)" ∷ codes "(+ 1 2 3)" ∷ codes "(* 2 (- 3) 4)" ∷ codes "(+ 7)" ∷ codes "(ite true 1 0)" ∷ codes "(ite false 1 0)" ∷ []) ≡ integers (pos 2 ∷ negsuc 4 ∷ pos 0 ∷ pos 6 ∷ negsuc 23 ∷ pos 7 ∷ pos 1 ∷ pos 0 ∷ [])
  pub lowest : values_in (codes "(/ 12 3 2)" ∷ codes "(/ 6 4)" ∷ codes "(/ 3 (- 6))" ∷ codes "(+ 1 0.5)" ∷ codes "(* 1.50 2)" ∷ codes "(- 0.25)" ∷ codes "(/ 0 (- 5))" ∷ []) ≡ fractions (over (pos 2) 1 ∷ over (pos 3) 2 ∷ over (negsuc 0) 2 ∷ over (pos 3) 2 ∷ over (pos 3) 1 ∷ over (negsuc 0) 4 ∷ over (pos 0) 1 ∷ [])
  -- a value may be beyond the numbers
  pub unbounded : values_in (codes "(+ 170141183460469231731687303715884105727 1)" ∷ []) ≡ integers (pos 170141183460469231731687303715884105728 ∷ [])

-- Comparisons: each argument and the next; `distinct` compares each two. Decimals of one value are equal.
pub record HasComparisons : Type 0 where
  pub rising : values_in (codes "(< 1 2 3)" ∷ codes "(< 1 3 2)" ∷ codes "(< 1 1)" ∷ codes "(<= 1 1 2)" ∷ codes "(<= 1 2 1)" ∷ []) ≡ truths (true ∷ false ∷ false ∷ true ∷ false ∷ [])
  pub falling : values_in (codes "(> 3 2 1)" ∷ codes "(> 2 3 1)" ∷ codes "(> 1 1)" ∷ codes "(>= 2 1 1)" ∷ codes "(>= 1 2 1)" ∷ []) ≡ truths (true ∷ false ∷ false ∷ true ∷ false ∷ [])
  pub equal : values_in (codes "(= 1.0 1.00)" ∷ codes "(= 1 1.0 1)" ∷ codes "(= 1 1 2)" ∷ codes "(= 0.5 (/ 2 4))" ∷ []) ≡ truths (true ∷ true ∷ false ∷ true ∷ [])
  pub differs : values_in (codes "(distinct 1 2 1)" ∷ codes "(distinct 1 2 3)" ∷ codes "(distinct 0.5 (/ 1 2))" ∷ []) ≡ truths (false ∷ true ∷ false ∷ [])
  pub between : values_in (codes "(< (/ 1 3) 0.34)" ∷ codes "(< (- 0.5) (/ (- 1) 3))" ∷ codes "(<= (/ 2 4) 0.5)" ∷ []) ≡ truths (true ∷ true ∷ true ∷ [])
