-- Worked linear terms: short texts, and which of them are linear.
use Rattle.std.specs.Prelude.{◌≡◌, ℕ, Bool, true, false, List, [], ◌∷◌, map, pos, negsuc, Option, Some, None, option_map, option_and_then, codes}
use Rattle.nz_fractions.specs.Fraction.{Fraction, whole, over}
use Rattle.nz_spec.specs.terms.Linear.{constant_value, is_linear}
use Rattle.nz_script.specs.worked.Samples.{normal_in}

abbrev pub linear_in : List (List ℕ) → List (Option Bool)
linear_in texts = map (λ text. option_map is_linear (normal_in text)) texts

abbrev pub constants_told : List (List ℕ) → List (Option Fraction)
constants_told texts = map (λ text. option_and_then constant_value (normal_in text)) texts

-- as many as these texts, each so
abbrev pub all_as : Bool → List (List ℕ) → List (Option Bool)
all_as b texts = map (λ text. Some b) texts

-- the greatest number is 170141183460469231731687303715884105727
abbrev pub linear_texts : List (List ℕ)
linear_texts =
    codes "(* 2 x)" ∷ codes "(* 2 3 x)" ∷ codes "(* x 2)" ∷ codes "(* (+ 1 1) x)" ∷ codes "(* (- 2) (/ 1 3) u)" ∷ codes "(/ x 2)" ∷ codes "(/ u 2 0.5)"
    ∷ codes "(div x 2)" ∷ codes "(mod x (- 2))" ∷ codes "(div (mod x 3) 2)" ∷ codes "(+ x y (* 2 x))" ∷ codes "(abs (to_int (* 2 u)))"
    ∷ codes "(* 170141183460469231731687303715884105727 170141183460469231731687303715884105727)" ∷ codes "(+ 170141183460469231731687303715884105727 1)" ∷ codes "(* 170141183460469231731687303715884105727 x)"
    ∷ codes "(let ((z (* x x))) x)" ∷ []

abbrev pub nonlinear_texts : List (List ℕ)
nonlinear_texts =
    codes "(* x x)" ∷ codes "(* x 2 y)" ∷ codes "(/ 2 x)" ∷ codes "(/ x 0)" ∷ codes "(/ u 2 0.0)" ∷ codes "(/ 1 0)" ∷ codes "(div x 0)" ∷ codes "(mod x 0)" ∷ codes "(mod x y)"
    ∷ codes "(div x (- 1 1))" ∷ codes "(* (ite a 1 2) x)" ∷ codes "(* (abs 2) x)" ∷ codes "(/ u (to_int 2.0))" ∷ codes "(not (< 1 (+ x (* x y))))" ∷ codes "(half (* x x))"
    ∷ codes "(* (+ 170141183460469231731687303715884105727 1) x)" ∷ codes "(* (- (+ 170141183460469231731687303715884105727 1) 1) x)" ∷ []

-- A product of two variables, or a divisor that is no constant or is zero, is never linear; a constant that leaves the numbers
-- on the way is none.
pub record HasLinearTerms : Type 0 where
  pub linear : linear_in linear_texts ≡ all_as true linear_texts
  pub nonlinear : linear_in nonlinear_texts ≡ all_as false nonlinear_texts

-- The values of constant terms.
pub record HasConstants : Type 0 where
  pub whole_numbers : constants_told (codes "(+ 1 2)" ∷ codes "(- 5)" ∷ codes "(* 2 3 4)" ∷ codes "(- 170141183460469231731687303715884105727)" ∷ []) ≡ map (λ n. Some (whole n)) (pos 3 ∷ negsuc 4 ∷ pos 24 ∷ negsuc 170141183460469231731687303715884105726 ∷ [])
  pub quotients : constants_told (codes "(/ 1 2)" ∷ codes "(/ 6 (- 4))" ∷ codes "(+ 1 0.5)" ∷ codes "(- 0.50 1)" ∷ []) ≡ map (λ q. Some q) (over (pos 1) 2 ∷ over (negsuc 2) 2 ∷ over (pos 3) 2 ∷ over (negsuc 0) 2 ∷ [])
  pub none : constants_told (codes "(+ x 1)" ∷ codes "(/ 1 0)" ∷ codes "(+ 170141183460469231731687303715884105727 1)" ∷ codes "(- (- 170141183460469231731687303715884105727) 1)" ∷ codes "(to_int 2.0)" ∷ codes "(div 4 2)" ∷ codes "(ite true 1 2)" ∷ [])
      ≡ None ∷ None ∷ None ∷ None ∷ None ∷ None ∷ None ∷ []
