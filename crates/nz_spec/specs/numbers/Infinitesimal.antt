-- Infinitesimal numbers c + k*δ, where δ is above 0 and below each fraction above 0, and a fraction that can stand for δ.
-- Source: Dutertre and de Moura, A Fast Linear-Arithmetic Solver for DPLL(T), CAV 2006, section 5 (strict bounds).
use Rattle.std.specs.Prelude.{◌≡◌, Bool, false, ◌⊎◌, List, [], ◌∷◌, ◌++◌, if◌then◌else◌, pos, All, Contains}
use Rattle.std.specs.Cmp.{IsTotalOrder}
use Rattle.std.specs.Ordering.{is_gt, ordering_then}
use Rattle.std.specs.declared.cmp.Ordering.{Ordering}
use Rattle.std.specs.declared.cmp.Ordering.TheVariants.{Less}
use Rattle.nz_fractions.specs.Fraction.{Fraction, whole, ◌=ℚ◌, ◌≤ℚ◌, ◌<ℚ◌, fraction_lt, fraction_cmp, fraction_min, ◌+ℚ◌, ◌-ℚ◌, ◌*ℚ◌, Difference, Quotient, outcome, Operation}

-- standard + coefficient * δ
pub record Infinitesimal : Type 0 where
  pub standard : Fraction
  pub coefficient : Fraction

-- ---- the order: by the standard parts, then by the coefficients

pub record ◌=δ◌ (x y : Infinitesimal) : Type 0 where
  pub standard : x.standard =ℚ y.standard
  pub coefficient : x.coefficient =ℚ y.coefficient

abbrev pub ◌≤δ◌ : Infinitesimal → Infinitesimal → Type 0
x ≤δ y = (x.standard <ℚ y.standard) ⊎ ((x.standard =ℚ y.standard) × (x.coefficient ≤ℚ y.coefficient))

infix 4 ◌=δ◌ ◌≤δ◌
-- the same as a test
unfoldable pub infinitesimal_cmp : Infinitesimal → Infinitesimal → Ordering
infinitesimal_cmp x y = ordering_then (fraction_cmp x.standard y.standard) (fraction_cmp x.coefficient y.coefficient)

-- ---- arithmetic, part by part

infixl 6 ◌+δ◌ ◌-δ◌
unfoldable pub ◌+δ◌ : Infinitesimal → Infinitesimal → Infinitesimal
x +δ y = record { standard = x.standard +ℚ y.standard; coefficient = x.coefficient +ℚ y.coefficient }

unfoldable pub ◌-δ◌ : Infinitesimal → Infinitesimal → Infinitesimal
x -δ y = record { standard = x.standard -ℚ y.standard; coefficient = x.coefficient -ℚ y.coefficient }

unfoldable pub scaled : Infinitesimal → Fraction → Infinitesimal
scaled x by = record { standard = x.standard *ℚ by; coefficient = x.coefficient *ℚ by }

-- the fraction that is left where e stands for δ
unfoldable pub at : Infinitesimal → Fraction → Fraction
at x e = x.standard +ℚ x.coefficient *ℚ e

-- ---- a fraction for δ

abbrev pub Pair : Type 0
Pair = Infinitesimal × Infinitesimal

-- c + k*δ up to d + l*δ turns round where δ passes (d-c)/(k-l); only k above l sets such a limit
unfoldable pub is_limiting : Pair → Bool
is_limiting pair = fraction_lt pair.1.coefficient pair.0.coefficient

-- (d-c)/(k-l), with each part in lowest terms as it is computed
unfoldable pub limit : Pair → Fraction
limit pair =
    outcome Quotient
    (outcome Difference pair.1.standard pair.0.standard)
    (outcome Difference pair.0.coefficient pair.1.coefficient)

-- the limits that the pairs set, in order
unfoldable pub limits : List Pair → List Fraction
limits [] = []
limits (x ∷ xs) = if is_limiting x then limit x ∷ limits xs else limits xs

-- e is the least of 1 and the limits: none is below it, and it is one of them
pub record IsLeastLimit (pairs : List Pair) (e : Fraction) : Type 0 where
  pub at_most : All (λ q. e ≤ℚ q) (whole (pos 1) ∷ limits pairs)
  pub reached : Contains (whole (pos 1) ∷ limits pairs) e

-- the same as a function: the first of the least ones
unfoldable pub least_from : Fraction → List Fraction → Fraction
least_from e [] = e
least_from e (q ∷ qs) = least_from (fraction_min e q) qs

unfoldable pub chosen_delta : List Pair → Fraction
chosen_delta pairs = least_from (whole (pos 1)) (limits pairs)

-- the operations that the limit of a pair takes, in order
unfoldable pub limit_operations : Pair → List Operation
limit_operations pair =
    record { operator = Difference; left = pair.1.standard; right = pair.0.standard }
    ∷ record { operator = Difference; left = pair.0.coefficient; right = pair.1.coefficient }
    ∷ record {
      operator = Quotient;
      left = outcome Difference pair.1.standard pair.0.standard;
      right = outcome Difference pair.0.coefficient pair.1.coefficient;
    }
    ∷ []

-- those of all limits, pair by pair; comparisons are never Wide
unfoldable pub delta_operations : List Pair → List Operation
delta_operations [] = []
delta_operations (x ∷ xs) = if is_limiting x then limit_operations x ++ delta_operations xs else delta_operations xs

-- both infinitesimals of each pair stand in order
abbrev pub AreOrdered : List Pair → Type 0
AreOrdered pairs = All (λ pair. pair.0 ≤δ pair.1) pairs

-- they stay in order where e stands for δ
abbrev pub AreOrderedAt : List Pair → Fraction → Type 0
AreOrderedAt pairs e = All (λ pair. at pair.0 e ≤ℚ at pair.1 e) pairs

-- ---- Laws

-- Infinitesimals are in order: of two, one is at most the other, nothing is less than itself, and what is less goes along with what is at most.
pub record InfinitesimalsAreOrdered : Type 0 where
  pub total : IsTotalOrder infinitesimal_cmp
  pub at_most : (x y : Infinitesimal) → (infinitesimal_cmp y x ≡ Less → ⊥) → is_gt (infinitesimal_cmp x y) ≡ false
  pub never_less : (x : Infinitesimal) → infinitesimal_cmp x x ≡ Less → ⊥
  pub at_most_less : (x y z : Infinitesimal) → is_gt (infinitesimal_cmp x y) ≡ false → infinitesimal_cmp y z ≡ Less → infinitesimal_cmp x z ≡ Less
  pub less_at_most : (x y z : Infinitesimal) → infinitesimal_cmp x y ≡ Less → is_gt (infinitesimal_cmp y z) ≡ false → infinitesimal_cmp x z ≡ Less
  pub by_parts : (x y : Infinitesimal) → is_gt (infinitesimal_cmp x y) ≡ false → x ≤δ y
