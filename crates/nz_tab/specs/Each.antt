-- Computations for each of some numbers, whose lists stand one behind another.
use Rattle.std.specs.Prelude.{ℕ, List, [], ◌∷◌, ◌++◌, flat_map}
use Rattle.nz_fractions.specs.Fraction.{Fraction, Sum, Product}
use Rattle.nz_spec.specs.numbers.Computation.{Computation, operated, turned_into, and_then}
use Rattle.nz_spec.specs.simplex.Basis.{Coefficients}

-- a list, and behind it what comes of a computation
abbrev pub behind : List Fraction → Computation (List Fraction) → Computation (List Fraction)
behind xs c = turned_into (λ ys. xs ++ ys) c

abbrev pub each : (ℕ → Computation (List Fraction)) → List ℕ → Computation (List Fraction)
each f ks = record { result = flat_map (λ k. (f k).result) ks; operations = flat_map (λ k. (f k).operations) ks }

-- a list of one number
abbrev pub alone : Computation Fraction → Computation (List Fraction)
alone c = turned_into (λ x. x ∷ []) c

-- a coefficient with a multiple of another
abbrev pub with_multiple : Fraction → Coefficients → Coefficients → ℕ → Computation Fraction
with_multiple s d c k = and_then (operated Product s (d k)) (λ p. operated Sum (c k) p)
