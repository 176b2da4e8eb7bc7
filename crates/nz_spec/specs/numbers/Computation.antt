-- Computations on numbers: what one comes to, and the operations that it takes, in their order. What it comes to is exact, also
-- where an operation leaves the numbers; the first of them that does is where it stops.
use Rattle.std.specs.Prelude.{◌≡◌, List, [], ◌∷◌, ◌++◌}
use Rattle.nz_fractions.specs.Fraction.{Fraction, Arithmetic, outcome, Operation, first_wide}

pub record Computation (A : Type 0) : Type 0 where
  pub result : A
  pub operations : List Operation

-- one operation
abbrev pub operated : Arithmetic → Fraction → Fraction → Computation Fraction
operated op p q = record { result = outcome op p q; operations = record { operator = op; left = p; right = q } ∷ [] }

module _ {A : Type 0} where
  -- no operation
  abbrev pub at_once : A → Computation A
  at_once x = record { result = x; operations = [] }

module _ {A B : Type 0} where
  -- no operation more
  abbrev pub turned_into : (A → B) → Computation A → Computation B
  turned_into f c = record { result = f c.result; operations = c.operations }

  -- a computation, and then another over what it comes to
  abbrev pub and_then : Computation A → (A → Computation B) → Computation B
  and_then c f = record { result = (f c.result).result; operations = c.operations ++ (f c.result).operations }

module _ {A : Type 0} where
  -- one computation after another
  abbrev pub in_turn : List (Computation A) → Computation (List A)
  in_turn [] = at_once []
  in_turn (c ∷ cs) = and_then c (λ x. turned_into (λ xs. x ∷ xs) (in_turn cs))

-- two computations come to the same, and stop at the same
pub record IsSame {A : Type 0} (c d : Computation A) : Type 0 where
  pub result : c.result ≡ d.result
  pub stop : first_wide c.operations ≡ first_wide d.operations
