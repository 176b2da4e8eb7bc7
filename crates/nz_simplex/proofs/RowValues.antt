-- A value from its row, one nonbasic form after another.
use Rattle.std.proofs.Common.{◌≡◌, ℕ, List, ◌∷◌, ◌++◌, Some, None, sym, ap, ◌∙◌, append_assoc}
use Rattle.nz_fractions.proofs.FirstOperations.{first_wide-none, first_wide-some}
use Rattle.nz_fractions.specs.Fraction.{Operation, first_wide}
use Rattle.nz_spec.specs.numbers.Infinitesimal.{Infinitesimal}
use Rattle.nz_spec.specs.simplex.Basis.{Coefficients}
use Rattle.nz_spec.specs.simplex.Bland.{value_onto, times, plus}
use Rattle.nz_simplex.specs.Choices.{multiple_onto}

module _ (c : Coefficients) (x : ℕ → Infinitesimal) (t : Infinitesimal) (k : ℕ) (ks : List ℕ) where
  -- the operations of the first multiple stand first
  onto_operations : (value_onto c x t (k ∷ ks)).operations ≡ (multiple_onto t (x k) (c k)).operations ++ (value_onto c x (multiple_onto t (x k) (c k)).result ks).operations
  onto_operations = sym (append_assoc (times (x k) (c k)).operations (plus t (times (x k) (c k)).result).operations (value_onto c x (multiple_onto t (x k) (c k)).result ks).operations)

  -- where the first multiple stays among the numbers, the rest decides
  pub onto_more : first_wide (multiple_onto t (x k) (c k)).operations ≡ None
      → first_wide (value_onto c x t (k ∷ ks)).operations ≡ first_wide (value_onto c x (multiple_onto t (x k) (c k)).result ks).operations
  onto_more fits =
      ap first_wide onto_operations
      ∙ first_wide-none (multiple_onto t (x k) (c k)).operations (value_onto c x (multiple_onto t (x k) (c k)).result ks).operations fits

  -- else it stops there
  pub onto_stop : (o : Operation) → first_wide (multiple_onto t (x k) (c k)).operations ≡ Some o → first_wide (value_onto c x t (k ∷ ks)).operations ≡ Some o
  onto_stop o stop =
      ap first_wide onto_operations
      ∙ first_wide-some (multiple_onto t (x k) (c k)).operations (value_onto c x (multiple_onto t (x k) (c k)).result ks).operations o stop
