-- A model of the live constants, by the values that a search gave some constants of the table.
use Rattle.std.specs.Prelude.{ℕ, List, [], map, flat_map, Option, Some, None, slice_get}
use Rattle.nz_spec.specs.terms.Term.{Constant, Value}
use Rattle.nz_spec.specs.terms.Table.{Node, assignment_by}
use Rattle.nz_spec.specs.search.Decide.{constants_of_head}
use Rattle.nz_spec.specs.terms.Model.{Binding}

-- the constant of a node, with what the values give it
abbrev pub bound_at : List Node → List (ℕ × Value) → Option Node → List Binding
bound_at ns ps None = []
bound_at ns ps (Some n) = map (λ (c : Constant). let b : Binding = record { constant = c; value = assignment_by ns ps c } in b) (constants_of_head n.head)

-- so for each of these numbers
abbrev pub completed : List Node → List (ℕ × Value) → List ℕ → List Binding
completed ns ps ids = flat_map (λ (i : ℕ). bound_at ns ps (slice_get ns i)) ids

-- the number of a node that is a constant, with the same
abbrev pub valued_at : List Node → List (ℕ × Value) → ℕ → Option Node → List (ℕ × Value)
valued_at ns ps i None = []
valued_at ns ps i (Some n) = map (λ (c : Constant). (i, assignment_by ns ps c)) (constants_of_head n.head)

abbrev pub completed_values : List Node → List (ℕ × Value) → List ℕ → List (ℕ × Value)
completed_values ns ps ids = flat_map (λ (i : ℕ). valued_at ns ps i (slice_get ns i)) ids
