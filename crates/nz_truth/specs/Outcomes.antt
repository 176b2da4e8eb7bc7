-- What terms come to: a value, or the first operation that leaves the numbers.
use Rattle.std.specs.Prelude.{◌≡◌, ℕ, nat_eq, ⊤, List, [], ◌∷◌, Option, Some, None, unwrap_or, Contains, false, pos, slice_get}
use Rattle.std.specs.HashMap.{HashMap, get}
use Rattle.std.specs.List.{AllByRecursion}
use Rattle.nz_fractions.specs.Fraction.{Arithmetic, Operation, first_wide}
use Rattle.nz_spec.specs.terms.Operations.{operations_by, operations_of}
use Rattle.nz_spec.specs.terms.Term as spec
use Rattle.nz_spec.specs.terms.Term.{Assignment, Constant, Head, constant, integer, decimal_number, Term, value_of, carried_out, combined, default_value, number, whole_number, decimal_value}
use Rattle.nz_spec.specs.terms.Table.{Node, listed_value, term_in}
use Rattle.nz_frac.specs.Operations.{operation_of}
use Rattle.nz_frac.specs.declared.frac.Wide as wide
use Rattle.nz_term.specs.Values as own
use Rattle.nz_term.specs.declared.assign.Value as values
use Rattle.nz_term.specs.declared.assign.Value.TheVariants as value
use Rattle.nz_truth.specs.declared.walk.Outcome.{Outcome}
use Rattle.nz_truth.specs.declared.walk.Outcome.TheVariants as outcome

-- what comes of operations that lead to this value where none of them leaves the numbers
abbrev pub IsOutcomeOf : List Operation → spec.Value → Outcome → Type 0
IsOutcomeOf operations v (outcome.Value x) = (first_wide operations ≡ None) × (own.value_of x ≡ v)
IsOutcomeOf operations v (outcome.Wide w) = first_wide operations ≡ Some (operation_of w)

-- what a term comes to
abbrev pub IsOutcome : Assignment → Term → Outcome → Type 0
IsOutcome a t o = IsOutcomeOf (operations_of a t) (value_of a t) o

-- so do the terms of these numbers, one for one
abbrev pub AreOutcomes : List Node → Assignment → List ℕ → List Outcome → Type 0
AreOutcomes ns a [] [] = ⊤
AreOutcomes ns a (i ∷ is) (o ∷ os) = IsOutcome a (term_in ns i) o × AreOutcomes ns a is os
AreOutcomes ns a [] (o ∷ os) = ⊥
AreOutcomes ns a (i ∷ is) [] = ⊥

-- ---- Operations

-- what comes of an operation over values, from the left; of none this value
abbrev pub IsOperated : Arithmetic → spec.Value → List spec.Value → Outcome → Type 0
IsOperated op of_none [] o = IsOutcomeOf [] of_none o
IsOperated op of_none (v ∷ vs) o = IsOutcomeOf (operations_by op v vs) (combined (carried_out op) v vs) o

-- the value is that of a head that its arguments don't tell
abbrev pub IsGiven : Assignment → Head → spec.Value → Type 0
IsGiven a (constant c) v = v ≡ a c
IsGiven a (integer n) v = v ≡ whole_number (pos n)
IsGiven a (decimal_number n places) v = v ≡ number (decimal_value n places)
IsGiven a h v = ⊤

-- ---- What is known by numbers

-- these pairs give the constants their values, and where none is listed it is the default of the sort
abbrev pub AreGiven : List Node → Assignment → List (ℕ × spec.Value) → Type 0
AreGiven ns a ps = (i : ℕ) (n : Node) (c : Constant) → slice_get ns i ≡ Some n → n.head ≡ constant c → unwrap_or (listed_value ps i) (default_value c.sort) ≡ a c

-- what the map has for the term of a number
abbrev pub outcome_in : {S : Type 0} → HashMap ℕ Outcome S → ℕ → Outcome
outcome_in os i = unwrap_or (get nat_eq os i) (outcome.Value (value.Truth false))

-- what is known of these numbers is what their terms come to
abbrev pub AreEvaluated : List Node → Assignment → List ℕ → (ℕ → Outcome) → Type 0
AreEvaluated ns a is known = (i : ℕ) → Contains is i → IsOutcome a (term_in ns i) (known i)

-- so it is with the arguments of the term of a number
abbrev pub HasEvaluatedKids : List Node → Assignment → ℕ → (ℕ → Outcome) → Type 0
HasEvaluatedKids ns a i known = (n : Node) → slice_get ns i ≡ Some n → AllByRecursion (λ k. IsOutcome a (term_in ns k) (known k)) n.kids

-- the first of these that is no value
abbrev pub first_stop : List Outcome → Option wide.Wide
first_stop [] = None
first_stop (outcome.Value v ∷ os) = first_stop os
first_stop (outcome.Wide w ∷ os) = Some w

-- those that are values
abbrev pub values_in : List Outcome → List values.Value
values_in [] = []
values_in (outcome.Value v ∷ os) = v ∷ values_in os
values_in (outcome.Wide w ∷ os) = values_in os
