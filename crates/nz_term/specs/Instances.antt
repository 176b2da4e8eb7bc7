-- Instances of terms in a table, by numbers.
use Rattle.std.specs.Prelude.{◌≡◌, ℕ, ◌<◌, nat_eq, List, length, slice_get, unwrap_or, Option, Some, None, All}
use Rattle.std.specs.HashMap.{HashMap, get}
use Rattle.nz_spec.specs.terms.Term.{Head, parameter}
use Rattle.nz_spec.specs.terms.Table.{Node, term_in, terms_at}
use Rattle.nz_spec.specs.terms.Definitions.{instance_of}

-- the number of the term that is put for a parameter
abbrev pub argument_of : Head → List ℕ → Option ℕ
argument_of (parameter i s) us = slice_get us i
argument_of h us = None

-- The term of this number is the instance of the term of another, with the terms of these numbers for the parameters.
pub record IsInstance (ns : List Node) (us : List ℕ) (id made : ℕ) : Type 0 where
  pub within : made < length ns
  pub term : term_in ns made ≡ instance_of (terms_at (term_in ns) us) (term_in ns id)

-- the number of the instance of a term; what has none in the map stays
abbrev pub instance_in : {S : Type 0} → HashMap ℕ ℕ S → ℕ → ℕ
instance_in made id = unwrap_or (get nat_eq made id) id

-- These are the instances of the arguments of a node.
abbrev pub HasInstances : List Node → List ℕ → (ℕ → ℕ) → ℕ → Type 0
HasInstances ns us made id = (n : Node) → slice_get ns id ≡ Some n → All (λ k. IsInstance ns us k (made k)) n.kids
