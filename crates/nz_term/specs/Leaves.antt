-- What a leaf of the code is.
use Rattle.std.specs.Prelude.{◌≡◌, ℕ, ◌<◌, ◌≤◌, Bool, List, length, slice_get}
use Rattle.std.specs.List.{IsDistinct}
use Rattle.nz_spec.specs.terms.Term as spec
use Rattle.nz_spec.specs.terms.Term.{constant, parameter, integer, decimal_number}
use Rattle.nz_spec.specs.clauses.Literal.{are_same_head}
use Rattle.nz_term.specs.declared.leaves.Leaf.{Leaf}
use Rattle.nz_term.specs.declared.leaves.Leaf.TheVariants.{Constant, Parameter, Integer, Decimal}
use Rattle.nz_term.specs.declared.leaves.Key as keys
use Rattle.nz_term.specs.declared.leaves.Key.TheVariants as key
use Rattle.nz_term.specs.Constants.{constant_of, sort_of}
use Rattle.nz_term.specs.Heads.{operator_of}

-- the head of the term that a leaf is
abbrev pub leaf_head : Leaf → spec.Head
leaf_head (Constant c) = constant (constant_of c)
leaf_head (Parameter i s) = parameter i (sort_of s)
leaf_head (Integer n) = integer n
leaf_head (Decimal n places) = decimal_number n places

abbrev pub are_same_leaf : Leaf → Leaf → Bool
are_same_leaf a b = are_same_head (leaf_head a) (leaf_head b)

abbrev pub key_head : keys.Key → spec.Head
key_head (key.Leaf l) = leaf_head l
key_head (key.Operator o) = operator_of o

-- No leaf stands twice.
abbrev pub AreDistinctLeaves : List Leaf → Type 0
AreDistinctLeaves ls = IsDistinct are_same_leaf ls

-- Each leaf keeps its place.
abbrev pub AreKept : List Leaf → List Leaf → Type 0
AreKept old new = (length old ≤ length new) × ((i : ℕ) → i < length old → slice_get new i ≡ slice_get old i)
