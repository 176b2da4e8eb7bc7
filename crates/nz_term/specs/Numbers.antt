-- The numbers by which leaves are told apart, and what a hash is fed of them.
use Rattle.std.specs.Prelude.{ℕ, List, [], ◌∷◌, ◌++◌}
use Rattle.std.specs.Hash as fed
use Rattle.nz_spec.specs.clauses.Literal.{head_numbers}
use Rattle.nz_term.specs.declared.leaves.Leaf.{Leaf}
use Rattle.nz_term.specs.Leaves.{leaf_head}

abbrev pub numbers_of : Leaf → List ℕ
numbers_of l = head_numbers (leaf_head l)

-- all but the sort, which other leaves of the kind rarely differ in
abbrev pub fed_of : List ℕ → fed.HashWrites
fed_of (k ∷ s ∷ n ∷ p ∷ name) = fed.u8 k ++ (fed.u128 n ++ (fed.usize p ++ fed.slice fed.u8 name))
fed_of ns = []
