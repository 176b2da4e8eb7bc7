-- What a symbol of the code stands for beside a table of leaves.
use Rattle.std.specs.Prelude.{◌≡◌, ℕ, ◌<◌, Bool, bytes_eq, List, [], ◌∷◌, ◌++◌, length, slice_get, Option, Some, None, ⊤}
use Rattle.std.specs.Hash as fed
use Rattle.nz_spec.specs.clauses.Literal.{head_kind, sort_number}
use Rattle.nz_spec.specs.terms.Term as spec
use Rattle.nz_spec.specs.terms.Term.{falsum, head_sort}
use Rattle.nz_term.specs.declared.leaves.Leaf.{Leaf}
use Rattle.nz_term.specs.declared.symbols.Symbol as symbols
use Rattle.nz_term.specs.declared.symbols.Symbol.TheVariants as symbol
use Rattle.nz_term.specs.Heads.{operator_of}
use Rattle.nz_term.specs.Leaves.{leaf_head}

-- ---- Numbers by which symbols are told apart, and what a hash is fed of them

abbrev pub kind_of : symbols.Symbol → ℕ
kind_of (symbol.Leaf i) = 0
kind_of (symbol.Operator o) = head_kind (operator_of o)

abbrev pub detail_of : symbols.Symbol → ℕ
detail_of (symbol.Leaf i) = i
detail_of (symbol.Operator o) = sort_number (head_sort (operator_of o))

abbrev pub symbol_numbers : symbols.Symbol → List ℕ
symbol_numbers s = kind_of s ∷ detail_of s ∷ []

abbrev pub are_same_symbol : symbols.Symbol → symbols.Symbol → Bool
are_same_symbol a b = bytes_eq (symbol_numbers a) (symbol_numbers b)

abbrev pub fed_symbol : List ℕ → fed.HashWrites
fed_symbol (k ∷ d ∷ ns) = fed.u8 k ++ fed.u32 d
fed_symbol ns = []

-- ---- Heads

-- the symbol of the leaf at a place
abbrev pub leaf_at : ℕ → symbols.Symbol
leaf_at i = symbol.Leaf i

-- the head of a leaf, if there is one; a place past the end stands for `false`
abbrev pub head_or_falsum : Option Leaf → spec.Head
head_or_falsum None = falsum
head_or_falsum (Some l) = leaf_head l

abbrev pub head_in : List Leaf → symbols.Symbol → spec.Head
head_in ls (symbol.Leaf i) = head_or_falsum (slice_get ls i)
head_in ls (symbol.Operator o) = operator_of o

-- The table has the leaf of the symbol.
abbrev pub HasLeaf : List Leaf → symbols.Symbol → Type 0
HasLeaf ls (symbol.Leaf i) = i < length ls
HasLeaf ls (symbol.Operator o) = ⊤

-- The symbol is that of a head.
pub record IsSymbolOf (ls : List Leaf) (h : spec.Head) (s : symbols.Symbol) : Type 0 where
  pub within : HasLeaf ls s
  pub head : head_in ls s ≡ h

-- The symbol is that of a head; with no symbol, there is none for it.
abbrev pub IsFoundSymbol : List Leaf → spec.Head → Option symbols.Symbol → Type 0
IsFoundSymbol ls h None = (s : symbols.Symbol) → HasLeaf ls s → head_in ls s ≡ h → ⊥
IsFoundSymbol ls h (Some s) = IsSymbolOf ls h s
