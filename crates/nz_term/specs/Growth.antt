-- Tables that grow.
use Rattle.std.specs.Prelude.{◌≡◌, ◌⊎◌, ℕ, ◌<◌, List, [], ◌∷◌, ◌++◌, length, Some, None, ⊤}
use Rattle.std.specs.List.{AllByRecursion}
use Rattle.nz_spec.specs.terms.Term.{Head, constant_of}
use Rattle.nz_spec.specs.terms.Table.{Node, term_in}

-- how a table goes on: the node was there, or it is put last
abbrev pub GoesOn : List Node → Node → List Node → Type 0
GoesOn ns n new = (new ≡ ns) ⊎ (new ≡ ns ++ n ∷ [])

-- the head is that of an operator or a number, and no constant
abbrev pub IsOperator : Head → Type 0
IsOperator h = elim (constant_of h) [ Some c ↦ ⊥ | None ↦ ⊤ ]

-- each number stands for the term that it stood for
abbrev pub KeepsTerms : List Node → List Node → Type 0
KeepsTerms old new = (i : ℕ) → i < length old → term_in new i ≡ term_in old i

-- The table has grown by nodes of operators and numbers, and what was there stays.
pub record Grows (old new : List Node) : Type 0 where
  pub more : List Node
  pub all : new ≡ old ++ more
  pub operators : AllByRecursion (λ (n : Node). IsOperator n.head) more
  pub stays : KeepsTerms old new

-- A table that has grown twice has grown.
abbrev pub GrowsTwice : Type 0
GrowsTwice = (old mid new : List Node) → Grows old mid → Grows mid new → Grows old new
