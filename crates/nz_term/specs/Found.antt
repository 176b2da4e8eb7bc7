-- What a look-up of a term finds.
use Rattle.std.specs.Prelude.{◌≡◌, ℕ, ◌<◌, List, length, Option, Some, None}
use Rattle.nz_spec.specs.terms.Term.{Term}
use Rattle.nz_spec.specs.terms.Table.{Node, term_in}
use Rattle.nz_spec.specs.terms.Order.{IsInTable}

-- The number is the term's; with no number, the table hasn't the term.
abbrev pub IsFound : List Node → Term → Option ℕ → Type 0
IsFound ns t None = IsInTable ns t → ⊥
IsFound ns t (Some i) = (i < length ns) × (term_in ns i ≡ t)
