-- What units with arguments stand for, over a table of terms, and their rows of the unit table.
use Rattle.std.specs.Prelude.{◌≡◌, ℕ, ◌<◌, List, [], ◌∷◌, ◌++◌, length, Option, Some, None, IsSome}
use Rattle.nz_spec.specs.numbers.Computation.{at_once}
use Rattle.nz_spec.specs.terms.Form.{Numbering}
use Rattle.nz_spec.specs.clauses.Gates.{fails, holds}
use Rattle.nz_spec.specs.terms.Linear.{constant_value}
use Rattle.nz_spec.specs.clauses.Links.{at_most_literal}
use Rattle.nz_spec.specs.clauses.Literal.{Literal}
use Rattle.nz_spec.specs.terms.Table.{Node, term_in}
use Rattle.nz_spec.specs.terms.Term as spec
use Rattle.nz_spec.specs.terms.Term.{bool_sort, choice, integer_quotient, modulus, magnitude, to_int, Term, apply, no_terms, terms}
use Rattle.nz_rows.specs.declared.units.Meaning.{Meaning}
use Rattle.nz_rows.specs.declared.units.Meaning.TheVariants.{Choice, Quotient, Remainder, Size, Rounded}
use Rattle.nz_rows.specs.Comparisons.{IsUnary, IsBinary}
use Rattle.nz_rows.specs.Rows.{Row, unit_rows}

-- the rows by which a literal is true, or two numbers are one
abbrev pub equal_rows : Numbering → Literal → Term → Term → List Row
equal_rows number l a b = (at_once l ∷ at_most_literal number a b ∷ []) ∷ (at_once l ∷ at_most_literal number b a ∷ []) ∷ []

-- the rows of a unit that is a choice between numbers
abbrev pub choice_rows : Numbering → Term → Term → Term → Term → List Row
choice_rows number u c a b = equal_rows number (fails c) u a ++ equal_rows number (holds c) u b

-- ---- Units

-- a choice between numbers of one sort
pub record IsChoice (ns : List Node) (u : Term) (c a b : ℕ) : Type 0 where
  pub sort : spec.Sort
  pub numbers : sort ≡ bool_sort → ⊥
  pub condition : c < length ns
  pub left : a < length ns
  pub right : b < length ns
  pub term : u ≡ apply (choice sort) (terms (term_in ns c) (terms (term_in ns a) (terms (term_in ns b) no_terms)))

-- the unit stands for this; with none, it has no row
abbrev pub IsMeaning : List Node → Term → Option Meaning → Type 0
IsMeaning ns u (Some (Choice c a b)) = IsChoice ns u c a b
IsMeaning ns u (Some (Quotient a k)) = IsBinary ns u integer_quotient a k × IsSome (constant_value (term_in ns k))
IsMeaning ns u (Some (Remainder a k)) = IsBinary ns u modulus a k × IsSome (constant_value (term_in ns k))
IsMeaning ns u (Some (Size a)) = IsUnary ns u magnitude a
IsMeaning ns u (Some (Rounded a)) = IsUnary ns u to_int a
IsMeaning ns u None = unit_rows ns u ≡ []
