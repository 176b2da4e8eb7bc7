-- Comparisons of numbers, over a table of terms, and their rows of the link table.
use Rattle.std.specs.Prelude.{◌≡◌, ℕ, ◌<◌, Bool, true, false, not, List, [], ◌∷◌, length, Option, Some, None}
use Rattle.nz_spec.specs.numbers.Computation.{at_once, turned_into}
use Rattle.nz_spec.specs.terms.Form.{Form, Numbering}
use Rattle.nz_spec.specs.terms.FormOf.{form_of}
use Rattle.nz_spec.specs.clauses.Gates.{fails, holds}
use Rattle.nz_spec.specs.clauses.LinearLiteral.{is_at_most_zero, is_below_zero}
use Rattle.nz_spec.specs.clauses.Links.{at_most_literal, below_literal, minus}
use Rattle.nz_spec.specs.clauses.Literal.{Literal}
use Rattle.nz_spec.specs.terms.Table.{Node, term_in}
use Rattle.nz_spec.specs.terms.Term.{Head, less, at_most, equality, is_int, Term, apply, no_terms, terms}
use Rattle.nz_rows.specs.declared.links.Comparison.{Comparison}
use Rattle.nz_rows.specs.declared.links.Comparison.TheVariants.{Less, AtMost, Equal, IsInt}
use Rattle.nz_rows.specs.Rows.{Row, link_rows}
use Rattle.nz_rows.specs.GateRows.{is_boolean_at}

-- ---- Terms over arguments of the table

-- a term of this head over one argument
pub record IsUnary (ns : List Node) (t : Term) (h : Head) (a : ℕ) : Type 0 where
  pub argument : a < length ns
  pub term : t ≡ apply h (terms (term_in ns a) no_terms)

-- and over two
pub record IsBinary (ns : List Node) (t : Term) (h : Head) (a b : ℕ) : Type 0 where
  pub left : a < length ns
  pub right : b < length ns
  pub term : t ≡ apply h (terms (term_in ns a) (terms (term_in ns b) no_terms))

-- ---- Comparisons

-- the term is this comparison; with none, it has no row
abbrev pub IsComparison : List Node → Term → Option Comparison → Type 0
IsComparison ns t (Some (Less a b)) = IsBinary ns t less a b
IsComparison ns t (Some (AtMost a b)) = IsBinary ns t at_most a b
IsComparison ns t (Some (Equal a b)) = IsBinary ns t equality a b × (is_boolean_at ns a ≡ false)
IsComparison ns t (Some (IsInt a)) = IsUnary ns t is_int a
IsComparison ns t None = link_rows ns t ≡ []

-- a form is below 0, where the bound is strict, and else at most 0
abbrev pub limit_of : Bool → Form → Literal
limit_of true f = is_below_zero f
limit_of false f = is_at_most_zero f

-- the rows of t, which is `a < b` where it is strict, and else `a <= b`
abbrev pub order_rows : Numbering → Bool → Term → Term → Term → List Row
order_rows number strict t a b =
    (at_once (fails t) ∷ turned_into (limit_of strict) (minus number (form_of number a) (form_of number b)) ∷ [])
    ∷ (at_once (holds t) ∷ turned_into (limit_of (not strict)) (minus number (form_of number b) (form_of number a)) ∷ []) ∷ []

-- the rows of an equation t of numbers
abbrev pub number_rows : Numbering → Term → Term → Term → List Row
number_rows number t a b =
    (at_once (fails t) ∷ at_most_literal number a b ∷ []) ∷ (at_once (fails t) ∷ at_most_literal number b a ∷ [])
    ∷ (at_once (holds t) ∷ below_literal number a b ∷ below_literal number b a ∷ []) ∷ []
