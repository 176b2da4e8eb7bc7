-- What a table knows of its terms.
use Rattle.std.specs.Prelude.{◌≡◌, ℕ, List, [], ◌∷◌, map, fold, Bool, false, not, Option, Some, None, slice_index_or}
use Rattle.std.specs.List.{list_all, list_any}
use Rattle.nz_fractions.specs.Fraction.{Fraction, Arithmetic}
use Rattle.nz_spec.specs.terms.Term.{Term, apply, no_terms, falsum, is_zero, holds_integer}
use Rattle.nz_spec.specs.terms.Table.{Node, IsTable, with_term}
use Rattle.nz_spec.specs.terms.Linear.{constant_value, folded, is_linear}
use Rattle.nz_term.specs.declared.facts.Fact.{Fact}

-- what is known by these three answers
abbrev pub fact_with : Option Fraction → Bool → Bool → Fact
fact_with c linear integral = record { constant = c; is_linear = linear; holds_integer = integral }

-- what is known of a term
abbrev pub fact_of : Term → Fact
fact_of t = fact_with (constant_value t) (is_linear t) (holds_integer t)

-- what is listed for the term of a number; a number past the end stands for `false`
abbrev pub fact_at : List Fact → ℕ → Fact
fact_at fs i = slice_index_or fs i (fact_of (apply falsum no_terms))

abbrev pub constants_at : List Fact → List ℕ → List (Option Fraction)
constants_at fs is = map (λ i. (fact_at fs i).constant) is

-- each of these terms is linear
abbrev pub are_linear_at : List Fact → List ℕ → Bool
are_linear_at fs is = list_all (λ i. (fact_at fs i).is_linear) is

-- one of these terms is a unit of sort `Int`, or made of one
abbrev pub hold_integer_at : List Fact → List ℕ → Bool
hold_integer_at fs is = list_any (λ i. (fact_at fs i).holds_integer) is

-- an operation over all of these constants, from the left
abbrev pub folded_all : Arithmetic → List (Option Fraction) → Option Fraction
folded_all op [] = None
folded_all op (c ∷ cs) = folded op c cs

-- a constant other than zero
abbrev pub is_divisor : Option Fraction → Bool
is_divisor None = false
is_divisor (Some q) = not (is_zero q)

-- The facts are those of the terms of the table, in order.
pub record IsKnown (ns : List Node) (fs : List Fact) : Type 0 where
  pub table : IsTable ns
  pub facts : fs ≡ map fact_of (fold with_term [] ns)
