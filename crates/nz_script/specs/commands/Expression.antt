-- Terms as they are written (SMT-LIB 2.6, section 3.6): their shape alone, whatever their names stand for.
use Rattle.std.specs.Prelude.{ℕ, List, [], ◌∷◌, Option}
use Rattle.nz_spec.specs.terms.Term.{Head, integer, decimal_number}

-- a numeral by its number; a decimal by its digits as one number, and how many of them stand after the point
pub data Numeric : Type 0 where
  written_integer : ℕ → Numeric
  written_decimal : ℕ → ℕ → Numeric

abbrev pub numeric_head : Numeric → Head
numeric_head (written_integer n) = integer n
numeric_head (written_decimal n places) = decimal_number n places

mutual
  pub data Expression : Type 0 where
    written_number : Option Numeric → Expression  -- where it is within the bounds on numbers
    written_name : List ℕ → Expression
    written_use : List ℕ → Expressions → Expression  -- a name over one term or more
    written_let : Locals → Expression → Expression

  pub data Expressions : Type 0 where
    no_expressions : Expressions
    expressions : Expression → Expressions → Expressions

  -- what a `let` binds: names, each to a term
  pub data Locals : Type 0 where
    no_locals : Locals
    locals : List ℕ → Expression → Locals → Locals

abbrev pub local_names : Locals → List (List ℕ)
local_names no_locals = []
local_names (locals name e ls) = name ∷ local_names ls
