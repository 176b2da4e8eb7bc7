-- The bounds on the numbers that a command may hold, wherever they stand in it.
use Rattle.std.specs.Prelude.{ℕ, ◌+◌, ◌-◌, ◌*◌, ◌||◌, nat_lt, Bool, false, List, [], ◌∷◌, ◌++◌, length}
use Rattle.nz_fractions.specs.Fraction.{exceeds}
use Rattle.nz_script.specs.text.Tree.{Token, symbol, keyword, numeral, decimal, hexadecimal, binary, literal, Tree, leaf, node, Trees, no_trees, trees, before_point, after_point}
use Rattle.nz_spec.specs.terms.Term.{place_limit}

-- the number that decimal digits spell, after those that spell this number
abbrev pub value_onto : ℕ → List ℕ → ℕ
value_onto n [] = n
value_onto n (b ∷ bs) = value_onto (10 * n + (b - 48)) bs

abbrev pub digits_value : List ℕ → ℕ
digits_value bs = value_onto 0 bs

-- the digits of a decimal, without its point
abbrev pub decimal_digits : List ℕ → List ℕ
decimal_digits bs = before_point bs ++ after_point bs

-- the digits spell a number above the greatest
abbrev pub are_wide : List ℕ → Bool
are_wide bs = exceeds (digits_value bs)

abbrev pub is_wide_token : Token → Bool
is_wide_token (numeral bs) = are_wide bs
is_wide_token (decimal bs) = are_wide (decimal_digits bs)
is_wide_token (symbol name) = false
is_wide_token (keyword bs) = false
is_wide_token (hexadecimal bs) = false
is_wide_token (binary bs) = false
is_wide_token (literal bs) = false

abbrev pub is_long_decimal : Token → Bool
is_long_decimal (decimal bs) = nat_lt place_limit (length (after_point bs))
is_long_decimal (numeral bs) = false
is_long_decimal (symbol name) = false
is_long_decimal (keyword bs) = false
is_long_decimal (hexadecimal bs) = false
is_long_decimal (binary bs) = false
is_long_decimal (literal bs) = false

-- some token of the tree, at any depth, is so
abbrev mutual
  pub has_token : (Token → Bool) → Tree → Bool
  has_token test (leaf t) = test t
  has_token test (node ts) = have_token test ts

  pub have_token : (Token → Bool) → Trees → Bool
  have_token test no_trees = false
  have_token test (trees t ts) = has_token test t || have_token test ts
