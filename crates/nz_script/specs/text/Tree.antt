-- Tokens and trees: what the text of a script holds (SMT-LIB 2.6, sections 3.1 and 3.2: tokens and s-expressions).
use Rattle.std.specs.Prelude.{ℕ, ◌==◌, ◌||◌, ◌&&◌, nat_le, not, Bool, false, List, [], ◌∷◌, Option, Some, None, codes, if◌then◌else◌}
use Rattle.std.specs.List.{list_all, list_any}

-- A token of a script, by its kind. A symbol is told by its name and a string literal by its text, however they were
-- spelled; the others are told by their bytes.
pub data Token : Type 0 where
  symbol : List ℕ → Token
  keyword : List ℕ → Token
  numeral : List ℕ → Token
  decimal : List ℕ → Token
  hexadecimal : List ℕ → Token
  binary : List ℕ → Token
  literal : List ℕ → Token  -- a string literal

-- the name of a token that is a symbol
abbrev pub symbol_name : Token → Option (List ℕ)
symbol_name (symbol name) = Some name
symbol_name (keyword bs) = None
symbol_name (numeral bs) = None
symbol_name (decimal bs) = None
symbol_name (hexadecimal bs) = None
symbol_name (binary bs) = None
symbol_name (literal bs) = None

-- A tree is one token, or a list of trees between parentheses.
mutual
  pub data Tree : Type 0 where
    leaf : Token → Tree
    node : Trees → Tree

  pub data Trees : Type 0 where
    no_trees : Trees
    trees : Tree → Trees → Trees

-- ---- Words by their bytes

-- a letter or a digit of ASCII
abbrev pub is_digit : ℕ → Bool
is_digit b = nat_le 48 b && nat_le b 57

abbrev pub is_letter : ℕ → Bool
is_letter b = (nat_le 65 b && nat_le b 90) || (nat_le 97 b && nat_le b 122)

-- A symbol's byte: a letter, a digit, or one of ~ ! @ $ % ^ & * _ - + = < > . ? /
abbrev pub is_symbol_byte : ℕ → Bool
is_symbol_byte b = is_letter b || is_digit b || list_any (λ c. b == c) (codes "~!@$%^&*_-+=<>.?/")

-- A simple symbol: one symbol byte or more, the first of them no digit.
abbrev pub is_simple_symbol : List ℕ → Bool
is_simple_symbol [] = false
is_simple_symbol (b ∷ bs) = not (is_digit b) && list_all is_symbol_byte (b ∷ bs)

-- one digit or more
abbrev pub are_digits : List ℕ → Bool
are_digits [] = false
are_digits (b ∷ bs) = list_all is_digit (b ∷ bs)

-- A numeral: 0, or digits that don't begin with 0.
abbrev pub is_numeral : List ℕ → Bool
is_numeral [] = false
is_numeral (b ∷ []) = is_digit b
is_numeral (b ∷ c ∷ bs) = not (b == 48) && list_all is_digit (b ∷ c ∷ bs)

-- the bytes before the first point, and those after it
abbrev pub before_point : List ℕ → List ℕ
before_point [] = []
before_point (b ∷ bs) = if b == 46 then [] else b ∷ before_point bs

abbrev pub after_point : List ℕ → List ℕ
after_point [] = []
after_point (b ∷ bs) = if b == 46 then bs else after_point bs

-- A decimal: a numeral, a point, and digits (zeros first, if any, and then a numeral).
abbrev pub is_decimal : List ℕ → Bool
is_decimal bs = is_numeral (before_point bs) && are_digits (after_point bs)

-- A keyword: a colon, and one symbol byte or more.
abbrev pub is_keyword : List ℕ → Bool
is_keyword [] = false
is_keyword (b ∷ []) = false
is_keyword (b ∷ c ∷ bs) = (b == 58) && list_all is_symbol_byte (c ∷ bs)

-- a digit of base 16
abbrev pub is_hexadecimal_digit : ℕ → Bool
is_hexadecimal_digit b = is_digit b || (nat_le 65 b && nat_le b 70) || (nat_le 97 b && nat_le b 102)

-- A hexadecimal: #x, and one digit of base 16 or more.
abbrev pub is_hexadecimal : List ℕ → Bool
is_hexadecimal [] = false
is_hexadecimal (a ∷ []) = false
is_hexadecimal (a ∷ b ∷ []) = false
is_hexadecimal (a ∷ b ∷ c ∷ bs) = (a == 35) && (b == 120) && list_all is_hexadecimal_digit (c ∷ bs)

-- A binary: #b, and one 0 or 1 or more.
abbrev pub is_binary : List ℕ → Bool
is_binary [] = false
is_binary (a ∷ []) = false
is_binary (a ∷ b ∷ []) = false
is_binary (a ∷ b ∷ c ∷ bs) = (a == 35) && (b == 98) && list_all (λ d. (d == 48) || (d == 49)) (c ∷ bs)

-- the token that a word is, if it is one
abbrev pub word_token : List ℕ → Option Token
word_token bs =
    if is_simple_symbol bs then Some (symbol bs)
    else (if is_numeral bs then Some (numeral bs)
    else (if is_decimal bs then Some (decimal bs)
    else (if is_keyword bs then Some (keyword bs)
    else (if is_hexadecimal bs then Some (hexadecimal bs)
    else (if is_binary bs then Some (binary bs)
    else None)))))
