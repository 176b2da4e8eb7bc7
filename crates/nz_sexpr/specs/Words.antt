-- How a word stands after some of its bytes, and what token it is then.
use Rattle.std.specs.Prelude.{ℕ, ◌==◌, ◌||◌, Bool, List, [], ◌∷◌, Option, Some, None, if◌then◌else◌}
use Rattle.nz_script.specs.text.Tree.{Token, symbol, keyword, numeral, decimal, hexadecimal, binary, literal, is_symbol_byte, is_digit, is_hexadecimal_digit}
use Rattle.nz_sexpr.specs.declared.words.WordKind.{WordKind}
use Rattle.nz_sexpr.specs.declared.words.WordKind.TheVariants as word
use Rattle.nz_sexpr.specs.declared.words.TokenKind.{TokenKind}
use Rattle.nz_sexpr.specs.declared.words.TokenKind.TheVariants as token

abbrev pub is_binary_digit : ℕ → Bool
is_binary_digit d = (d == 48) || (d == 49)

-- after one more byte
abbrev pub kind_after : WordKind → ℕ → WordKind
kind_after word.Empty b =
    if is_digit b then (if b == 48 then word.Zero else word.Digits)
    else (if is_symbol_byte b then word.Symbol
    else (if b == 58 then word.Colon
    else (if b == 35 then word.Hash
    else word.Bad)))
kind_after word.Symbol b = if is_symbol_byte b then word.Symbol else word.Bad
kind_after word.Zero b = if b == 46 then word.Point else word.Bad
kind_after word.Digits b = if b == 46 then word.Point else (if is_digit b then word.Digits else word.Bad)
kind_after word.Point b = if is_digit b then word.Decimal else word.Bad
kind_after word.Decimal b = if is_digit b then word.Decimal else word.Bad
kind_after word.Colon b = if is_symbol_byte b then word.Keyword else word.Bad
kind_after word.Keyword b = if is_symbol_byte b then word.Keyword else word.Bad
kind_after word.Hash b = if b == 120 then word.HexadecimalPrefix else (if b == 98 then word.BinaryPrefix else word.Bad)
kind_after word.HexadecimalPrefix b = if is_hexadecimal_digit b then word.Hexadecimal else word.Bad
kind_after word.Hexadecimal b = if is_hexadecimal_digit b then word.Hexadecimal else word.Bad
kind_after word.BinaryPrefix b = if is_binary_digit b then word.Binary else word.Bad
kind_after word.Binary b = if is_binary_digit b then word.Binary else word.Bad
kind_after word.Bad b = word.Bad

-- after more bytes
abbrev pub kinds_after : WordKind → List ℕ → WordKind
kinds_after k [] = k
kinds_after k (b ∷ bs) = kinds_after (kind_after k b) bs

-- how a word stands that has these bytes so far
abbrev pub kind_of_word : List ℕ → WordKind
kind_of_word w = kinds_after word.Empty w

-- what token a word is that stands so
abbrev pub token_kind : WordKind → Option TokenKind
token_kind word.Empty = None
token_kind word.Symbol = Some token.Symbol
token_kind word.Zero = Some token.Numeral
token_kind word.Digits = Some token.Numeral
token_kind word.Point = None
token_kind word.Decimal = Some token.Decimal
token_kind word.Colon = None
token_kind word.Keyword = Some token.Keyword
token_kind word.Hash = None
token_kind word.HexadecimalPrefix = None
token_kind word.Hexadecimal = Some token.Hexadecimal
token_kind word.BinaryPrefix = None
token_kind word.Binary = Some token.Binary
token_kind word.Bad = None

-- the token of this kind and text
abbrev pub token_by : TokenKind → List ℕ → Token
token_by token.Symbol bs = symbol bs
token_by token.Keyword bs = keyword bs
token_by token.Numeral bs = numeral bs
token_by token.Decimal bs = decimal bs
token_by token.Hexadecimal bs = hexadecimal bs
token_by token.Binary bs = binary bs
token_by token.Literal bs = literal bs
