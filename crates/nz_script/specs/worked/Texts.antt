-- Worked examples of the lexicon: short texts, and what is heard in each.
use Rattle.std.specs.Prelude.{ℕ, ⊤, List, [], ◌∷◌, ◌++◌, codes}
use Rattle.nz_script.specs.text.Tree.{Token, symbol, keyword, numeral, decimal, hexadecimal, binary, literal, leaf, node, Trees, no_trees, trees}
use Rattle.nz_script.specs.text.Text.{Heard, What, intact, faulty, unclosed, Limits, Hears}
use Rattle.nz_spec.specs.outside.Error.{bad_syntax, past_limit}

-- a text, and what is heard in it
pub record Sample : Type 0 where
  pub text : List ℕ
  pub heard : List Heard

abbrev pub hears_as : List ℕ → List Heard → Sample
hears_as text heard = record { text = text; heard = heard }

abbrev pub heard_as : ℕ → ℕ → What → Heard
heard_as from to what = record { from = from; to = to; what = what }

abbrev pub leaves : List Token → Trees
leaves [] = no_trees
leaves (t ∷ ts) = trees (leaf t) (leaves ts)

-- a command that is a list of tokens
abbrev pub token_command : List Token → What
token_command ts = intact (node (leaves ts))

-- Comments end with their line, or with the text, and may hold anything else; they end a word.
abbrev pub comment_samples : List Sample
comment_samples =
    hears_as (codes "(a ; ) \"\n)") (heard_as 0 10 (token_command (symbol (codes "a") ∷ [])) ∷ [])
    ∷ hears_as (codes "(a;b\rc)") (heard_as 0 7 (token_command (symbol (codes "a") ∷ symbol (codes "c") ∷ [])) ∷ [])
    ∷ hears_as (codes "; (a") []
    ∷ hears_as (codes "(a ; )") (heard_as 0 6 unclosed ∷ [])
    ∷ []

-- Two quotes in a string literal stand for one; a byte that may not stand in it makes it bad, and doesn't end it.
abbrev pub string_samples : List Sample
string_samples =
    hears_as (codes "(\"a\"\"b\")") (heard_as 0 8 (token_command (literal (codes "a\"b") ∷ [])) ∷ [])
    ∷ hears_as (codes "(\"\"\"\" \"\")") (heard_as 0 9 (token_command (literal (codes "\"") ∷ literal [] ∷ [])) ∷ [])
    ∷ hears_as (codes "(\";|\\\n\"a)") (heard_as 0 9 (token_command (literal (codes ";|\\\n") ∷ symbol (codes "a") ∷ [])) ∷ [])
    ∷ hears_as (codes "\"a\"b") (heard_as 0 3 (faulty bad_syntax) ∷ heard_as 3 4 (faulty bad_syntax) ∷ [])
    ∷ hears_as (codes "(\"" ++ 7 ∷ codes ")\" a) (b)") (heard_as 0 8 (faulty bad_syntax) ∷ heard_as 9 12 (token_command (symbol (codes "b") ∷ [])) ∷ [])
    ∷ hears_as (codes "(a \"b)") (heard_as 0 6 unclosed ∷ [])
    ∷ hears_as (codes "(a) \"b\"\"") (heard_as 0 3 (token_command (symbol (codes "a") ∷ [])) ∷ heard_as 4 8 unclosed ∷ [])
    ∷ []

-- A quoted symbol is the symbol of the bytes between its bars.
abbrev pub quoted_samples : List Sample
quoted_samples =
    hears_as (codes "(|a b| |c|c ||)") (heard_as 0 15 (token_command (symbol (codes "a b") ∷ symbol (codes "c") ∷ symbol (codes "c") ∷ symbol [] ∷ [])) ∷ [])
    ∷ hears_as (codes "(|a\";)\nb||c|)") (heard_as 0 13 (token_command (symbol (codes "a\";)\nb") ∷ symbol (codes "c") ∷ [])) ∷ [])
    ∷ hears_as (codes "(|a\\b|)") (heard_as 0 7 (faulty bad_syntax) ∷ [])
    ∷ hears_as (codes "|a| |b") (heard_as 0 3 (faulty bad_syntax) ∷ heard_as 4 6 unclosed ∷ [])
    ∷ []

-- Each word is a token of one kind, or a bad one.
abbrev pub word_samples : List Sample
word_samples =
    hears_as (codes "(0 70 1.50 0.0)") (heard_as 0 15 (token_command (numeral (codes "0") ∷ numeral (codes "70") ∷ decimal (codes "1.50") ∷ decimal (codes "0.0") ∷ [])) ∷ [])
    ∷ hears_as (codes "(#xFf #b01)") (heard_as 0 11 (token_command (hexadecimal (codes "#xFf") ∷ binary (codes "#b01") ∷ [])) ∷ [])
    ∷ hears_as (codes "(:k :1 .5 -1)") (heard_as 0 13 (token_command (keyword (codes ":k") ∷ keyword (codes ":1") ∷ symbol (codes ".5") ∷ symbol (codes "-1") ∷ [])) ∷ [])
    ∷ hears_as (codes "(007)(1.)(00.5)(1.2.3)") (heard_as 0 5 (faulty bad_syntax) ∷ heard_as 5 9 (faulty bad_syntax) ∷ heard_as 9 15 (faulty bad_syntax) ∷ heard_as 15 22 (faulty bad_syntax) ∷ [])
    ∷ hears_as (codes "(#X1)(#x)(#b2)") (heard_as 0 5 (faulty bad_syntax) ∷ heard_as 5 9 (faulty bad_syntax) ∷ heard_as 9 14 (faulty bad_syntax) ∷ [])
    ∷ hears_as (codes "(:)(1a)(a[b])") (heard_as 0 3 (faulty bad_syntax) ∷ heard_as 3 7 (faulty bad_syntax) ∷ heard_as 7 13 (faulty bad_syntax) ∷ [])
    ∷ []

-- What is heard is a list outside any list, or what stands outside any; a list that never closes reaches to the end.
abbrev pub group_samples : List Sample
group_samples =
    hears_as (codes ") a(b())\t()") (heard_as 0 1 (faulty bad_syntax) ∷ heard_as 2 3 (faulty bad_syntax) ∷ heard_as 3 8 (intact (node (trees (leaf (symbol (codes "b"))) (trees (node no_trees) no_trees)))) ∷ heard_as 9 11 (token_command []) ∷ [])
    ∷ hears_as (codes "(a(1a)|b") (heard_as 0 8 unclosed ∷ [])
    ∷ []

-- two lists deep, eight bytes a command
abbrev pub narrow_limits : Limits
narrow_limits = record { depth = 2; bytes = 8 }

-- Under narrow limits: a bad token is told before a limit, and what never closes is told as that alone.
abbrev pub limit_samples : List Sample
limit_samples =
    hears_as (codes "(a (b))(()())") (heard_as 0 7 (intact (node (trees (leaf (symbol (codes "a"))) (trees (node (leaves (symbol (codes "b") ∷ []))) no_trees)))) ∷ heard_as 7 13 (intact (node (trees (node no_trees) (trees (node no_trees) no_trees)))) ∷ [])
    ∷ hears_as (codes "((()))(a ;bcd)\n)") (heard_as 0 6 (faulty past_limit) ∷ heard_as 6 16 (faulty past_limit) ∷ [])
    ∷ hears_as (codes "(abcdef) (abcdefg)") (heard_as 0 8 (token_command (symbol (codes "abcdef") ∷ [])) ∷ heard_as 9 18 (faulty past_limit) ∷ [])
    ∷ hears_as (codes "(((1a)))((()") (heard_as 0 8 (faulty bad_syntax) ∷ heard_as 8 12 unclosed ∷ [])
    ∷ []

-- In each of the texts just that is heard which stands with it.
abbrev pub AreHeard : Limits → List Sample → Type 0
AreHeard limits [] = ⊤
AreHeard limits (s ∷ ss) = Hears limits s.text s.heard × AreHeard limits ss
