-- The text of a script: its bytes, the pieces that they spell, and the things that are heard
-- (SMT-LIB 2.6, section 3.1, lexicon, and section 3.9, scripts). No machine is in these definitions: bytes are
-- the spellings of pieces, and pieces are grouped by parentheses.
use Rattle.std.specs.Prelude.{◌≡◌, ℕ, ◌+◌, ◌^◌, ◌==◌, ◌||◌, ◌&&◌, not, nat_le, nat_lt, suc, max, Bool, true, false, List, [], ◌∷◌, ◌++◌, length, Option, Some, None, is_none, ⊤, if◌then◌else◌}
use Rattle.std.specs.List.{list_all}
use Rattle.nz_script.specs.text.Tree.{Token, symbol, literal, Tree, leaf, node, Trees, no_trees, trees, word_token}
use Rattle.nz_spec.specs.outside.Error.{Error, bad_syntax, past_limit}

-- ---- Bytes

-- what a byte is, where no word goes on and no comment, literal or quoted symbol is open
pub data ByteClass : Type 0 where
  blank_byte : ByteClass  -- tab, line feed, carriage return, space
  left_byte : ByteClass  -- (
  right_byte : ByteClass  -- )
  comment_byte : ByteClass  -- ;
  quote_byte : ByteClass  -- "
  bar_byte : ByteClass  -- |
  word_byte : ByteClass  -- any other

abbrev pub is_blank_byte : ℕ → Bool
is_blank_byte b = (b == 9) || (b == 10) || (b == 13) || (b == 32)

abbrev pub class_of : ℕ → ByteClass
class_of b =
    if is_blank_byte b then blank_byte
    else (if b == 40 then left_byte
    else (if b == 41 then right_byte
    else (if b == 59 then comment_byte
    else (if b == 34 then quote_byte
    else (if b == 124 then bar_byte
    else word_byte)))))

abbrev pub IsClass : ByteClass → ℕ → Type 0
IsClass c b = class_of b ≡ c

-- a byte by which a comment ends
abbrev pub is_line_end : ℕ → Bool
is_line_end b = (b == 10) || (b == 13)

-- a byte that may stand in a string literal: white space, one that prints, or one above ASCII
abbrev pub is_literal_byte : ℕ → Bool
is_literal_byte b = is_blank_byte b || (nat_le 32 b && not (b == 127))

-- a byte that may stand in a quoted symbol: the same, but no bar and no backslash
abbrev pub is_quoted_byte : ℕ → Bool
is_quoted_byte b = is_literal_byte b && not (b == 124) && not (b == 92)

-- ---- Pieces: what bytes spell

-- what may stand between parentheses, beside lists
pub data Filler : Type 0 where
  gap : ℕ → Filler  -- one byte of white space
  comment : List ℕ → Filler  -- what follows ; on its line
  word : List ℕ → Filler  -- a longest run of word bytes
  string : List ℕ → Filler  -- a string literal, by its text
  quoted : List ℕ → Filler  -- a quoted symbol, by its name

-- what the end of the text leaves open
pub data Unfinished : Type 0 where
  open_string : List ℕ → Unfinished
  open_quoted : List ℕ → Unfinished

pub data Piece : Type 0 where
  opening : Piece
  closing : Piece
  filler : Filler → Piece
  unfinished : Unfinished → Piece

-- in a string literal two quotes stand for one
abbrev pub with_quotes_doubled : List ℕ → List ℕ
with_quotes_doubled [] = []
with_quotes_doubled (b ∷ bs) = if b == 34 then 34 ∷ 34 ∷ with_quotes_doubled bs else b ∷ with_quotes_doubled bs

abbrev pub spelling_of : Filler → List ℕ
spelling_of (gap b) = b ∷ []
spelling_of (comment bs) = 59 ∷ bs
spelling_of (word bs) = bs
spelling_of (string bs) = 34 ∷ with_quotes_doubled bs ++ 34 ∷ []
spelling_of (quoted bs) = 124 ∷ bs ++ 124 ∷ []

abbrev pub unfinished_spelling : Unfinished → List ℕ
unfinished_spelling (open_string bs) = 34 ∷ with_quotes_doubled bs
unfinished_spelling (open_quoted bs) = 124 ∷ bs

abbrev pub spelling : Piece → List ℕ
spelling opening = 40 ∷ []
spelling closing = 41 ∷ []
spelling (filler f) = spelling_of f
spelling (unfinished u) = unfinished_spelling u

-- each byte of a list is of this class
abbrev pub AllOfClass : ByteClass → List ℕ → Type 0
AllOfClass c [] = ⊤
AllOfClass c (b ∷ bs) = IsClass c b × AllOfClass c bs

-- the list begins with a byte of a word
abbrev pub BeginsWord : List ℕ → Type 0
BeginsWord [] = ⊥
BeginsWord (b ∷ bs) = IsClass word_byte b

-- no byte of a list is one of these
abbrev pub HasNone : (ℕ → Bool) → List ℕ → Type 0
HasNone test [] = ⊤
HasNone test (b ∷ bs) = (test b ≡ false) × HasNone test bs

-- the list is empty, or begins with one of these bytes
abbrev pub EndsOrBegins : (ℕ → Bool) → List ℕ → Type 0
EndsOrBegins test [] = ⊤
EndsOrBegins test (b ∷ bs) = test b ≡ true

abbrev pub is_quote : ℕ → Bool
is_quote b = b == 34

abbrev pub is_bar : ℕ → Bool
is_bar b = b == 124

-- The piece may stand where these bytes come after it: its bytes are of its kind, it is as long as it can be, and nothing
-- follows what the text leaves open.
abbrev pub StandsBefore : Piece → List ℕ → Type 0
StandsBefore opening rest = ⊤
StandsBefore closing rest = ⊤
StandsBefore (filler (gap b)) rest = IsClass blank_byte b
StandsBefore (filler (comment bs)) rest = HasNone is_line_end bs × EndsOrBegins is_line_end rest
StandsBefore (filler (word [])) rest = ⊥
StandsBefore (filler (word (b ∷ bs))) rest = AllOfClass word_byte (b ∷ bs) × (BeginsWord rest → ⊥)
StandsBefore (filler (string bs)) [] = ⊤
StandsBefore (filler (string bs)) (b ∷ rest) = is_quote b ≡ false
StandsBefore (filler (quoted bs)) rest = HasNone is_bar bs
StandsBefore (unfinished (open_string bs)) rest = rest ≡ []
StandsBefore (unfinished (open_quoted bs)) rest = HasNone is_bar bs × (rest ≡ [])

-- the bytes of the pieces, one after another
abbrev pub text_of : List Piece → List ℕ
text_of [] = []
text_of (p ∷ ps) = spelling p ++ text_of ps

-- Each piece may stand where it stands.
abbrev pub AreLongest : List Piece → Type 0
AreLongest [] = ⊤
AreLongest (p ∷ ps) = StandsBefore p (text_of ps) × AreLongest ps

-- ---- Groups: how pieces stand between parentheses

mutual
  pub data Group : Type 0 where
    single : Filler → Group
    nest : Groups → Group

  pub data Groups : Type 0 where
    no_groups : Groups
    groups : Group → Groups → Groups

-- the pieces of a group, and then these
abbrev mutual
  pub group_pieces : Group → List Piece → List Piece
  group_pieces (single f) rest = filler f ∷ rest
  group_pieces (nest gs) rest = opening ∷ groups_pieces gs (closing ∷ rest)

  pub groups_pieces : Groups → List Piece → List Piece
  groups_pieces no_groups rest = rest
  groups_pieces (groups g gs) rest = group_pieces g (groups_pieces gs rest)

-- What stands outside any command, and a command: a list outside any list, from its ( to its ).
pub data Thing : Type 0 where
  loose : Filler → Thing
  unmatched : Thing  -- a ) outside any command
  command : Groups → Thing

abbrev pub thing_pieces : Thing → List Piece → List Piece
thing_pieces (loose f) rest = filler f ∷ rest
thing_pieces unmatched rest = closing ∷ rest
thing_pieces (command gs) rest = opening ∷ groups_pieces gs (closing ∷ rest)

-- What is still open at the end of the text: lists, the outermost first, each with what stands in it so far; and in the
-- innermost, or outside any, a string literal or a quoted symbol.
pub record Open : Type 0 where
  pub lists : List Groups
  pub last : Option Unfinished

abbrev pub last_pieces : Option Unfinished → List Piece
last_pieces None = []
last_pieces (Some u) = unfinished u ∷ []

abbrev pub open_pieces : List Groups → Option Unfinished → List Piece
open_pieces [] last = last_pieces last
open_pieces (gs ∷ inner) last = opening ∷ groups_pieces gs (open_pieces inner last)

-- a whole text: things, and then what is still open
abbrev pub script_pieces : List Thing → Open → List Piece
script_pieces [] o = open_pieces o.lists o.last
script_pieces (t ∷ ts) o = thing_pieces t (script_pieces ts o)

-- ---- What is heard

-- white space, or a comment
abbrev pub is_blank : Filler → Bool
is_blank (gap b) = true
is_blank (comment bs) = true
is_blank (word bs) = false
is_blank (string bs) = false
is_blank (quoted bs) = false

-- the token that a filler is, if it is one
abbrev pub token_of : Filler → Option Token
token_of (gap b) = None
token_of (comment bs) = None
token_of (word bs) = word_token bs
token_of (string bs) = if list_all is_literal_byte bs then Some (literal bs) else None
token_of (quoted bs) = if list_all is_quoted_byte bs then Some (symbol bs) else None

-- the trees of the groups, where each filler of theirs is blank or a token
abbrev mutual
  pub tree_onto : Group → Trees → Trees
  tree_onto (single f) rest = elim (token_of f) [ Some t ↦ trees (leaf t) rest | None ↦ rest ]
  tree_onto (nest gs) rest = trees (node (group_trees gs)) rest

  pub group_trees : Groups → Trees
  group_trees no_groups = no_trees
  group_trees (groups g gs) = tree_onto g (group_trees gs)

-- a filler that is no token, and not blank
abbrev pub is_bad_filler : Filler → Bool
is_bad_filler f = not (is_blank f) && is_none (token_of f)

-- some token in the groups is bad
abbrev mutual
  pub is_bad_group : Group → Bool
  is_bad_group (single f) = is_bad_filler f
  is_bad_group (nest gs) = are_bad_groups gs

  pub are_bad_groups : Groups → Bool
  are_bad_groups no_groups = false
  are_bad_groups (groups g gs) = is_bad_group g || are_bad_groups gs

-- how deep lists nest
abbrev mutual
  pub group_depth : Group → ℕ
  group_depth (single f) = 0
  group_depth (nest gs) = suc (groups_depth gs)

  pub groups_depth : Groups → ℕ
  groups_depth no_groups = 0
  groups_depth (groups g gs) = max (group_depth g) (groups_depth gs)

-- the greatest depth of a command, its own list counted, and the greatest number of its bytes from ( to )
pub record Limits : Type 0 where
  pub depth : ℕ
  pub bytes : ℕ

-- what a thing heard is
pub data What : Type 0 where
  intact : Tree → What  -- a command without fault
  faulty : Error → What  -- refused in reading: it has a bad token, or goes beyond a limit
  unclosed : What  -- an incomplete command at the end
  unread : What  -- a command for which there was no memory while it was read

-- from its first byte to one past its last
pub record Heard : Type 0 where
  pub from : ℕ
  pub to : ℕ
  pub what : What

abbrev pub thing_length : Thing → ℕ
thing_length t = length (text_of (thing_pieces t []))

-- What a command is: its tokens are looked at first, then its depth and its length.
abbrev pub command_what : Limits → Groups → What
command_what limits gs =
    if are_bad_groups gs then faulty bad_syntax
    else (if nat_lt limits.depth (suc (groups_depth gs)) || nat_lt limits.bytes (thing_length (command gs)) then faulty past_limit
    else intact (node (group_trees gs)))

-- A thing is heard as one thing, but white space and comments as none; at is the place of its first byte.
abbrev pub heard_thing : Limits → ℕ → Thing → List Heard
heard_thing limits at (loose f) = if is_blank f then [] else record { from = at; to = at + length (spelling_of f); what = faulty bad_syntax } ∷ []
heard_thing limits at unmatched = record { from = at; to = at + 1; what = faulty bad_syntax } ∷ []
heard_thing limits at (command gs) = record { from = at; to = at + thing_length (command gs); what = command_what limits gs } ∷ []

-- what is open is heard as one incomplete command
abbrev pub heard_open : ℕ → List Groups → Option Unfinished → List Heard
heard_open at [] None = []
heard_open at [] (Some u) = record { from = at; to = at + length (unfinished_spelling u); what = unclosed } ∷ []
heard_open at (gs ∷ inner) last = record { from = at; to = at + length (text_of (open_pieces (gs ∷ inner) last)); what = unclosed } ∷ []

abbrev pub heard_from : Limits → ℕ → List Thing → Open → List Heard
heard_from limits at [] o = heard_open at o.lists o.last
heard_from limits at (t ∷ ts) o = heard_thing limits at t ++ heard_from limits (at + thing_length t) ts o

-- The bytes are the spellings of pieces, each the longest, which are grouped so; and these are the things heard.
pub record Hears (limits : Limits) (bytes : List ℕ) (heard : List Heard) : Type 0 where
  pub things : List Thing
  pub still_open : Open
  pub spelled : text_of (script_pieces things still_open) ≡ bytes
  pub longest : AreLongest (script_pieces things still_open)
  pub told : heard ≡ heard_from limits 0 things still_open

-- Each text is heard in exactly one way.
abbrev pub OneReading : Type 0
OneReading = (limits : Limits) (bytes : List ℕ) → (heard : List Heard) × Hears limits bytes heard × ((others : List Heard) → Hears limits bytes others → others ≡ heard)

-- the limits of a script: 200 lists deep, 2^20 bytes a command
abbrev pub script_limits : Limits
script_limits = record { depth = 200; bytes = 2 ^ 20 }
