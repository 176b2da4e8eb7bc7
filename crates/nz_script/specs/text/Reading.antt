-- A text read byte by byte: what is open after some bytes, and what has been told by then. No meaning rests on it: that
-- these are the things that `Hears` tells is a theorem.
use Rattle.std.specs.Prelude.{ℕ, ◌+◌, ◌-◌, ◌||◌, nat_lt, max, Bool, false, List, [], ◌∷◌, ◌++◌, length, Some, None, if◌then◌else◌}
use Rattle.nz_script.specs.text.Tree.{Tree, leaf, node, Trees, no_trees, trees}
use Rattle.nz_script.specs.text.Text.{ByteClass, blank_byte, left_byte, right_byte, comment_byte, quote_byte, bar_byte, word_byte, class_of, is_line_end, is_quote, is_bar, Filler, word, string, quoted, token_of, is_bad_filler, Limits, What, intact, faulty, unclosed, Heard}
use Rattle.nz_spec.specs.outside.Error.{bad_syntax, past_limit}

-- a list of trees, as a tree holds it
abbrev pub trees_from : List Tree → Trees
trees_from [] = no_trees
trees_from (t ∷ ts) = trees t (trees_from ts)

-- what is being read that may have more bytes than one
pub data Part : Type 0 where
  no_part : Part
  in_comment : Part
  in_word : List ℕ → Part
  in_string : List ℕ → Part  -- a string literal, by its text so far
  after_quote : List ℕ → Part  -- one whose last byte is a quote: its end, or the first of two
  in_quoted : List ℕ → Part  -- a quoted symbol, by its name so far

-- What is open: the lists, the innermost first, each with the trees that stand in it so far, and the part so far.
-- Where no list and no part is open, the other fields say nothing.
pub record Reading : Type 0 where
  pub at : ℕ  -- how many bytes were read
  pub from : ℕ  -- where the thing begins that is open
  pub part : Part
  pub levels : List (List Tree)
  pub bad : Bool  -- some token of the command is bad
  pub deepest : ℕ  -- how deep the command's lists nest so far

abbrev pub reading_start : Reading
reading_start = record { at = 0; from = 0; part = no_part; levels = []; bad = false; deepest = 0 }

-- the innermost list with more trees
abbrev pub with_trees : List Tree → List (List Tree) → List (List Tree)
with_trees ts [] = []
with_trees ts (l ∷ ls) = (l ++ ts) ∷ ls

-- the tree of the token that a filler is, if it is one
abbrev pub trees_of_filler : Filler → List Tree
trees_of_filler f = elim (token_of f) [ Some t ↦ leaf t ∷ [] | None ↦ [] ]

-- the innermost list is closed, within another or as the whole
abbrev pub with_closed : List (List Tree) → List (List Tree)
with_closed [] = []
with_closed (l ∷ ls) = with_trees (node (trees_from l) ∷ []) ls

-- one place where a refused thing stands
abbrev pub heard_faulty : ℕ → ℕ → Heard
heard_faulty from to = record { from = from; to = to; what = faulty bad_syntax }

-- ---- A token ends

-- in a command it joins the innermost list, or is bad
abbrev pub taken_by : Filler → List (List Tree) → Reading → Reading
taken_by f [] s = record s { part = no_part }
taken_by f (l ∷ ls) s = record s { part = no_part; levels = with_trees (trees_of_filler f) (l ∷ ls); bad = s.bad || is_bad_filler f }

abbrev pub taken : Filler → Reading → Reading
taken f s = taken_by f s.levels s

-- outside any command it is told
abbrev pub told_token_by : List (List Tree) → Reading → List Heard
told_token_by [] s = heard_faulty s.from s.at ∷ []
told_token_by (l ∷ ls) s = []

abbrev pub told_token : Reading → List Heard
told_token s = told_token_by s.levels s

-- ---- One byte where no part is open

abbrev pub passed : Reading → Reading
passed s = record s { at = s.at + 1 }

abbrev pub begins_at : List (List Tree) → Reading → ℕ
begins_at [] s = s.at
begins_at (l ∷ ls) s = s.from

-- a part begins with this byte
abbrev pub begun : Part → Reading → Reading
begun p s = record s { at = s.at + 1; from = begins_at s.levels s; part = p }

abbrev pub opened_by : List (List Tree) → Reading → Reading
opened_by [] s = record s { at = s.at + 1; from = s.at; levels = [] ∷ []; bad = false; deepest = 1 }
opened_by (l ∷ ls) s = record s { at = s.at + 1; levels = [] ∷ l ∷ ls; deepest = max s.deepest (length ls + 2) }

abbrev pub opened : Reading → Reading
opened s = opened_by s.levels s

abbrev pub closed : Reading → Reading
closed s = record s { at = s.at + 1; levels = with_closed s.levels }

-- what the command is that has ended here
abbrev pub what_of : Limits → List Tree → Reading → What
what_of limits l s =
    if s.bad then faulty bad_syntax
    else (if nat_lt limits.depth s.deepest || nat_lt limits.bytes (s.at - s.from) then faulty past_limit
    else intact (node (trees_from l)))

abbrev pub told_closed_by : Limits → List (List Tree) → Reading → List Heard
told_closed_by limits [] s = heard_faulty s.at (s.at + 1) ∷ []
told_closed_by limits (l ∷ []) s = record { from = s.from; to = s.at + 1; what = what_of limits l (passed s) } ∷ []
told_closed_by limits (l ∷ m ∷ ls) s = []

abbrev pub told_closed : Limits → Reading → List Heard
told_closed limits s = told_closed_by limits s.levels s

abbrev pub next_outside : ByteClass → ℕ → Reading → Reading
next_outside blank_byte b s = passed s
next_outside left_byte b s = opened s
next_outside right_byte b s = closed s
next_outside comment_byte b s = begun in_comment s
next_outside quote_byte b s = begun (in_string []) s
next_outside bar_byte b s = begun (in_quoted []) s
next_outside word_byte b s = begun (in_word (b ∷ [])) s

abbrev pub told_outside : ByteClass → Limits → Reading → List Heard
told_outside right_byte limits s = told_closed limits s
told_outside blank_byte limits s = []
told_outside left_byte limits s = []
told_outside comment_byte limits s = []
told_outside quote_byte limits s = []
told_outside bar_byte limits s = []
told_outside word_byte limits s = []

-- ---- One byte

-- the part goes on
abbrev pub goes_on : Part → Reading → Reading
goes_on p s = record s { at = s.at + 1; part = p }

-- a byte after a word: of the word, or of what follows it
abbrev pub next_in_word : ByteClass → List ℕ → ℕ → Reading → Reading
next_in_word word_byte w b s = goes_on (in_word (w ++ b ∷ [])) s
next_in_word blank_byte w b s = next_outside blank_byte b (taken (word w) s)
next_in_word left_byte w b s = next_outside left_byte b (taken (word w) s)
next_in_word right_byte w b s = next_outside right_byte b (taken (word w) s)
next_in_word comment_byte w b s = next_outside comment_byte b (taken (word w) s)
next_in_word quote_byte w b s = next_outside quote_byte b (taken (word w) s)
next_in_word bar_byte w b s = next_outside bar_byte b (taken (word w) s)

abbrev pub told_in_word : ByteClass → Limits → List ℕ → Reading → List Heard
told_in_word word_byte limits w s = []
told_in_word blank_byte limits w s = told_token s
told_in_word left_byte limits w s = told_token s
told_in_word right_byte limits w s = told_token s ++ told_closed limits (taken (word w) s)
told_in_word comment_byte limits w s = told_token s
told_in_word quote_byte limits w s = told_token s
told_in_word bar_byte limits w s = told_token s

abbrev pub next_in : Part → ℕ → Reading → Reading
next_in no_part b s = next_outside (class_of b) b s
next_in in_comment b s = goes_on (if is_line_end b then no_part else in_comment) s
next_in (in_word w) b s = next_in_word (class_of b) w b s
next_in (in_string w) b s = goes_on (if is_quote b then after_quote w else in_string (w ++ b ∷ [])) s
next_in (after_quote w) b s = if is_quote b then goes_on (in_string (w ++ b ∷ [])) s else next_outside (class_of b) b (taken (string w) s)
next_in (in_quoted w) b s = if is_bar b then taken (quoted w) (passed s) else goes_on (in_quoted (w ++ b ∷ [])) s

abbrev pub told_in : Part → Limits → ℕ → Reading → List Heard
told_in no_part limits b s = told_outside (class_of b) limits s
told_in in_comment limits b s = []
told_in (in_word w) limits b s = told_in_word (class_of b) limits w s
told_in (in_string w) limits b s = []
told_in (after_quote w) limits b s = if is_quote b then [] else told_token s ++ told_outside (class_of b) limits (taken (string w) s)
told_in (in_quoted w) limits b s = if is_bar b then told_token (passed s) else []

-- what is open after one more byte
abbrev pub next : ℕ → Reading → Reading
next b s = next_in s.part b s

-- what is told at one more byte
abbrev pub told_at : Limits → ℕ → Reading → List Heard
told_at limits b s = told_in s.part limits b s

-- ---- All bytes

abbrev pub read_on : Reading → List ℕ → Reading
read_on s [] = s
read_on s (b ∷ bs) = read_on (next b s) bs

abbrev pub told_on : Limits → Reading → List ℕ → List Heard
told_on limits s [] = []
told_on limits s (b ∷ bs) = told_at limits b s ++ told_on limits (next b s) bs

-- what the end of the text makes of what is open
abbrev pub told_part : Part → Reading → List Heard
told_part no_part s = []
told_part in_comment s = []
told_part (in_word w) s = heard_faulty s.from s.at ∷ []
told_part (in_string w) s = record { from = s.from; to = s.at; what = unclosed } ∷ []
told_part (after_quote w) s = heard_faulty s.from s.at ∷ []
told_part (in_quoted w) s = record { from = s.from; to = s.at; what = unclosed } ∷ []

abbrev pub told_open_by : List (List Tree) → Reading → List Heard
told_open_by [] s = told_part s.part s
told_open_by (l ∷ ls) s = record { from = s.from; to = s.at; what = unclosed } ∷ []

abbrev pub told_open : Reading → List Heard
told_open s = told_open_by s.levels s

-- all that is heard from here on
abbrev pub hear_on : Limits → Reading → List ℕ → List Heard
hear_on limits s [] = told_open s
hear_on limits s (b ∷ bs) = told_at limits b s ++ hear_on limits (next b s) bs
