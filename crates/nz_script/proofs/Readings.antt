-- A text read byte by byte tells what `heard_from` says of its pieces; with Pieces, each text has exactly one reading.
use Rattle.std.proofs.Common.{◌≡◌, ℕ, ◌+◌, ◌-◌, ◌≤◌, ◌||◌, suc, max, Bool, true, false, List, [], ◌∷◌, ◌++◌, length, Option, Some, None, refl, sym, ◌∙◌, ap, arith, append_assoc, add-zero, length-append, if◌then◌else◌}
use Rattle.std.proofs.lemmas.Bool.{eqb-true}
use Rattle.std.proofs.lemmas.List.{append-nil}
use Rattle.std.proofs.Math.Bool.{or-false, or_assoc}
use Rattle.nz_script.specs.text.Tree.{Token, Tree, leaf, node, Trees, no_trees, trees}
use Rattle.nz_script.specs.text.Text.{ByteClass, blank_byte, word_byte, class_of, is_line_end, is_quote, is_bar, AllOfClass, BeginsWord, HasNone, EndsOrBegins, Filler, gap, comment, word, string, quoted, Unfinished, open_string, open_quoted, Piece, closing, filler, unfinished, with_quotes_doubled, spelling_of, unfinished_spelling, text_of, StandsBefore, AreLongest, Group, single, nest, Groups, no_groups, groups, group_pieces, groups_pieces, Thing, loose, unmatched, command, Open, open_pieces, script_pieces, is_blank, token_of, tree_onto, group_trees, is_bad_filler, is_bad_group, are_bad_groups, group_depth, groups_depth, Limits, unclosed, Heard, thing_length, command_what, heard_thing, heard_open, heard_from, Hears, OneReading}
use Rattle.nz_script.specs.text.Reading.{trees_from, Part, no_part, in_comment, in_word, in_string, after_quote, in_quoted, Reading, reading_start, trees_of_filler, heard_faulty, what_of, taken_by, told_token_by, begins_at, goes_on, next_outside, told_outside, next_in_word, told_in_word, hear_on}
use Rattle.nz_script.proofs.ByteClasses.{line_end-blank}
use Rattle.nz_script.proofs.Pieces.{things_in, open_in, script-spelled, script-longest}

-- a reading by its parts
abbrev at_parts : ℕ → ℕ → Part → List (List Tree) → Bool → ℕ → Reading
at_parts a f p ls bad d = record { at = a; from = f; part = p; levels = ls; bad = bad; deepest = d }

-- where a part begins that begins here
abbrev begin_of : ℕ → ℕ → List (List Tree) → Bool → ℕ → ℕ
begin_of a f ls bad d = begins_at ls (at_parts a f no_part ls bad d)

-- the number of bytes read may be told in two ways
same_place : (limits : Limits) (f : ℕ) (p : Part) (ls : List (List Tree)) (bad : Bool) (d : ℕ) (rest : List ℕ) (a a' : ℕ) → a ≡ a' → hear_on limits (at_parts a f p ls bad d) rest ≡ hear_on limits (at_parts a' f p ls bad d) rest
same_place limits f p ls bad d rest a a' e = ap (λ k. hear_on limits (at_parts k f p ls bad d) rest) e

-- ---- Bytes of a part

-- a byte of a known class, where no part is open
hear-outside : (limits : Limits) (a f : ℕ) (ls : List (List Tree)) (bad : Bool) (d : ℕ) (c : ByteClass) (b : ℕ) (bs : List ℕ) → class_of b ≡ c → hear_on limits (at_parts a f no_part ls bad d) (b ∷ bs) ≡ told_outside c limits (at_parts a f no_part ls bad d) ++ hear_on limits (next_outside c b (at_parts a f no_part ls bad d)) bs
hear-outside limits a f ls bad d c b bs h = ap (λ k. told_outside k limits (at_parts a f no_part ls bad d) ++ hear_on limits (next_outside k b (at_parts a f no_part ls bad d)) bs) h

hear-comment : (limits : Limits) (w : List ℕ) (a f : ℕ) (ls : List (List Tree)) (bad : Bool) (d : ℕ) (rest : List ℕ) → HasNone is_line_end w → hear_on limits (at_parts a f in_comment ls bad d) (w ++ rest) ≡ hear_on limits (at_parts (a + length w) f in_comment ls bad d) rest
hear-comment limits [] a f ls bad d rest h = same_place limits f in_comment ls bad d rest _ _ (sym (add-zero a))
hear-comment limits (b ∷ w) a f ls bad d rest h =
    ap (λ (t : Bool). hear_on limits (goes_on (if t then no_part else in_comment) (at_parts a f in_comment ls bad d)) (w ++ rest)) h.0
    ∙ hear-comment limits w (a + 1) f ls bad d rest h.1
    ∙ same_place limits f in_comment ls bad d rest _ _ (omega arith)

-- a comment ends at its line's end, which is white space, or at the text's
comment-ends : (limits : Limits) (a f : ℕ) (ls : List (List Tree)) (bad : Bool) (d : ℕ) (rest : List ℕ) → EndsOrBegins is_line_end rest → hear_on limits (at_parts a f in_comment ls bad d) rest ≡ hear_on limits (at_parts a f no_part ls bad d) rest
comment-ends limits a f [] bad d [] h = refl
comment-ends limits a f (l ∷ ls) bad d [] h = refl
comment-ends limits a f ls bad d (b ∷ rest) h =
    ap (λ (t : Bool). hear_on limits (goes_on (if t then no_part else in_comment) (at_parts a f in_comment ls bad d)) rest) h
    ∙ sym (hear-outside limits a f ls bad d blank_byte b rest (line_end-blank b h))

hear-word : (limits : Limits) (w v : List ℕ) (a f : ℕ) (ls : List (List Tree)) (bad : Bool) (d : ℕ) (rest : List ℕ) → AllOfClass word_byte w → hear_on limits (at_parts a f (in_word v) ls bad d) (w ++ rest) ≡ hear_on limits (at_parts (a + length w) f (in_word (v ++ w)) ls bad d) rest
hear-word limits [] v a f ls bad d rest h = rw (add-zero, append-nil v) refl
hear-word limits (b ∷ w) v a f ls bad d rest h =
    ap (λ k. told_in_word k limits v (at_parts a f (in_word v) ls bad d) ++ hear_on limits (next_in_word k v b (at_parts a f (in_word v) ls bad d)) (w ++ rest)) h.0
    ∙ hear-word limits w (v ++ b ∷ []) (a + 1) f ls bad d rest h.1
    ∙ same_place limits f (in_word ((v ++ b ∷ []) ++ w)) ls bad d rest _ _ (omega arith)
    ∙ ap (λ k. hear_on limits (at_parts (a + suc (length w)) f (in_word k) ls bad d) rest) (append_assoc v (b ∷ []) w)

-- A token has ended, and rest follows it: outside any command it is told, inside it is a tree or makes the command bad.
abbrev hear_taken : Limits → Filler → ℕ → ℕ → List (List Tree) → Bool → ℕ → List ℕ → List Heard
hear_taken limits x a f ls bad d rest = told_token_by ls (at_parts a f no_part ls bad d) ++ hear_on limits (taken_by x ls (at_parts a f no_part ls bad d)) rest

word-ends_at : (limits : Limits) (w : List ℕ) (a f : ℕ) (ls : List (List Tree)) (bad : Bool) (d : ℕ) (k : ByteClass) (x : ℕ) (xs : List ℕ) → (k ≡ word_byte → ⊥) → told_in_word k limits w (at_parts a f (in_word w) ls bad d) ++ hear_on limits (next_in_word k w x (at_parts a f (in_word w) ls bad d)) xs ≡ told_token_by ls (at_parts a f no_part ls bad d) ++ (told_outside k limits (taken_by (word w) ls (at_parts a f no_part ls bad d)) ++ hear_on limits (next_outside k x (taken_by (word w) ls (at_parts a f no_part ls bad d))) xs)
word-ends_at limits w a f ls bad d word_byte x xs h = absurd (h refl)
word-ends_at limits w a f [] bad d k x xs h = refl
word-ends_at limits w a f (l ∷ ls) bad d k x xs h = refl

-- a word ends where no word's byte follows
word-ends : (limits : Limits) (w : List ℕ) (a f : ℕ) (ls : List (List Tree)) (bad : Bool) (d : ℕ) (rest : List ℕ) → (BeginsWord rest → ⊥) → hear_on limits (at_parts a f (in_word w) ls bad d) rest ≡ hear_taken limits (word w) a f ls bad d rest
word-ends limits w a f [] bad d [] h = refl
word-ends limits w a f (l ∷ ls) bad d [] h = refl
word-ends limits w a f [] bad d (x ∷ xs) h = word-ends_at limits w a f [] bad d (class_of x) x xs h
word-ends limits w a f (l ∷ ls) bad d (x ∷ xs) h = word-ends_at limits w a f (l ∷ ls) bad d (class_of x) x xs h

-- one byte of a string literal's text, by whether it is a quote
hear-text_byte : (limits : Limits) (b : ℕ) (v w : List ℕ) (a f : ℕ) (ls : List (List Tree)) (bad : Bool) (d : ℕ) (rest : List ℕ) (t : Bool) → is_quote b ≡ t → hear_on limits (at_parts a f (in_string v) ls bad d) ((if t then 34 ∷ 34 ∷ w else b ∷ w) ++ rest) ≡ hear_on limits (at_parts (a + length (if t then 34 ∷ 34 ∷ [] else b ∷ [])) f (in_string (v ++ b ∷ [])) ls bad d) (w ++ rest)
hear-text_byte limits b v w a f ls bad d rest true h =
    same_place limits f (in_string (v ++ 34 ∷ [])) ls bad d (w ++ rest) _ _ (omega arith)
    ∙ ap (λ k. hear_on limits (at_parts (a + 2) f (in_string (v ++ k ∷ [])) ls bad d) (w ++ rest)) (sym (eqb-true b 34 h))
hear-text_byte limits b v w a f ls bad d rest false h =
    ap (λ (t : Bool). hear_on limits (goes_on (if t then after_quote v else in_string (v ++ b ∷ [])) (at_parts a f (in_string v) ls bad d)) (w ++ rest)) h

text_byte-length : (b : ℕ) (w : List ℕ) (t : Bool) → length (if t then 34 ∷ 34 ∷ [] else b ∷ []) + length w ≡ length (if t then 34 ∷ 34 ∷ w else b ∷ w)
text_byte-length b w true = omega arith
text_byte-length b w false = omega arith

hear-string : (limits : Limits) (w v : List ℕ) (a f : ℕ) (ls : List (List Tree)) (bad : Bool) (d : ℕ) (rest : List ℕ) → hear_on limits (at_parts a f (in_string v) ls bad d) (with_quotes_doubled w ++ rest) ≡ hear_on limits (at_parts (a + length (with_quotes_doubled w)) f (in_string (v ++ w)) ls bad d) rest
hear-string limits [] v a f ls bad d rest = rw (add-zero, append-nil v) refl
hear-string limits (b ∷ w) v a f ls bad d rest =
    hear-text_byte limits b v (with_quotes_doubled w) a f ls bad d rest (is_quote b) refl
    ∙ hear-string limits w (v ++ b ∷ []) (a + length (if is_quote b then 34 ∷ 34 ∷ [] else b ∷ [])) f ls bad d rest
    ∙ same_place limits f (in_string ((v ++ b ∷ []) ++ w)) ls bad d rest _ _ (omega (arith, text_byte-length b (with_quotes_doubled w) (is_quote b)))
    ∙ ap (λ k. hear_on limits (at_parts (a + length (with_quotes_doubled (b ∷ w))) f (in_string k) ls bad d) rest) (append_assoc v (b ∷ []) w)

-- a string literal ends where no quote follows its last quote
string-ends : (limits : Limits) (w : List ℕ) (a f : ℕ) (ls : List (List Tree)) (bad : Bool) (d : ℕ) (rest : List ℕ) → StandsBefore (filler (string w)) rest → hear_on limits (at_parts a f (after_quote w) ls bad d) rest ≡ hear_taken limits (string w) a f ls bad d rest
string-ends limits w a f [] bad d [] h = refl
string-ends limits w a f (l ∷ ls) bad d [] h = refl
string-ends limits w a f [] bad d (x ∷ xs) h =
    let s : Reading = at_parts a f no_part [] bad d in
    ap (λ (t : Bool). (if t then [] else heard_faulty f a ∷ told_outside (class_of x) limits s) ++ hear_on limits (if t then goes_on (in_string (w ++ x ∷ [])) s else next_outside (class_of x) x s) xs) h
string-ends limits w a f (l ∷ ls) bad d (x ∷ xs) h =
    let s : Reading = taken_by (string w) (l ∷ ls) (at_parts a f no_part (l ∷ ls) bad d) in
    ap (λ (t : Bool). (if t then [] else told_outside (class_of x) limits s) ++ hear_on limits (if t then goes_on (in_string (w ++ x ∷ [])) (at_parts a f no_part (l ∷ ls) bad d) else next_outside (class_of x) x s) xs) h

-- one byte of a quoted symbol's name
hear-name_byte : (limits : Limits) (b : ℕ) (v w : List ℕ) (a f : ℕ) (ls : List (List Tree)) (bad : Bool) (d : ℕ) (rest : List ℕ) → is_bar b ≡ false → hear_on limits (at_parts a f (in_quoted v) ls bad d) (b ∷ w ++ rest) ≡ hear_on limits (at_parts (a + 1) f (in_quoted (v ++ b ∷ [])) ls bad d) (w ++ rest)
hear-name_byte limits b v w a f ls bad d rest h =
    ap (λ (t : Bool). (if t then told_token_by ls (at_parts (a + 1) f (in_quoted v) ls bad d) else []) ++ hear_on limits (if t then taken_by (quoted v) ls (at_parts (a + 1) f (in_quoted v) ls bad d) else goes_on (in_quoted (v ++ b ∷ [])) (at_parts a f (in_quoted v) ls bad d)) (w ++ rest)) h

hear-quoted : (limits : Limits) (w v : List ℕ) (a f : ℕ) (ls : List (List Tree)) (bad : Bool) (d : ℕ) (rest : List ℕ) → HasNone is_bar w → hear_on limits (at_parts a f (in_quoted v) ls bad d) (w ++ rest) ≡ hear_on limits (at_parts (a + length w) f (in_quoted (v ++ w)) ls bad d) rest
hear-quoted limits [] v a f ls bad d rest h = rw (add-zero, append-nil v) refl
hear-quoted limits (b ∷ w) v a f ls bad d rest h =
    hear-name_byte limits b v w a f ls bad d rest h.0
    ∙ hear-quoted limits w (v ++ b ∷ []) (a + 1) f ls bad d rest h.1
    ∙ same_place limits f (in_quoted ((v ++ b ∷ []) ++ w)) ls bad d rest _ _ (omega arith)
    ∙ ap (λ k. hear_on limits (at_parts (a + suc (length w)) f (in_quoted k) ls bad d) rest) (append_assoc v (b ∷ []) w)

-- a quoted symbol ends at its second bar
quoted-ends : (limits : Limits) (w : List ℕ) (a f : ℕ) (ls : List (List Tree)) (bad : Bool) (d : ℕ) (rest : List ℕ) → hear_on limits (at_parts a f (in_quoted w) ls bad d) (124 ∷ rest) ≡ hear_taken limits (quoted w) (a + 1) f ls bad d rest
quoted-ends limits w a f [] bad d rest = refl
quoted-ends limits w a f (l ∷ ls) bad d rest = refl

-- ---- A filler

comment-heard : (limits : Limits) (w rest : List ℕ) (a f : ℕ) (ls : List (List Tree)) (bad : Bool) (d : ℕ) → StandsBefore (filler (comment w)) rest → hear_on limits (at_parts a f no_part ls bad d) (59 ∷ w ++ rest) ≡ hear_on limits (at_parts (a + suc (length w)) (begin_of a f ls bad d) no_part ls bad d) rest
comment-heard limits w rest a f ls bad d h =
    hear-comment limits w (a + 1) (begin_of a f ls bad d) ls bad d rest h.0
    ∙ comment-ends limits (a + 1 + length w) (begin_of a f ls bad d) ls bad d rest h.1
    ∙ same_place limits (begin_of a f ls bad d) no_part ls bad d rest _ _ (omega arith)

-- what is heard from a token's first byte on
token-heard : (limits : Limits) (x : Filler) (rest : List ℕ) (a f : ℕ) (ls : List (List Tree)) (bad : Bool) (d : ℕ) → is_blank x ≡ false → StandsBefore (filler x) rest → hear_on limits (at_parts a f no_part ls bad d) (spelling_of x ++ rest) ≡ hear_taken limits x (a + length (spelling_of x)) (begin_of a f ls bad d) ls bad d rest
token-heard limits (gap b) rest a f ls bad d t h = cc
token-heard limits (comment w) rest a f ls bad d t h = cc
token-heard limits (word []) rest a f ls bad d t h = absurd h
token-heard limits (word (b ∷ w)) rest a f ls bad d t h =
    hear-outside limits a f ls bad d word_byte b (w ++ rest) h.0.0
    ∙ hear-word limits w (b ∷ []) (a + 1) (begin_of a f ls bad d) ls bad d rest h.0.1
    ∙ same_place limits (begin_of a f ls bad d) (in_word (b ∷ w)) ls bad d rest _ _ (omega arith)
    ∙ word-ends limits (b ∷ w) (a + suc (length w)) (begin_of a f ls bad d) ls bad d rest h.1
token-heard limits (string w) rest a f ls bad d t h =
    ap (λ k. hear_on limits (at_parts (a + 1) (begin_of a f ls bad d) (in_string []) ls bad d) k) (append_assoc (with_quotes_doubled w) (34 ∷ []) rest)
    ∙ hear-string limits w [] (a + 1) (begin_of a f ls bad d) ls bad d (34 ∷ rest)
    ∙ same_place limits (begin_of a f ls bad d) (after_quote w) ls bad d rest _ _ (omega (arith, length-append (with_quotes_doubled w) (34 ∷ [])))
    ∙ string-ends limits w (a + length (spelling_of (string w))) (begin_of a f ls bad d) ls bad d rest h
token-heard limits (quoted w) rest a f ls bad d t h =
    ap (λ k. hear_on limits (at_parts (a + 1) (begin_of a f ls bad d) (in_quoted []) ls bad d) k) (append_assoc w (124 ∷ []) rest)
    ∙ hear-quoted limits w [] (a + 1) (begin_of a f ls bad d) ls bad d (124 ∷ rest) h
    ∙ quoted-ends limits w (a + 1 + length w) (begin_of a f ls bad d) ls bad d rest
    ∙ ap (λ k. hear_taken limits (quoted w) k (begin_of a f ls bad d) ls bad d rest) (omega (arith, length-append w (124 ∷ [])))

-- where the thing begins that was heard last
abbrev from_after : Filler → ℕ → ℕ → ℕ
from_after (gap b) a f = f
from_after x a f = a

-- outside any command
loose-heard : (limits : Limits) (x : Filler) (rest : List ℕ) (a f : ℕ) (bad : Bool) (d : ℕ) → StandsBefore (filler x) rest → hear_on limits (at_parts a f no_part [] bad d) (spelling_of x ++ rest) ≡ heard_thing limits a (loose x) ++ hear_on limits (at_parts (a + length (spelling_of x)) (from_after x a f) no_part [] bad d) rest
loose-heard limits (gap b) rest a f bad d h = hear-outside limits a f [] bad d blank_byte b rest h
loose-heard limits (comment w) rest a f bad d h = comment-heard limits w rest a f [] bad d h
loose-heard limits (word w) rest a f bad d h = token-heard limits (word w) rest a f [] bad d refl h
loose-heard limits (string w) rest a f bad d h = token-heard limits (string w) rest a f [] bad d refl h
loose-heard limits (quoted w) rest a f bad d h = token-heard limits (quoted w) rest a f [] bad d refl h

-- ---- Groups

-- how many bytes groups have
abbrev mutual
  pub group_size : Group → ℕ
  group_size (single f) = length (spelling_of f)
  group_size (nest gs) = groups_size gs + 2

  pub groups_size : Groups → ℕ
  groups_size no_groups = 0
  groups_size (groups g gs) = group_size g + groups_size gs

mutual
  group-length : (g : Group) (rest : List Piece) → length (text_of (group_pieces g rest)) ≡ group_size g + length (text_of rest)
  group-length (single f) rest = length-append (spelling_of f) (text_of rest)
  group-length (nest gs) rest = omega (arith, groups-length gs (closing ∷ rest))

  groups-length : (gs : Groups) (rest : List Piece) → length (text_of (groups_pieces gs rest)) ≡ groups_size gs + length (text_of rest)
  groups-length no_groups rest = omega arith
  groups-length (groups g gs) rest = omega (arith, group-length g (groups_pieces gs rest), groups-length gs rest)

mutual
  group-longest : (g : Group) (rest : List Piece) → AreLongest (group_pieces g rest) → AreLongest rest
  group-longest (single f) rest h = h.1
  group-longest (nest gs) rest h = (groups-longest gs (closing ∷ rest) h.1).1

  groups-longest : (gs : Groups) (rest : List Piece) → AreLongest (groups_pieces gs rest) → AreLongest rest
  groups-longest no_groups rest h = h
  groups-longest (groups g gs) rest h = groups-longest gs rest (group-longest g (groups_pieces gs rest) h)

-- the trees of a list
abbrev listed : Trees → List Tree
listed no_trees = []
listed (trees t ts) = t ∷ listed ts

trees_from-listed : (ts : Trees) → trees_from (listed ts) ≡ ts
trees_from-listed no_trees = refl
trees_from-listed (trees t ts) = ap (trees t) (trees_from-listed ts)

listed-word : (o : Option Token) (rest : Trees) → listed (elim o [ Some t ↦ trees (leaf t) rest | None ↦ rest ]) ≡ elim o [ Some t ↦ leaf t ∷ [] | None ↦ [] ] ++ listed rest
listed-word (Some t) rest = refl
listed-word None rest = refl

-- the trees of one group
abbrev trees_at : Group → List Tree
trees_at (single x) = trees_of_filler x
trees_at (nest gs) = node (group_trees gs) ∷ []

listed-onto : (g : Group) (rest : Trees) → listed (tree_onto g rest) ≡ trees_at g ++ listed rest
listed-onto (single x) rest = listed-word (token_of x) rest
listed-onto (nest gs) rest = refl

-- states that agree in their parts
same_state : (limits : Limits) (f : ℕ) (ls : List (List Tree)) (rest : List ℕ) (a a' : ℕ) (l l' : List Tree) (bad bad' : Bool) (d d' : ℕ) → a ≡ a' → l ≡ l' → bad ≡ bad' → d ≡ d' → hear_on limits (at_parts a f no_part (l ∷ ls) bad d) rest ≡ hear_on limits (at_parts a' f no_part (l' ∷ ls) bad' d') rest
same_state limits f ls rest a a' l l' bad bad' d d' ea el eb ed =
    ap (λ k. hear_on limits (at_parts k f no_part (l ∷ ls) bad d) rest) ea
    ∙ ap (λ k. hear_on limits (at_parts a' f no_part (k ∷ ls) bad d) rest) el
    ∙ ap (λ k. hear_on limits (at_parts a' f no_part (l' ∷ ls) k d) rest) eb
    ∙ ap (λ k. hear_on limits (at_parts a' f no_part (l' ∷ ls) bad' k) rest) ed

-- in a command
inner-heard : (limits : Limits) (x : Filler) (rest : List ℕ) (a f : ℕ) (l : List Tree) (ls : List (List Tree)) (bad : Bool) (d : ℕ) → StandsBefore (filler x) rest → hear_on limits (at_parts a f no_part (l ∷ ls) bad d) (spelling_of x ++ rest) ≡ hear_on limits (at_parts (a + length (spelling_of x)) f no_part ((l ++ trees_of_filler x) ∷ ls) (bad || is_bad_filler x) d) rest
inner-heard limits (gap b) rest a f l ls bad d h =
    hear-outside limits a f (l ∷ ls) bad d blank_byte b rest h
    ∙ same_state limits f ls rest _ _ _ _ _ _ _ _ refl (sym (append-nil l)) (sym (or-false bad)) refl
inner-heard limits (comment w) rest a f l ls bad d h =
    comment-heard limits w rest a f (l ∷ ls) bad d h
    ∙ same_state limits f ls rest _ _ _ _ _ _ _ _ refl (sym (append-nil l)) (sym (or-false bad)) refl
inner-heard limits (word w) rest a f l ls bad d h = token-heard limits (word w) rest a f (l ∷ ls) bad d refl h
inner-heard limits (string w) rest a f l ls bad d h = token-heard limits (string w) rest a f (l ∷ ls) bad d refl h
inner-heard limits (quoted w) rest a f l ls bad d h = token-heard limits (quoted w) rest a f (l ∷ ls) bad d refl h

mutual
  group-heard : (limits : Limits) (g : Group) (rest : List Piece) (a f : ℕ) (l : List Tree) (ls : List (List Tree)) (bad : Bool) (d : ℕ) → AreLongest (group_pieces g rest) → length ls + 1 ≤ d → hear_on limits (at_parts a f no_part (l ∷ ls) bad d) (text_of (group_pieces g rest)) ≡ hear_on limits (at_parts (a + group_size g) f no_part ((l ++ trees_at g) ∷ ls) (bad || is_bad_group g) (max d (length ls + 1 + group_depth g))) (text_of rest)
  group-heard limits (single x) rest a f l ls bad d h n =
      inner-heard limits x (text_of rest) a f l ls bad d h.0
      ∙ same_state limits f ls (text_of rest) _ _ _ _ _ _ _ _ refl refl refl (omega arith)
  group-heard limits (nest gs) rest a f l ls bad d h n =
      groups-heard limits gs (closing ∷ rest) (a + 1) f [] (l ∷ ls) bad (max d (length ls + 2)) h.1 (omega arith)
      ∙ same_state limits f ls (text_of rest) _ _ _ _ _ _ _ _ (omega arith) (ap (λ k. l ++ node k ∷ []) (trees_from-listed (group_trees gs))) refl (omega arith)

  groups-heard : (limits : Limits) (gs : Groups) (rest : List Piece) (a f : ℕ) (l : List Tree) (ls : List (List Tree)) (bad : Bool) (d : ℕ) → AreLongest (groups_pieces gs rest) → length ls + 1 ≤ d → hear_on limits (at_parts a f no_part (l ∷ ls) bad d) (text_of (groups_pieces gs rest)) ≡ hear_on limits (at_parts (a + groups_size gs) f no_part ((l ++ listed (group_trees gs)) ∷ ls) (bad || are_bad_groups gs) (max d (length ls + 1 + groups_depth gs))) (text_of rest)
  groups-heard limits no_groups rest a f l ls bad d h n =
      same_state limits f ls (text_of rest) _ _ _ _ _ _ _ _ (omega arith) (sym (append-nil l)) (sym (or-false bad)) (omega arith)
  groups-heard limits (groups g gs) rest a f l ls bad d h n =
      group-heard limits g (groups_pieces gs rest) a f l ls bad d h n
      ∙ groups-heard limits gs rest (a + group_size g) f (l ++ trees_at g) ls (bad || is_bad_group g) (max d (length ls + 1 + group_depth g)) (group-longest g (groups_pieces gs rest) h) (omega arith)
      ∙ same_state limits f ls (text_of rest) _ _ _ _ _ _ _ _ (omega arith) (append_assoc l (trees_at g) (listed (group_trees gs)) ∙ ap (λ k. l ++ k) (sym (listed-onto g (group_trees gs)))) (or_assoc bad (is_bad_group g) (are_bad_groups gs)) (omega arith)

-- ---- The whole text

open_string-told : (limits : Limits) (w : List ℕ) (a f : ℕ) (ls : List (List Tree)) (bad : Bool) (d : ℕ) → hear_on limits (at_parts a f (in_string w) ls bad d) [] ≡ record { from = f; to = a; what = unclosed } ∷ []
open_string-told limits w a f [] bad d = refl
open_string-told limits w a f (l ∷ ls) bad d = refl

open_quoted-told : (limits : Limits) (w : List ℕ) (a f : ℕ) (ls : List (List Tree)) (bad : Bool) (d : ℕ) → hear_on limits (at_parts a f (in_quoted w) ls bad d) [] ≡ record { from = f; to = a; what = unclosed } ∷ []
open_quoted-told limits w a f [] bad d = refl
open_quoted-told limits w a f (l ∷ ls) bad d = refl

-- a string literal or a quoted symbol that never closes
unfinished-heard : (limits : Limits) (u : Unfinished) (a f : ℕ) (ls : List (List Tree)) (bad : Bool) (d : ℕ) → StandsBefore (unfinished u) [] → hear_on limits (at_parts a f no_part ls bad d) (unfinished_spelling u ++ []) ≡ record { from = begin_of a f ls bad d; to = a + length (unfinished_spelling u); what = unclosed } ∷ []
unfinished-heard limits (open_string w) a f ls bad d h =
    hear-string limits w [] (a + 1) (begin_of a f ls bad d) ls bad d []
    ∙ open_string-told limits w (a + 1 + length (with_quotes_doubled w)) (begin_of a f ls bad d) ls bad d
    ∙ ap (λ k. record { from = begin_of a f ls bad d; to = k; what = unclosed } ∷ []) (omega arith)
unfinished-heard limits (open_quoted w) a f ls bad d h =
    hear-quoted limits w [] (a + 1) (begin_of a f ls bad d) ls bad d [] h.0
    ∙ open_quoted-told limits w (a + 1 + length w) (begin_of a f ls bad d) ls bad d
    ∙ ap (λ k. record { from = begin_of a f ls bad d; to = k; what = unclosed } ∷ []) (omega arith)

-- lists that never close
unclosed-heard : (limits : Limits) (inner : List Groups) (last : Option Unfinished) (a f : ℕ) (l : List Tree) (ls : List (List Tree)) (bad : Bool) (d : ℕ) → AreLongest (open_pieces inner last) → length ls + 1 ≤ d → hear_on limits (at_parts a f no_part (l ∷ ls) bad d) (text_of (open_pieces inner last)) ≡ record { from = f; to = a + length (text_of (open_pieces inner last)); what = unclosed } ∷ []
unclosed-heard limits [] None a f l ls bad d h n = ap (λ k. record { from = f; to = k; what = unclosed } ∷ []) (sym (add-zero a))
unclosed-heard limits [] (Some u) a f l ls bad d h n =
    unfinished-heard limits u a f (l ∷ ls) bad d h.0
    ∙ ap (λ k. record { from = f; to = a + length k; what = unclosed } ∷ []) (sym (append-nil (unfinished_spelling u)))
unclosed-heard limits (gs ∷ inner) last a f l ls bad d h n =
    groups-heard limits gs (open_pieces inner last) (a + 1) f [] (l ∷ ls) bad (max d (length ls + 2)) h.1 (omega arith)
    ∙ unclosed-heard limits inner last (a + 1 + groups_size gs) f (listed (group_trees gs)) (l ∷ ls) (bad || are_bad_groups gs) _ (groups-longest gs (open_pieces inner last) h.1) (omega arith)
    ∙ ap (λ k. record { from = f; to = k; what = unclosed } ∷ []) (omega (arith, groups-length gs (open_pieces inner last)))

-- what is still open where no more things come
open-heard : (limits : Limits) (lists : List Groups) (last : Option Unfinished) (a f : ℕ) (bad : Bool) (d : ℕ) → AreLongest (open_pieces lists last) → hear_on limits (at_parts a f no_part [] bad d) (text_of (open_pieces lists last)) ≡ heard_open a lists last
open-heard limits [] None a f bad d h = refl
open-heard limits [] (Some u) a f bad d h = unfinished-heard limits u a f [] bad d h.0
open-heard limits (gs ∷ inner) last a f bad d h =
    groups-heard limits gs (open_pieces inner last) (a + 1) a [] [] false 1 h.1 (omega arith)
    ∙ unclosed-heard limits inner last (a + 1 + groups_size gs) a (listed (group_trees gs)) [] (are_bad_groups gs) _ (groups-longest gs (open_pieces inner last) h.1) (omega arith)
    ∙ ap (λ k. record { from = a; to = k; what = unclosed } ∷ []) (omega (arith, groups-length gs (open_pieces inner last)))

command-length : (gs : Groups) → thing_length (command gs) ≡ groups_size gs + 2
command-length gs = omega (arith, groups-length gs (closing ∷ []))

command-is : (limits : Limits) (gs : Groups) (a : ℕ) → what_of limits (listed (group_trees gs)) (at_parts (a + 1 + groups_size gs + 1) a no_part (listed (group_trees gs) ∷ []) (are_bad_groups gs) (max 1 (0 + 1 + groups_depth gs))) ≡ command_what limits gs
command-is limits gs a =
    let size : a + 1 + groups_size gs + 1 - a ≡ thing_length (command gs) = omega (arith, command-length gs) in
    let deep : max 1 (0 + 1 + groups_depth gs) ≡ suc (groups_depth gs) = omega arith in
    rw (size, deep, trees_from-listed (group_trees gs)) refl

script-heard : (limits : Limits) (things : List Thing) (o : Open) (a f : ℕ) (bad : Bool) (d : ℕ) → AreLongest (script_pieces things o) → hear_on limits (at_parts a f no_part [] bad d) (text_of (script_pieces things o)) ≡ heard_from limits a things o
script-heard limits [] o a f bad d h = open-heard limits o.lists o.last a f bad d h
script-heard limits (loose x ∷ ts) o a f bad d h =
    loose-heard limits x (text_of (script_pieces ts o)) a f bad d h.0
    ∙ ap (λ k. heard_thing limits a (loose x) ++ k) (script-heard limits ts o (a + length (spelling_of x)) (from_after x a f) bad d h.1)
    ∙ ap (λ k. heard_thing limits a (loose x) ++ heard_from limits (a + length k) ts o) (sym (append-nil (spelling_of x)))
script-heard limits (unmatched ∷ ts) o a f bad d h =
    ap (λ k. heard_faulty a (a + 1) ∷ k) (script-heard limits ts o (a + 1) f bad d h.1)
script-heard limits (command gs ∷ ts) o a f bad d h =
    let rest : List Piece = script_pieces ts o in
    groups-heard limits gs (closing ∷ rest) (a + 1) a [] [] false 1 h.1 (omega arith)
    ∙ ap (λ k. record { from = a; to = a + 1 + groups_size gs + 1; what = what_of limits (listed (group_trees gs)) (at_parts (a + 1 + groups_size gs + 1) a no_part (listed (group_trees gs) ∷ []) (are_bad_groups gs) (max 1 (0 + 1 + groups_depth gs))) } ∷ k)
    (script-heard limits ts o (a + 1 + groups_size gs + 1) a (are_bad_groups gs) (max 1 (0 + 1 + groups_depth gs)) (groups-longest gs (closing ∷ rest) h.1).1)
    ∙ (let size : a + 1 + groups_size gs + 1 ≡ a + thing_length (command gs) = omega (arith, command-length gs) in
    ap (λ k. record { from = a; to = a + 1 + groups_size gs + 1; what = k } ∷ heard_from limits (a + 1 + groups_size gs + 1) ts o) (command-is limits gs a)
    ∙ ap (λ k. record { from = a; to = k; what = command_what limits gs } ∷ heard_from limits k ts o) size)

-- ---- The theorem

-- what is heard in a text is what is told when it is read byte by byte
pub hears : (limits : Limits) (bytes : List ℕ) → Hears limits bytes (hear_on limits reading_start bytes)
hears limits bytes =
    record {
      things = things_in bytes;
      still_open = open_in bytes;
      spelled = script-spelled bytes;
      longest = script-longest bytes;
      told = ap (hear_on limits reading_start) (sym (script-spelled bytes)) ∙ script-heard limits (things_in bytes) (open_in bytes) 0 0 false 0 (script-longest bytes);
    }

pub hears_one : (limits : Limits) (bytes : List ℕ) (others : List Heard) → Hears limits bytes others → others ≡ hear_on limits reading_start bytes
hears_one limits bytes others h = h.told ∙ sym (script-heard limits h.things h.still_open 0 0 false 0 h.longest) ∙ ap (hear_on limits reading_start) h.spelled

pub one_reading : OneReading
one_reading limits bytes = (hear_on limits reading_start bytes, hears limits bytes, hears_one limits bytes)
