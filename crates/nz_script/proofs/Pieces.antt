-- Each text is in pieces, each the longest, and pieces are in groups.
use Rattle.std.proofs.Common.{◌≡◌, ℕ, Bool, true, false, List, [], ◌∷◌, ◌++◌, Option, Some, None, refl, sym, ◌∙◌, ap, subst, append_assoc, if◌then◌else◌, ◌==◌}
use Rattle.std.proofs.lemmas.Bool.{eqb-true}
use Rattle.std.specs.Bool.{⊤}
use Rattle.nz_script.specs.text.Text.{ByteClass, blank_byte, left_byte, right_byte, comment_byte, quote_byte, bar_byte, word_byte, class_of, is_line_end, is_quote, is_bar, AllOfClass, BeginsWord, HasNone, gap, comment, word, string, quoted, Unfinished, open_string, open_quoted, Piece, opening, closing, filler, unfinished, with_quotes_doubled, text_of, StandsBefore, AreLongest, Group, single, nest, Groups, no_groups, groups, group_pieces, groups_pieces, Thing, loose, unmatched, command, thing_pieces, Open, open_pieces, script_pieces}
use Rattle.nz_script.proofs.ByteClasses.{byte-is, line_end-blank}

-- ---- A text in pieces

-- the piece that is being read, by its bytes so far
data Pending : Type 0 where
  no_piece : Pending
  pending_comment : List ℕ → Pending
  pending_word : List ℕ → Pending
  pending_string : List ℕ → Pending
  pending_quote : List ℕ → Pending  -- a string literal whose last byte is a quote: its end, or the first of two
  pending_quoted : List ℕ → Pending

abbrev pending_bytes : Pending → List ℕ
pending_bytes no_piece = []
pending_bytes (pending_comment w) = 59 ∷ w
pending_bytes (pending_word w) = w
pending_bytes (pending_string w) = 34 ∷ with_quotes_doubled w
pending_bytes (pending_quote w) = 34 ∷ with_quotes_doubled w ++ 34 ∷ []
pending_bytes (pending_quoted w) = 124 ∷ w

-- its bytes are of its kind
abbrev IsFit : Pending → Type 0
IsFit no_piece = ⊤
IsFit (pending_comment w) = HasNone is_line_end w
IsFit (pending_word []) = ⊥
IsFit (pending_word (b ∷ w)) = AllOfClass word_byte (b ∷ w)
IsFit (pending_string w) = ⊤
IsFit (pending_quote w) = ⊤
IsFit (pending_quoted w) = HasNone is_bar w

abbrev pieces_at_end : Pending → List Piece
pieces_at_end no_piece = []
pieces_at_end (pending_comment w) = filler (comment w) ∷ []
pieces_at_end (pending_word w) = filler (word w) ∷ []
pieces_at_end (pending_string w) = unfinished (open_string w) ∷ []
pieces_at_end (pending_quote w) = filler (string w) ∷ []
pieces_at_end (pending_quoted w) = unfinished (open_quoted w) ∷ []

-- what the bytes that follow are in pieces, by what is being read before them
abbrev Rest : Type 0
Rest = Pending → List Piece

abbrev step_outside : ByteClass → ℕ → Rest → List Piece
step_outside blank_byte b rest = filler (gap b) ∷ rest no_piece
step_outside left_byte b rest = opening ∷ rest no_piece
step_outside right_byte b rest = closing ∷ rest no_piece
step_outside comment_byte b rest = rest (pending_comment [])
step_outside quote_byte b rest = rest (pending_string [])
step_outside bar_byte b rest = rest (pending_quoted [])
step_outside word_byte b rest = rest (pending_word (b ∷ []))

abbrev step_comment : Bool → List ℕ → ℕ → Rest → List Piece
step_comment true w b rest = filler (comment w) ∷ filler (gap b) ∷ rest no_piece
step_comment false w b rest = rest (pending_comment (w ++ b ∷ []))

abbrev step_word : ByteClass → List ℕ → ℕ → Rest → List Piece
step_word word_byte w b rest = rest (pending_word (w ++ b ∷ []))
step_word c w b rest = filler (word w) ∷ step_outside c b rest

abbrev step_string : Bool → List ℕ → ℕ → Rest → List Piece
step_string true w b rest = rest (pending_quote w)
step_string false w b rest = rest (pending_string (w ++ b ∷ []))

abbrev step_quote : Bool → List ℕ → ℕ → Rest → List Piece
step_quote true w b rest = rest (pending_string (w ++ b ∷ []))
step_quote false w b rest = filler (string w) ∷ step_outside (class_of b) b rest

abbrev step_quoted : Bool → List ℕ → ℕ → Rest → List Piece
step_quoted true w b rest = filler (quoted w) ∷ rest no_piece
step_quoted false w b rest = rest (pending_quoted (w ++ b ∷ []))

abbrev step : Pending → ℕ → Rest → List Piece
step no_piece b rest = step_outside (class_of b) b rest
step (pending_comment w) b rest = step_comment (is_line_end b) w b rest
step (pending_word w) b rest = step_word (class_of b) w b rest
step (pending_string w) b rest = step_string (is_quote b) w b rest
step (pending_quote w) b rest = step_quote (is_quote b) w b rest
step (pending_quoted w) b rest = step_quoted (is_bar b) w b rest

abbrev pieces_on : List ℕ → Pending → List Piece
pieces_on [] p = pieces_at_end p
pieces_on (b ∷ bs) p = step p b (λ q. pieces_on bs q)

abbrev pieces_of : List ℕ → List Piece
pieces_of bs = pieces_on bs no_piece

-- ---- The pieces spell the text

abbrev Spells : Rest → List ℕ → Type 0
Spells rest bs = (q : Pending) → text_of (rest q) ≡ pending_bytes q ++ bs

doubled-cons : (b : ℕ) (v w : List ℕ) (t : Bool) → (if t then 34 ∷ 34 ∷ v ++ w else b ∷ v ++ w) ≡ (if t then 34 ∷ 34 ∷ v else b ∷ v) ++ w
doubled-cons b v w true = refl
doubled-cons b v w false = refl

doubled-append : (v w : List ℕ) → with_quotes_doubled (v ++ w) ≡ with_quotes_doubled v ++ with_quotes_doubled w
doubled-append [] w = refl
doubled-append (b ∷ v) w =
    ap (λ k. if b == 34 then 34 ∷ 34 ∷ k else b ∷ k) (doubled-append v w)
    ∙ doubled-cons b (with_quotes_doubled v) (with_quotes_doubled w) (b == 34)

-- one more byte of a string literal's text
doubled-then : (w : List ℕ) (b : ℕ) (t : Bool) (bs : List ℕ) → is_quote b ≡ t → with_quotes_doubled (w ++ b ∷ []) ++ bs ≡ with_quotes_doubled w ++ (if t then 34 ∷ 34 ∷ bs else b ∷ bs)
doubled-then w b t bs h =
    ap (λ k. k ++ bs) (doubled-append w (b ∷ []))
    ∙ append_assoc (with_quotes_doubled w) (with_quotes_doubled (b ∷ [])) bs
    ∙ ap (λ k. with_quotes_doubled w ++ k) (sym (doubled-cons b [] bs (is_quote b)))
    ∙ ap (λ (k : Bool). with_quotes_doubled w ++ (if k then 34 ∷ 34 ∷ bs else b ∷ bs)) h

outside-text : (c : ByteClass) (b : ℕ) (rest : Rest) (bs : List ℕ) → class_of b ≡ c → Spells rest bs → text_of (step_outside c b rest) ≡ b ∷ bs
outside-text blank_byte b rest bs e h = ap (λ k. b ∷ k) (h no_piece)
outside-text left_byte b rest bs e h = ap (λ k. 40 ∷ k) (h no_piece) ∙ ap (λ k. k ∷ bs) (sym (byte-is left_byte b e))
outside-text right_byte b rest bs e h = ap (λ k. 41 ∷ k) (h no_piece) ∙ ap (λ k. k ∷ bs) (sym (byte-is right_byte b e))
outside-text comment_byte b rest bs e h = h (pending_comment []) ∙ ap (λ k. k ∷ bs) (sym (byte-is comment_byte b e))
outside-text quote_byte b rest bs e h = h (pending_string []) ∙ ap (λ k. k ∷ bs) (sym (byte-is quote_byte b e))
outside-text bar_byte b rest bs e h = h (pending_quoted []) ∙ ap (λ k. k ∷ bs) (sym (byte-is bar_byte b e))
outside-text word_byte b rest bs e h = h (pending_word (b ∷ []))

comment-text : (t : Bool) (w : List ℕ) (b : ℕ) (rest : Rest) (bs : List ℕ) → Spells rest bs → text_of (step_comment t w b rest) ≡ 59 ∷ w ++ b ∷ bs
comment-text true w b rest bs h = ap (λ k. 59 ∷ w ++ b ∷ k) (h no_piece)
comment-text false w b rest bs h = h (pending_comment (w ++ b ∷ [])) ∙ ap (λ k. 59 ∷ k) (append_assoc w (b ∷ []) bs)

word-text : (c : ByteClass) (w : List ℕ) (b : ℕ) (rest : Rest) (bs : List ℕ) → class_of b ≡ c → Spells rest bs → text_of (step_word c w b rest) ≡ w ++ b ∷ bs
word-text word_byte w b rest bs e h = h (pending_word (w ++ b ∷ [])) ∙ append_assoc w (b ∷ []) bs
word-text c w b rest bs e h = ap (λ k. w ++ k) (outside-text c b rest bs e h)

string-text : (t : Bool) (w : List ℕ) (b : ℕ) (rest : Rest) (bs : List ℕ) → is_quote b ≡ t → Spells rest bs → text_of (step_string t w b rest) ≡ 34 ∷ with_quotes_doubled w ++ b ∷ bs
string-text true w b rest bs e h =
    h (pending_quote w)
    ∙ ap (λ k. 34 ∷ k) (append_assoc (with_quotes_doubled w) (34 ∷ []) bs)
    ∙ ap (λ k. 34 ∷ with_quotes_doubled w ++ k ∷ bs) (sym (eqb-true b 34 e))
string-text false w b rest bs e h = h (pending_string (w ++ b ∷ [])) ∙ ap (λ k. 34 ∷ k) (doubled-then w b false bs e)

quote-text : (t : Bool) (w : List ℕ) (b : ℕ) (rest : Rest) (bs : List ℕ) → is_quote b ≡ t → Spells rest bs → text_of (step_quote t w b rest) ≡ (34 ∷ with_quotes_doubled w ++ 34 ∷ []) ++ b ∷ bs
quote-text true w b rest bs e h =
    h (pending_string (w ++ b ∷ []))
    ∙ ap (λ k. 34 ∷ k) (doubled-then w b true bs e)
    ∙ ap (λ k. 34 ∷ with_quotes_doubled w ++ 34 ∷ k ∷ bs) (sym (eqb-true b 34 e))
    ∙ ap (λ k. 34 ∷ k) (sym (append_assoc (with_quotes_doubled w) (34 ∷ []) (b ∷ bs)))
quote-text false w b rest bs e h = ap (λ k. (34 ∷ with_quotes_doubled w ++ 34 ∷ []) ++ k) (outside-text (class_of b) b rest bs refl h)

quoted-text : (t : Bool) (w : List ℕ) (b : ℕ) (rest : Rest) (bs : List ℕ) → is_bar b ≡ t → Spells rest bs → text_of (step_quoted t w b rest) ≡ 124 ∷ w ++ b ∷ bs
quoted-text true w b rest bs e h =
    ap (λ k. (124 ∷ w ++ 124 ∷ []) ++ k) (h no_piece)
    ∙ ap (λ k. 124 ∷ k) (append_assoc w (124 ∷ []) bs)
    ∙ ap (λ k. 124 ∷ w ++ k ∷ bs) (sym (eqb-true b 124 e))
quoted-text false w b rest bs e h = h (pending_quoted (w ++ b ∷ [])) ∙ ap (λ k. 124 ∷ k) (append_assoc w (b ∷ []) bs)

step-text : (p : Pending) (b : ℕ) (rest : Rest) (bs : List ℕ) → Spells rest bs → text_of (step p b rest) ≡ pending_bytes p ++ b ∷ bs
step-text no_piece b rest bs h = outside-text (class_of b) b rest bs refl h
step-text (pending_comment w) b rest bs h = comment-text (is_line_end b) w b rest bs h
step-text (pending_word w) b rest bs h = word-text (class_of b) w b rest bs refl h
step-text (pending_string w) b rest bs h = string-text (is_quote b) w b rest bs refl h
step-text (pending_quote w) b rest bs h = quote-text (is_quote b) w b rest bs refl h
step-text (pending_quoted w) b rest bs h = quoted-text (is_bar b) w b rest bs refl h

text-at_end : (p : Pending) → text_of (pieces_at_end p) ≡ pending_bytes p ++ []
text-at_end no_piece = refl
text-at_end (pending_comment w) = refl
text-at_end (pending_word w) = refl
text-at_end (pending_string w) = refl
text-at_end (pending_quote w) = refl
text-at_end (pending_quoted w) = refl

pieces_on-text : (bs : List ℕ) (p : Pending) → text_of (pieces_on bs p) ≡ pending_bytes p ++ bs
pieces_on-text [] p = text-at_end p
pieces_on-text (b ∷ bs) p = step-text p b (λ q. pieces_on bs q) bs (λ q. pieces_on-text bs q)

pieces-text : (bs : List ℕ) → text_of (pieces_of bs) ≡ bs
pieces-text bs = pieces_on-text bs no_piece

-- ---- Each piece is the longest

abbrev StaysLongest : Rest → Type 0
StaysLongest rest = (q : Pending) → IsFit q → AreLongest (rest q)

has_none-append : (test : ℕ → Bool) (w : List ℕ) (b : ℕ) → HasNone test w → test b ≡ false → HasNone test (w ++ b ∷ [])
has_none-append test [] b h e = (e, tt)
has_none-append test (c ∷ w) b h e = (h.0, has_none-append test w b h.1 e)

all_of_class-append : (w : List ℕ) (b : ℕ) → AllOfClass word_byte w → class_of b ≡ word_byte → AllOfClass word_byte (w ++ b ∷ [])
all_of_class-append [] b h e = (e, tt)
all_of_class-append (c ∷ w) b h e = (h.0, all_of_class-append w b h.1 e)

fit-append : (w : List ℕ) (b : ℕ) → IsFit (pending_word w) → class_of b ≡ word_byte → IsFit (pending_word (w ++ b ∷ []))
fit-append [] b h e = absurd h
fit-append (c ∷ w) b h e = all_of_class-append (c ∷ w) b h e

outside-longest : (c : ByteClass) (b : ℕ) (rest : Rest) → class_of b ≡ c → StaysLongest rest → AreLongest (step_outside c b rest)
outside-longest blank_byte b rest e l = (e, l no_piece tt)
outside-longest left_byte b rest e l = (tt, l no_piece tt)
outside-longest right_byte b rest e l = (tt, l no_piece tt)
outside-longest comment_byte b rest e l = l (pending_comment []) tt
outside-longest quote_byte b rest e l = l (pending_string []) tt
outside-longest bar_byte b rest e l = l (pending_quoted []) tt
outside-longest word_byte b rest e l = l (pending_word (b ∷ [])) (e, tt)

comment-longest : (t : Bool) (w : List ℕ) (b : ℕ) (rest : Rest) → is_line_end b ≡ t → HasNone is_line_end w → StaysLongest rest → AreLongest (step_comment t w b rest)
comment-longest true w b rest e f l = ((f, e), (line_end-blank b e, l no_piece tt))
comment-longest false w b rest e f l = l (pending_comment (w ++ b ∷ [])) (has_none-append is_line_end w b f e)

-- a word ends before a byte of another class
word-stands : (w : List ℕ) (b : ℕ) (bs text : List ℕ) → IsFit (pending_word w) → (class_of b ≡ word_byte → ⊥) → text ≡ b ∷ bs → StandsBefore (filler (word w)) text
word-stands [] b bs text f apart e = absurd f
word-stands (c ∷ w) b bs text f apart e = (f, λ k. apart (subst BeginsWord e k))

word-longest : (c : ByteClass) (w : List ℕ) (b : ℕ) (rest : Rest) (bs : List ℕ) → class_of b ≡ c → IsFit (pending_word w) → Spells rest bs → StaysLongest rest → AreLongest (step_word c w b rest)
word-longest word_byte w b rest bs e f h l = l (pending_word (w ++ b ∷ [])) (fit-append w b f e)
word-longest c w b rest bs e f h l = (word-stands w b bs (text_of (step_outside c b rest)) f (λ k. cc) (outside-text c b rest bs e h), outside-longest c b rest e l)

string-longest : (t : Bool) (w : List ℕ) (b : ℕ) (rest : Rest) → StaysLongest rest → AreLongest (step_string t w b rest)
string-longest true w b rest l = l (pending_quote w) tt
string-longest false w b rest l = l (pending_string (w ++ b ∷ [])) tt

quote-longest : (t : Bool) (w : List ℕ) (b : ℕ) (rest : Rest) (bs : List ℕ) → is_quote b ≡ t → Spells rest bs → StaysLongest rest → AreLongest (step_quote t w b rest)
quote-longest true w b rest bs e h l = l (pending_string (w ++ b ∷ [])) tt
quote-longest false w b rest bs e h l = (subst (StandsBefore (filler (string w))) (sym (outside-text (class_of b) b rest bs refl h)) e, outside-longest (class_of b) b rest refl l)

quoted-longest : (t : Bool) (w : List ℕ) (b : ℕ) (rest : Rest) → is_bar b ≡ t → HasNone is_bar w → StaysLongest rest → AreLongest (step_quoted t w b rest)
quoted-longest true w b rest e f l = (f, l no_piece tt)
quoted-longest false w b rest e f l = l (pending_quoted (w ++ b ∷ [])) (has_none-append is_bar w b f e)

step-longest : (p : Pending) (b : ℕ) (rest : Rest) (bs : List ℕ) → IsFit p → Spells rest bs → StaysLongest rest → AreLongest (step p b rest)
step-longest no_piece b rest bs f h l = outside-longest (class_of b) b rest refl l
step-longest (pending_comment w) b rest bs f h l = comment-longest (is_line_end b) w b rest refl f l
step-longest (pending_word w) b rest bs f h l = word-longest (class_of b) w b rest bs refl f h l
step-longest (pending_string w) b rest bs f h l = string-longest (is_quote b) w b rest l
step-longest (pending_quote w) b rest bs f h l = quote-longest (is_quote b) w b rest bs refl h l
step-longest (pending_quoted w) b rest bs f h l = quoted-longest (is_bar b) w b rest refl f l

longest-at_end : (p : Pending) → IsFit p → AreLongest (pieces_at_end p)
longest-at_end no_piece f = tt
longest-at_end (pending_comment w) f = ((f, tt), tt)
longest-at_end (pending_word []) f = absurd f
longest-at_end (pending_word (b ∷ w)) f = ((f, λ k. k), tt)
longest-at_end (pending_string w) f = (refl, tt)
longest-at_end (pending_quote w) f = (tt, tt)
longest-at_end (pending_quoted w) f = ((f, refl), tt)

pieces_on-longest : (bs : List ℕ) (p : Pending) → IsFit p → AreLongest (pieces_on bs p)
pieces_on-longest [] p f = longest-at_end p f
pieces_on-longest (b ∷ bs) p f = step-longest p b (λ q. pieces_on bs q) bs f (λ q. pieces_on-text bs q) (λ q. pieces_on-longest bs q)

pieces-longest : (bs : List ℕ) → AreLongest (pieces_of bs)
pieces-longest bs = pieces_on-longest bs no_piece tt

-- ---- Pieces are in groups

-- groups, others after a ) each, and what is still open
record Form : Type 0 where
  first : Groups
  closed_by : List Groups
  still_open : Open

abbrev with_list : Groups → Open → Open
with_list gs o = record o { lists = gs ∷ o.lists }

abbrev with_opening : List Groups → Form → Form
with_opening [] m = record { first = no_groups; closed_by = []; still_open = with_list m.first m.still_open }
with_opening (g ∷ gs) m = record { first = groups (nest m.first) g; closed_by = gs; still_open = m.still_open }

abbrev ends_with : Option Unfinished → Form
ends_with last = record { first = no_groups; closed_by = []; still_open = record { lists = []; last = last } }

abbrev form_of : List Piece → Form
form_of [] = ends_with None
form_of (opening ∷ ps) = with_opening (form_of ps).closed_by (form_of ps)
form_of (closing ∷ ps) = record { first = no_groups; closed_by = (form_of ps).first ∷ (form_of ps).closed_by; still_open = (form_of ps).still_open }
form_of (filler f ∷ ps) = record (form_of ps) { first = groups (single f) (form_of ps).first }
form_of (unfinished u ∷ ps) = ends_with (Some u)

abbrev closed_pieces : List Groups → List Piece → List Piece
closed_pieces [] rest = rest
closed_pieces (g ∷ gs) rest = closing ∷ groups_pieces g (closed_pieces gs rest)

abbrev form_pieces : Form → List Piece
form_pieces m = groups_pieces m.first (closed_pieces m.closed_by (open_pieces m.still_open.lists m.still_open.last))

with_opening-pieces : (c : List Groups) (m : Form) → m.closed_by ≡ c → form_pieces (with_opening c m) ≡ opening ∷ form_pieces m
with_opening-pieces [] m h = ap (λ k. opening ∷ groups_pieces m.first (closed_pieces k (open_pieces m.still_open.lists m.still_open.last))) (sym h)
with_opening-pieces (g ∷ gs) m h = ap (λ k. opening ∷ groups_pieces m.first (closed_pieces k (open_pieces m.still_open.lists m.still_open.last))) (sym h)

-- pieces that spell nothing are none
no_pieces : (ps : List Piece) → AreLongest ps → text_of ps ≡ [] → ps ≡ []
no_pieces [] l e = refl
no_pieces (opening ∷ ps) l e = cc
no_pieces (closing ∷ ps) l e = cc
no_pieces (filler (gap b) ∷ ps) l e = cc
no_pieces (filler (comment w) ∷ ps) l e = cc
no_pieces (filler (word []) ∷ ps) l e = absurd l.0
no_pieces (filler (word (b ∷ w)) ∷ ps) l e = cc
no_pieces (filler (string w) ∷ ps) l e = cc
no_pieces (filler (quoted w) ∷ ps) l e = cc
no_pieces (unfinished (open_string w) ∷ ps) l e = cc
no_pieces (unfinished (open_quoted w) ∷ ps) l e = cc

unfinished-last : (u : Unfinished) (text : List ℕ) → StandsBefore (unfinished u) text → text ≡ []
unfinished-last (open_string w) text h = h
unfinished-last (open_quoted w) text h = h.1

form-pieces : (ps : List Piece) → AreLongest ps → form_pieces (form_of ps) ≡ ps
form-pieces [] l = refl
form-pieces (opening ∷ ps) l = with_opening-pieces (form_of ps).closed_by (form_of ps) refl ∙ ap (λ k. opening ∷ k) (form-pieces ps l.1)
form-pieces (closing ∷ ps) l = ap (λ k. closing ∷ k) (form-pieces ps l.1)
form-pieces (filler f ∷ ps) l = ap (λ k. filler f ∷ k) (form-pieces ps l.1)
form-pieces (unfinished u ∷ ps) l = ap (λ k. unfinished u ∷ k) (sym (no_pieces ps l.1 (unfinished-last u (text_of ps) l.0)))

abbrev thing_of : Group → Thing
thing_of (single f) = loose f
thing_of (nest gs) = command gs

abbrev things_onto : Groups → List Thing → List Thing
things_onto no_groups ts = ts
things_onto (groups g gs) ts = thing_of g ∷ things_onto gs ts

abbrev closed_things : List Groups → List Thing
closed_things [] = []
closed_things (g ∷ gs) = unmatched ∷ things_onto g (closed_things gs)

thing-pieces : (g : Group) (rest : List Piece) → thing_pieces (thing_of g) rest ≡ group_pieces g rest
thing-pieces (single f) rest = refl
thing-pieces (nest gs) rest = refl

things-pieces : (gs : Groups) (ts : List Thing) (o : Open) → script_pieces (things_onto gs ts) o ≡ groups_pieces gs (script_pieces ts o)
things-pieces no_groups ts o = refl
things-pieces (groups g gs) ts o = thing-pieces g (script_pieces (things_onto gs ts) o) ∙ ap (λ k. group_pieces g k) (things-pieces gs ts o)

closed-pieces : (gs : List Groups) (o : Open) → script_pieces (closed_things gs) o ≡ closed_pieces gs (open_pieces o.lists o.last)
closed-pieces [] o = refl
closed-pieces (g ∷ gs) o = ap (λ k. closing ∷ k) (things-pieces g (closed_things gs) o ∙ ap (groups_pieces g) (closed-pieces gs o))

abbrev form_things : Form → List Thing
form_things m = things_onto m.first (closed_things m.closed_by)

form-script : (m : Form) → script_pieces (form_things m) m.still_open ≡ form_pieces m
form-script m = things-pieces m.first (closed_things m.closed_by) m.still_open ∙ ap (groups_pieces m.first) (closed-pieces m.closed_by m.still_open)

form-spells : (bs : List ℕ) → script_pieces (form_things (form_of (pieces_of bs))) (form_of (pieces_of bs)).still_open ≡ pieces_of bs
form-spells bs = form-script (form_of (pieces_of bs)) ∙ form-pieces (pieces_of bs) (pieces-longest bs)

-- ---- The things of a text, and what it leaves open

pub things_in : List ℕ → List Thing
things_in bs = form_things (form_of (pieces_of bs))

pub open_in : List ℕ → Open
open_in bs = (form_of (pieces_of bs)).still_open

pub script-spelled : (bs : List ℕ) → text_of (script_pieces (things_in bs) (open_in bs)) ≡ bs
unfolding things_in open_in
script-spelled bs = ap text_of (form-spells bs) ∙ pieces-text bs

pub script-longest : (bs : List ℕ) → AreLongest (script_pieces (things_in bs) (open_in bs))
unfolding things_in open_in
script-longest bs = subst AreLongest (sym (form-spells bs)) (pieces-longest bs)
