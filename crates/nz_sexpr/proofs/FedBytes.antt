-- A reader that is fed bytes: what was read and told goes on with them.
use Rattle.std.proofs.Common.{◌≡◌, ℕ, ◌+◌, ◌<◌, ◌^◌, List, [], ◌∷◌, ◌++◌, length, Option, Some, None, IsNone, is_some, true, false, if◌then◌else◌, take, drop, refl, sym, ◌∙◌, ap, subst, arith, append_assoc, append-nil, ◌≤◌, length-append, length-take, length-drop, ◌-◌, inl, inr}
use Rattle.std.proofs.lemmas.Bool.{cases_lt}
use Rattle.std.proofs.lemmas.List.{take_rest}
use Rattle.nz_lists.proofs.Fronts.{taken_more}
use Rattle.nz_script.specs.text.Tree.{Tree}
use Rattle.nz_script.specs.text.Text.{Limits, Heard, ByteClass, word_byte, blank_byte, left_byte, right_byte, comment_byte, quote_byte, bar_byte, class_of, is_quote, is_bar, Filler, word, string, quoted}
use Rattle.nz_script.specs.text.ToldAs.{AreToldAs}
use Rattle.nz_script.specs.text.Reading.{Part, no_part, in_comment, in_word, in_string, after_quote, in_quoted, Reading, reading_start, taken, taken_by, opened_by, passed, goes_on as part_goes_on, next, next_in, next_in_word, next_outside, told_at, read_on, told_on}
use Rattle.nz_sexpr.specs.Matches.{GoesOnBy, EndsWithin, told}
use Rattle.nz_sexpr.specs.Fits.{Fits}
use Rattle.nz_sexpr.specs.declared.reader.Reader.{Reader}
use Rattle.nz_sexpr.specs.declared.heard.Heard as code

pub read_on-append : (s : Reading) (xs ys : List ℕ) → read_on s (xs ++ ys) ≡ read_on (read_on s xs) ys
read_on-append s [] ys = refl
read_on-append s (x ∷ xs) ys = read_on-append (next x s) xs ys

pub told_on-append : (limits : Limits) (s : Reading) (xs ys : List ℕ) → told_on limits s (xs ++ ys) ≡ told_on limits s xs ++ told_on limits (read_on s xs) ys
told_on-append limits s [] ys = refl
told_on-append limits s (x ∷ xs) ys =
    ap (λ k. told_at limits x s ++ k) (told_on-append limits (next x s) xs ys)
    ∙ sym (append_assoc (told_at limits x s) (told_on limits (next x s) xs) (told_on limits (read_on (next x s) xs) ys))

-- ---- Bytes are counted

taken-at : (f : Filler) (ls : List (List Tree)) (s : Reading) → (taken_by f ls s).at ≡ s.at
taken-at f [] s = refl
taken-at f (l ∷ ls) s = refl

opened-at : (ls : List (List Tree)) (s : Reading) → (opened_by ls s).at ≡ s.at + 1
opened-at [] s = refl
opened-at (l ∷ ls) s = refl

outside-at : (c : ByteClass) (b : ℕ) (s : Reading) → (next_outside c b s).at ≡ s.at + 1
outside-at blank_byte b s = refl
outside-at left_byte b s = opened-at s.levels s
outside-at right_byte b s = refl
outside-at comment_byte b s = refl
outside-at quote_byte b s = refl
outside-at bar_byte b s = refl
outside-at word_byte b s = refl

after-at : (c : ByteClass) (b : ℕ) (f : Filler) (s : Reading) → (next_outside c b (taken f s)).at ≡ s.at + 1
after-at c b f s = outside-at c b (taken f s) ∙ ap (λ k. k + 1) (taken-at f s.levels s)

word-at : (c : ByteClass) (w : List ℕ) (b : ℕ) (s : Reading) → (next_in_word c w b s).at ≡ s.at + 1
word-at blank_byte w b s = after-at blank_byte b (word w) s
word-at left_byte w b s = after-at left_byte b (word w) s
word-at right_byte w b s = after-at right_byte b (word w) s
word-at comment_byte w b s = after-at comment_byte b (word w) s
word-at quote_byte w b s = after-at quote_byte b (word w) s
word-at bar_byte w b s = after-at bar_byte b (word w) s
word-at word_byte w b s = refl

next-at : (p : Part) (b : ℕ) (s : Reading) → (next_in p b s).at ≡ s.at + 1
next-at no_part b s = outside-at (class_of b) b s
next-at in_comment b s = refl
next-at (in_word w) b s = word-at (class_of b) w b s
next-at (in_string w) b s = refl
next-at (after_quote w) b s = elim (is_quote b) as (λ t. (if t then part_goes_on (in_string (w ++ b ∷ [])) s else next_outside (class_of b) b (taken (string w) s)).at ≡ s.at + 1) [ true ↦ refl | false ↦ after-at (class_of b) b (string w) s ]
next-at (in_quoted w) b s = elim (is_bar b) as (λ t. (if t then taken (quoted w) (passed s) else part_goes_on (in_quoted (w ++ b ∷ [])) s).at ≡ s.at + 1) [ true ↦ taken-at (quoted w) s.levels (passed s) | false ↦ refl ]

read_on-at : (s : Reading) (xs : List ℕ) → (read_on s xs).at ≡ s.at + length xs
read_on-at s [] = omega arith
read_on-at s (x ∷ xs) = omega (arith, read_on-at (next x s) xs, next-at s.part x s)

pub bytes_read : (xs : List ℕ) → (read_on reading_start xs).at ≡ length xs
bytes_read xs = read_on-at reading_start xs ∙ (omega arith)

-- ---- What was told

pub AreToldAs-append : (ts bs hs ks : List Heard) → AreToldAs ts hs → AreToldAs bs ks → AreToldAs (ts ++ bs) (hs ++ ks)
AreToldAs-append [] bs [] ks h k = k
AreToldAs-append [] bs (x ∷ hs) ks h k = absurd h
AreToldAs-append (t ∷ ts) bs [] ks h k = absurd h
AreToldAs-append (t ∷ ts) bs (x ∷ hs) ks h k = (h.0, AreToldAs-append ts bs hs ks h.1 k)

pub told_none : (o : Option code.Heard) → is_some o ≡ false → told o ≡ []
told_none None h = refl
told_none (Some x) h = cc

pub is_none_at : (o : Option code.Heard) → is_some o ≡ false → IsNone o
is_none_at None h = refl
is_none_at (Some x) h = cc

-- where nothing is owed, what was told is all
pub told_all : (things hs : List Heard) (o : Option code.Heard) → is_some o ≡ false → AreToldAs (things ++ told o) hs → AreToldAs things hs
told_all things hs o none h = subst (λ k. AreToldAs k hs) (ap (λ k. things ++ k) (told_none o none) ∙ append-nil things) h

-- things told of more bytes come after those told of the bytes before
pub told_more : (limits : Limits) (bytes more : List ℕ) (things new : List Heard) → AreToldAs (things ++ []) (told_on limits reading_start bytes) → AreToldAs new (told_on limits (read_on reading_start bytes) more) → AreToldAs (things ++ new) (told_on limits reading_start (bytes ++ more))
told_more limits bytes more things new h k =
    subst (AreToldAs (things ++ new)) (sym (told_on-append limits reading_start bytes more))
    (AreToldAs-append things new (told_on limits reading_start bytes) (told_on limits (read_on reading_start bytes) more) (subst (λ t. AreToldAs t (told_on limits reading_start bytes)) (append-nil things) h) k)

-- ---- Steps within a piece

-- a step from there
pub goes_on : (limits : Limits) (old new : Reader) (bytes piece : List ℕ) (things more : List Heard) (m n : ℕ) → m ≤ length piece → length bytes + length piece < 2 ^ 64 → Fits limits old (bytes ++ take m piece) things → ((bounds : Limits) (front : List ℕ) (before : List Heard) → Fits bounds old front before → length front + length (take (length piece - m) (drop m piece)) < 2 ^ 64 → Fits bounds new (front ++ take n (take (length piece - m) (drop m piece))) (before ++ more)) → Fits limits new (bytes ++ take (m + n) piece) (things ++ more)
goes_on limits old new bytes piece things more m n within few h step =
    let front : List ℕ = bytes ++ take m piece in
    let rest : take (length piece - m) (drop m piece) ≡ drop m piece = take_rest piece m in
    let few' : length front + length (take (length piece - m) (drop m piece)) < 2 ^ 64 = omega (arith, length-append bytes (take m piece), length-take m piece, length-drop m piece, ap length rest) in
    subst (λ k. Fits limits new k (things ++ more)) (ap (λ k. front ++ take n k) rest ∙ taken_more bytes piece m n) (step limits front things h few')

-- a count goes on twice
pub goes_on_by : (a m b n c : ℕ) → GoesOnBy a m b → GoesOnBy b n c → GoesOnBy a (m + n) c
goes_on_by a m b n c h k = (
  omega (arith, h.0, k.0),
  λ e. let p : b ≡ a + m = h.1 (omega arith) in let q : c ≡ b + n = k.1 (omega arith) in omega arith,
  λ e. elim (cases_lt (a + m) (2 ^ 64)) [
    | inl l ↦ let p : b ≡ a + m = h.1 l in k.2 (omega arith)
    | inr g ↦ let p : 2 ^ 64 - 1 ≤ b = h.2 g in omega (arith, k.0)
  ],
)

-- what ends from a place on ends from an earlier one on
pub ends_later : (o : Option code.Heard) (a b high : ℕ) → a ≤ b → EndsWithin b high o → EndsWithin a high o
ends_later None a b high h e = tt
ends_later (Some x) a b high h e = (omega (arith, e.0), e.1)
