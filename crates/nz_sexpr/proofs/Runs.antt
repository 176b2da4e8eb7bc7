-- Runs of bytes that go on with what is being read.
use Rattle.std.proofs.Common.{◌≡◌, ℕ, ◌+◌, ◌<◌, suc, zero, Bool, true, false, if◌then◌else◌, List, [], ◌∷◌, ◌++◌, length, get_or, take, refl, sym, ◌∙◌, ap, arith, append_assoc, append-nil, add-zero, ne_eqb}
use Rattle.std.proofs.lemmas.List.Folds.{list_all-append}
use Rattle.nz_script.specs.text.Tree.{Tree}
use Rattle.nz_script.specs.text.Text.{Limits, ByteClass, blank_byte, left_byte, right_byte, comment_byte, quote_byte, bar_byte, word_byte, class_of, HasNone, is_line_end, is_quote, is_bar, is_literal_byte, is_quoted_byte, word, string, quoted}
use Rattle.nz_script.specs.text.Reading.{Part, no_part, in_comment, in_word, in_string, after_quote, in_quoted, Reading, begins_at, begun, goes_on, passed, taken, told_token, next_in, told_in, next_in_word, told_in_word, next_outside, told_outside, next, told_at, read_on, told_on}
use Rattle.nz_sexpr.specs.Bytes.{is_no_word, ends_word}
use Rattle.nz_sexpr.specs.Words.{kind_after, kinds_after}
use Rattle.nz_sexpr.specs.Part.{part_of, text_of_part, ends, part_after, begins_here, text_after}
use Rattle.nz_sexpr.specs.declared.words.WordKind.{WordKind}
use Rattle.nz_sexpr.specs.declared.words.WordKind.TheVariants as kind
use Rattle.nz_sexpr.specs.declared.part.Part.TheVariants as part

-- one more byte of which the test doesn't hold
pub none_more : (test : ℕ → Bool) (bs : List ℕ) (i : ℕ) → i < length bs → HasNone test (take i bs) → test (get_or bs i 0) ≡ false → HasNone test (take (suc i) bs)
none_more test [] i n h k = tt
none_more test (b ∷ bs) zero n h k = (k, tt)
none_more test (b ∷ bs) (suc i) n h k = (h.0, none_more test bs i (omega arith) h.1 k)

-- ---- One byte of a run

is_word_class : (c : ByteClass) → is_no_word c ≡ false → c ≡ word_byte
is_word_class blank_byte h = cc
is_word_class left_byte h = cc
is_word_class right_byte h = cc
is_word_class comment_byte h = cc
is_word_class quote_byte h = cc
is_word_class bar_byte h = cc
is_word_class word_byte h = refl

-- what one byte of a part's own does, and that it tells nothing
record GoesOn (test : ℕ → Bool) (form : List ℕ → Part) : Type 0 where
  next : (w : List ℕ) (b : ℕ) (s : Reading) → test b ≡ false → next_in (form w) b s ≡ goes_on (form (w ++ b ∷ [])) s
  told : (w : List ℕ) (b : ℕ) (limits : Limits) (s : Reading) → test b ≡ false → told_in (form w) limits b s ≡ []

comment_goes_on : GoesOn is_line_end (λ w. in_comment)
comment_goes_on = record {
  next = λ w b s h. ap (λ k. goes_on (if k then no_part else in_comment) s) h;
  told = λ w b limits s h. refl;
}

word_goes_on : GoesOn ends_word in_word
word_goes_on = record {
  next = λ w b s h. ap (λ k. next_in_word k w b s) (is_word_class (class_of b) h);
  told = λ w b limits s h. ap (λ k. told_in_word k limits w s) (is_word_class (class_of b) h);
}

string_goes_on : GoesOn is_quote in_string
string_goes_on = record {
  next = λ w b s h. ap (λ k. goes_on (if k then after_quote w else in_string (w ++ b ∷ [])) s) h;
  told = λ w b limits s h. refl;
}

quoted_goes_on : GoesOn is_bar in_quoted
quoted_goes_on = record {
  next = λ w b s h. ap (λ k. if k then taken (quoted w) (record s { at = s.at + 1 }) else goes_on (in_quoted (w ++ b ∷ [])) s) h;
  told = λ w b limits s h. ap (λ k. if k then told_token (record s { at = s.at + 1 }) else []) h;
}

-- ---- A run

form_run : (test : ℕ → Bool) (form : List ℕ → Part) → GoesOn test form → (run w : List ℕ) (s : Reading) → s.part ≡ form w → HasNone test run → read_on s run ≡ record s { at = s.at + length run; part = form (w ++ run) }
form_run test form g [] w s p h = rw (add-zero, append-nil) (ap (λ k. record s { part = k }) p)
form_run test form g (b ∷ run) w s p h =
    let e : next b s ≡ goes_on (form (w ++ b ∷ [])) s = ap (λ k. next_in k b s) p ∙ g.next w b s h.0 in
    let i = form_run test form g run (w ++ b ∷ []) (goes_on (form (w ++ b ∷ [])) s) refl h.1 in
    let n : s.at + 1 + length run ≡ s.at + suc (length run) = omega arith in
    let m : (w ++ b ∷ []) ++ run ≡ w ++ b ∷ run = append_assoc w (b ∷ []) run in
    ap (λ k. read_on k run) e ∙ i ∙ ap (λ k. record s { at = k; part = form ((w ++ b ∷ []) ++ run) }) n ∙ ap (λ k. record s { at = s.at + suc (length run); part = form k }) m

form_told : (test : ℕ → Bool) (form : List ℕ → Part) → GoesOn test form → (limits : Limits) (run w : List ℕ) (s : Reading) → s.part ≡ form w → HasNone test run → told_on limits s run ≡ []
form_told test form g limits [] w s p h = refl
form_told test form g limits (b ∷ run) w s p h =
    let e : next b s ≡ goes_on (form (w ++ b ∷ [])) s = ap (λ k. next_in k b s) p ∙ g.next w b s h.0 in
    let t : told_at limits b s ≡ [] = ap (λ k. told_in k limits b s) p ∙ g.told w b limits s h.0 in
    let i = form_told test form g limits run (w ++ b ∷ []) (goes_on (form (w ++ b ∷ [])) s) refl h.1 in
    ap (λ k. k ++ told_on limits (next b s) run) t ∙ ap (λ k. told_on limits k run) e ∙ i

-- the part after a run of its bytes, or the word that begins
abbrev pub grown : Part → List ℕ → Part
grown no_part run = in_word run
grown in_comment run = in_comment
grown (in_word w) run = in_word (w ++ run)
grown (in_string w) run = in_string (w ++ run)
grown (after_quote w) run = after_quote w
grown (in_quoted w) run = in_quoted (w ++ run)

abbrev pub begins_in : Part → Reading → ℕ
begins_in no_part s = begins_at s.levels s
begins_in in_comment s = s.from
begins_in (in_word w) s = s.from
begins_in (in_string w) s = s.from
begins_in (after_quote w) s = s.from
begins_in (in_quoted w) s = s.from

first_byte : (b : ℕ) (s : Reading) → s.part ≡ no_part → ends_word b ≡ false → next b s ≡ begun (in_word (b ∷ [])) s
first_byte b s p h = ap (λ k. next_in k b s) p ∙ ap (λ k. next_outside k b s) (is_word_class (class_of b) h)

run_by : (p : Part) (run : List ℕ) (s : Reading) → s.part ≡ p → 0 < length run → HasNone (ends (part_of p)) run → read_on s run ≡ record s { at = s.at + length run; from = begins_in p s; part = grown p run }
run_by no_part [] s e n h = absurd (omega arith)
run_by no_part (b ∷ run) s e n h =
    let i = form_run ends_word in_word word_goes_on run (b ∷ []) (begun (in_word (b ∷ [])) s) refl h.1 in
    let m : s.at + 1 + length run ≡ s.at + suc (length run) = omega arith in
    ap (λ k. read_on k run) (first_byte b s e h.0) ∙ i ∙ ap (λ k. record s { at = k; from = begins_at s.levels s; part = in_word (b ∷ run) }) m
run_by in_comment run s e n h = form_run is_line_end (λ w. in_comment) comment_goes_on run [] s e h
run_by (in_word w) run s e n h = form_run ends_word in_word word_goes_on run w s e h
run_by (in_string w) run s e n h = form_run is_quote in_string string_goes_on run w s e h
run_by (after_quote w) [] s e n h = absurd (omega arith)
run_by (after_quote w) (b ∷ run) s e n h = cc
run_by (in_quoted w) run s e n h = form_run is_bar in_quoted quoted_goes_on run w s e h

pub run_on : (run : List ℕ) (s : Reading) → 0 < length run → HasNone (ends (part_of s.part)) run → read_on s run ≡ record s { at = s.at + length run; from = begins_in s.part s; part = grown s.part run }
run_on run s n h = run_by s.part run s refl n h

told_by : (p : Part) (limits : Limits) (run : List ℕ) (s : Reading) → s.part ≡ p → HasNone (ends (part_of p)) run → told_on limits s run ≡ []
told_by no_part limits [] s e h = refl
told_by no_part limits (b ∷ run) s e h =
    let t : told_at limits b s ≡ [] = ap (λ k. told_in k limits b s) e ∙ ap (λ k. told_outside k limits s) (is_word_class (class_of b) h.0) in
    ap (λ k. k ++ told_on limits (next b s) run) t ∙ ap (λ k. told_on limits k run) (first_byte b s e h.0)
    ∙ form_told ends_word in_word word_goes_on limits run (b ∷ []) (begun (in_word (b ∷ [])) s) refl h.1
told_by in_comment limits run s e h = form_told is_line_end (λ w. in_comment) comment_goes_on limits run [] s e h
told_by (in_word w) limits run s e h = form_told ends_word in_word word_goes_on limits run w s e h
told_by (in_string w) limits run s e h = form_told is_quote in_string string_goes_on limits run w s e h
told_by (after_quote w) limits [] s e h = refl
told_by (after_quote w) limits (b ∷ run) s e h = cc
told_by (in_quoted w) limits run s e h = form_told is_bar in_quoted quoted_goes_on limits run w s e h

-- nothing is told inside a run
pub told_run : (limits : Limits) (run : List ℕ) (s : Reading) → HasNone (ends (part_of s.part)) run → told_on limits s run ≡ []
told_run limits run s h = told_by s.part limits run s refl h

-- ---- The part after a run, as the code keeps it

kinds_after-append : (k : WordKind) (xs ys : List ℕ) → kinds_after k (xs ++ ys) ≡ kinds_after (kinds_after k xs) ys
kinds_after-append k [] ys = refl
kinds_after-append k (x ∷ xs) ys = kinds_after-append (kind_after k x) xs ys

pub part_grows : (p : Part) (run : List ℕ) → part_after (part_of p) run ≡ part_of (grown p run)
part_grows no_part run = refl
part_grows in_comment run = refl
part_grows (in_word w) run = ap part.Word (sym (kinds_after-append kind.Empty w run))
part_grows (in_string w) run = ap part.String (sym (list_all-append is_literal_byte w run))
part_grows (after_quote w) run = refl
part_grows (in_quoted w) run = ap part.Quoted (sym (list_all-append is_quoted_byte w run))

-- its text goes on
pub text_grows : (p : Part) (run : List ℕ) → HasNone (ends (part_of p)) run → text_after (part_of p) (text_of_part p) run ≡ text_of_part (grown p run)
text_grows no_part run h = refl
text_grows in_comment run h = refl
text_grows (in_word w) run h = refl
text_grows (in_string w) run h = refl
text_grows (after_quote w) [] h = append-nil w
text_grows (after_quote w) (b ∷ run) h = cc
text_grows (in_quoted w) run h = refl

-- where the thing begins that is open, as the code keeps it
begins_by : (p : Part) (ls : List (List Tree)) (s : Reading) → s.levels ≡ ls → begins_here (part_of p) (length ls) s.at s.from ≡ begins_in p s
begins_by no_part [] s e = ap (λ k. begins_at k s) (sym e)
begins_by no_part (l ∷ ls) s e = ap (λ t. if t then s.at else s.from) (ne_eqb (length (l ∷ ls)) 0 (λ z. omega arith)) ∙ ap (λ k. begins_at k s) (sym e)
begins_by in_comment ls s e = refl
begins_by (in_word w) ls s e = refl
begins_by (in_string w) ls s e = refl
begins_by (after_quote w) ls s e = refl
begins_by (in_quoted w) ls s e = refl

pub begins_so : (s : Reading) → begins_here (part_of s.part) (length s.levels) s.at s.from ≡ begins_in s.part s
begins_so s = begins_by s.part s.levels s refl

-- ---- Bytes at which a run ends

pub is_word_part : (k : WordKind) (p : Part) → part.Word k ≡ part_of p → (w : List ℕ) × (p ≡ in_word w)
is_word_part k no_part h = cc
is_word_part k in_comment h = cc
is_word_part k (in_word w) h = (w, refl)
is_word_part k (in_string w) h = cc
is_word_part k (after_quote w) h = cc
is_word_part k (in_quoted w) h = cc

pub is_after_quote : (c : Bool) (p : Part) → part.AfterQuote c ≡ part_of p → (w : List ℕ) × (p ≡ after_quote w)
is_after_quote c no_part h = cc
is_after_quote c in_comment h = cc
is_after_quote c (in_word w) h = cc
is_after_quote c (in_string w) h = cc
is_after_quote c (after_quote w) h = (w, refl)
is_after_quote c (in_quoted w) h = cc

pub is_quoted_part : (c : Bool) (p : Part) → part.Quoted c ≡ part_of p → (w : List ℕ) × (p ≡ in_quoted w)
is_quoted_part c no_part h = cc
is_quoted_part c in_comment h = cc
is_quoted_part c (in_word w) h = cc
is_quoted_part c (in_string w) h = cc
is_quoted_part c (after_quote w) h = cc
is_quoted_part c (in_quoted w) h = (w, refl)

-- a word ends before a byte that is no word's
after_class : (c : ByteClass) (w : List ℕ) (b : ℕ) (s : Reading) → is_no_word c ≡ true → next_in_word c w b s ≡ next_outside c b (taken (word w) s)
after_class blank_byte w b s h = refl
after_class left_byte w b s h = refl
after_class right_byte w b s h = refl
after_class comment_byte w b s h = refl
after_class quote_byte w b s h = refl
after_class bar_byte w b s h = refl
after_class word_byte w b s h = cc

pub after_word : (w : List ℕ) (b : ℕ) (s : Reading) → ends_word b ≡ true → next_in (in_word w) b s ≡ next_outside (class_of b) b (taken (word w) s)
after_word w b s h = after_class (class_of b) w b s h

pub second_quote : (w : List ℕ) (b : ℕ) (s : Reading) → is_quote b ≡ true → next_in (after_quote w) b s ≡ goes_on (in_string (w ++ b ∷ [])) s
second_quote w b s h = ap (λ t. if t then goes_on (in_string (w ++ b ∷ [])) s else next_outside (class_of b) b (taken (string w) s)) h

pub closing_bar : (w : List ℕ) (b : ℕ) (s : Reading) → is_bar b ≡ true → next_in (in_quoted w) b s ≡ taken (quoted w) (passed s)
closing_bar w b s h = ap (λ t. if t then taken (quoted w) (passed s) else goes_on (in_quoted (w ++ b ∷ [])) s) h

pub told_closing_bar : (w : List ℕ) (b : ℕ) (limits : Limits) (s : Reading) → is_bar b ≡ true → told_in (in_quoted w) limits b s ≡ told_token (passed s)
told_closing_bar w b limits s h = ap (λ t. if t then told_token (passed s) else []) h
