-- Bytes at which nothing is told: no command and no token outside any ends there.
use Rattle.std.proofs.Common.{◌≡◌, ℕ, ◌<◌, ◌==◌, ◌||◌, Bool, true, false, if◌then◌else◌, List, [], ◌∷◌, ◌++◌, length, nat_lt, refl, sym, ◌∙◌, ap, ap₂, subst, arith}
use Rattle.std.proofs.lemmas.Bool.{ltb-true}
use Rattle.std.proofs.Math.Bool.{or-false}
use Rattle.nz_script.specs.text.Tree.{Tree}
use Rattle.nz_script.specs.text.Text.{Limits, ByteClass, blank_byte, left_byte, right_byte, comment_byte, quote_byte, bar_byte, word_byte, class_of, is_blank_byte, is_quote, is_bar, Filler, word, string}
use Rattle.nz_script.specs.text.Reading as reading
use Rattle.nz_script.specs.text.Reading.{no_part, in_comment, in_word, in_string, after_quote, in_quoted, Reading, passed, taken, taken_by, told_token, told_token_by, told_closed_by, told_outside, told_in_word, told_in, told_at}
use Rattle.nz_sexpr.specs.Part.{part_of, holds_no_token}
use Rattle.nz_sexpr.specs.Matches.{is_quiet_at}
use Rattle.nz_sexpr.specs.declared.part.Part.{Part}

-- ---- The test of the code

right_by : (t1 t2 t3 t4 t5 t6 : Bool) → (if t1 then blank_byte else (if t2 then left_byte else (if t3 then right_byte else (if t4 then comment_byte else (if t5 then quote_byte else (if t6 then bar_byte else word_byte)))))) ≡ right_byte → t3 ≡ true
right_by true t2 t3 t4 t5 t6 h = cc
right_by false true t3 t4 t5 t6 h = cc
right_by false false true t4 t5 t6 h = refl
right_by false false false true t5 t6 h = cc
right_by false false false false true t6 h = cc
right_by false false false false false true h = cc
right_by false false false false false false h = cc

-- only one byte is a )
right_is : (b : ℕ) → class_of b ≡ right_byte → (b == 41) ≡ true
right_is b h = right_by (is_blank_byte b) (b == 40) (b == 41) (b == 59) (b == 34) (b == 124) h

-- a token that is being read stands in a command
some_open : (depth b : ℕ) → (if b == 41 then nat_lt 1 depth else nat_lt 0 depth || false) ≡ true → 0 < depth
some_open depth b = elim (b == 41) as (λ t. (if t then nat_lt 1 depth else nat_lt 0 depth || false) ≡ true → 0 < depth) [
  | true ↦ λ h. let more : 1 < depth = ltb-true 1 depth h in omega arith
  | false ↦ λ h. ltb-true 0 depth (sym (or-false (nat_lt 0 depth)) ∙ h)
]

-- a ) ends no command
more_open : (p : Part) (depth b : ℕ) → is_quiet_at p depth b ≡ true → (b == 41) ≡ true → 1 < depth
more_open p depth b h e = ltb-true 1 depth (subst (λ t. (if t then nat_lt 1 depth else nat_lt 0 depth || holds_no_token p) ≡ true) e h)

-- ---- What is told

inner_closed : (limits : Limits) (ls : List (List Tree)) (s : Reading) → 1 < length ls → told_closed_by limits ls s ≡ []
inner_closed limits [] s h = absurd (omega arith)
inner_closed limits (l ∷ []) s h = absurd (omega arith)
inner_closed limits (l ∷ m ∷ ls) s h = refl

quiet_outside : (c : ByteClass) (limits : Limits) (s : Reading) → (c ≡ right_byte → 1 < length s.levels) → told_outside c limits s ≡ []
quiet_outside blank_byte limits s h = refl
quiet_outside left_byte limits s h = refl
quiet_outside right_byte limits s h = inner_closed limits s.levels s (h refl)
quiet_outside comment_byte limits s h = refl
quiet_outside quote_byte limits s h = refl
quiet_outside bar_byte limits s h = refl
quiet_outside word_byte limits s h = refl

inner_token : (ls : List (List Tree)) (s : Reading) → 0 < length ls → told_token_by ls s ≡ []
inner_token [] s h = absurd (omega arith)
inner_token (l ∷ ls) s h = refl

-- as many lists are open after a token
taken_levels : (f : Filler) (ls : List (List Tree)) (s : Reading) → s.levels ≡ ls → length (taken_by f ls s).levels ≡ length ls
taken_levels f [] s e = ap length e
taken_levels f (l ∷ ls) s e = refl

quiet_taken : (c : ByteClass) (f : Filler) (limits : Limits) (s : Reading) → 0 < length s.levels → (c ≡ right_byte → 1 < length s.levels) → told_token s ++ told_outside c limits (taken f s) ≡ []
quiet_taken c f limits s n h =
    ap₂ (λ x y. x ++ y) (inner_token s.levels s n)
    (quiet_outside c limits (taken f s) (λ e. let more : 1 < length s.levels = h e in omega (arith, taken_levels f s.levels s refl)))

quiet_word : (c : ByteClass) (limits : Limits) (w : List ℕ) (s : Reading) → 0 < length s.levels → (c ≡ right_byte → 1 < length s.levels) → told_in_word c limits w s ≡ []
quiet_word blank_byte limits w s n h = inner_token s.levels s n
quiet_word left_byte limits w s n h = inner_token s.levels s n
quiet_word right_byte limits w s n h = quiet_taken right_byte (word w) limits s n h
quiet_word comment_byte limits w s n h = inner_token s.levels s n
quiet_word quote_byte limits w s n h = inner_token s.levels s n
quiet_word bar_byte limits w s n h = inner_token s.levels s n
quiet_word word_byte limits w s n h = refl

quiet_part : (p : reading.Part) (limits : Limits) (b : ℕ) (s : Reading) → is_quiet_at (part_of p) (length s.levels) b ≡ true → told_in p limits b s ≡ []
quiet_part no_part limits b s h = quiet_outside (class_of b) limits s (λ e. more_open (part_of no_part) (length s.levels) b h (right_is b e))
quiet_part in_comment limits b s h = refl
quiet_part (in_word w) limits b s h = quiet_word (class_of b) limits w s (some_open (length s.levels) b h) (λ e. more_open (part_of (in_word w)) (length s.levels) b h (right_is b e))
quiet_part (in_string w) limits b s h = refl
quiet_part (after_quote w) limits b s h = elim (is_quote b) as (λ t. (if t then [] else told_token s ++ told_outside (class_of b) limits (taken (string w) s)) ≡ []) [
  | true ↦ refl
  | false ↦ quiet_taken (class_of b) (string w) limits s (some_open (length s.levels) b h) (λ e. more_open (part_of (after_quote w)) (length s.levels) b h (right_is b e))
]
quiet_part (in_quoted w) limits b s h = elim (is_bar b) as (λ t. (if t then told_token (passed s) else []) ≡ []) [ true ↦ inner_token s.levels (passed s) (some_open (length s.levels) b h) | false ↦ refl ]

pub told_quietly : (limits : Limits) (b : ℕ) (s : Reading) → is_quiet_at (part_of s.part) (length s.levels) b ≡ true → told_at limits b s ≡ []
told_quietly limits b s h = quiet_part s.part limits b s h
