-- What is told of a text that is read byte by byte, and of the front of one.
use Rattle.std.proofs.Common.{◌≡◌, ℕ, ◌+◌, List, [], ◌∷◌, ◌++◌, refl, sym, ◌∙◌, ap, arith, append_assoc}
use Rattle.std.proofs.lemmas.List.{append-nil}
use Rattle.nz_script.specs.text.Tree.{Tree}
use Rattle.nz_script.specs.text.Text.{Limits, Heard, What, faulty, unclosed}
use Rattle.nz_spec.specs.outside.Error.{bad_syntax}
use Rattle.nz_script.specs.text.Reading.{Part, no_part, in_comment, in_word, in_string, after_quote, in_quoted, Reading, reading_start, next, told_at, read_on, told_on, told_open, hear_on}
use Rattle.nz_script.specs.text.Told.{ReadingIsHeard, ReadingTellsFirst}
use Rattle.nz_script.proofs.Readings.{hears, hears_one}

hear_on-split : (limits : Limits) (s : Reading) (bytes more : List ℕ) → hear_on limits s (bytes ++ more) ≡ told_on limits s bytes ++ hear_on limits (read_on s bytes) more
hear_on-split limits s [] more = refl
hear_on-split limits s (b ∷ bytes) more =
    ap (λ k. told_at limits b s ++ k) (hear_on-split limits (next b s) bytes more)
    ∙ sym (append_assoc (told_at limits b s) (told_on limits (next b s) bytes) (hear_on limits (read_on (next b s) bytes) more))

hear_on-end : (limits : Limits) (bytes : List ℕ) → hear_on limits reading_start bytes ≡ told_on limits reading_start bytes ++ told_open (read_on reading_start bytes)
hear_on-end limits bytes = ap (hear_on limits reading_start) (sym (append-nil bytes)) ∙ hear_on-split limits reading_start bytes []

pub reading_is_heard : ReadingIsHeard
reading_is_heard limits bytes = rw (← hear_on-end limits bytes) (hears limits bytes)

-- ---- The front of a text

-- two lists that differ only in what stands last agree in a front no longer than what stands before it
common_front : (front others rest rest' : List Heard) (x y : Heard) → (x ≡ y → ⊥) → front ++ x ∷ [] ≡ others ++ rest → front ++ y ∷ [] ≡ others ++ rest' → (r : List Heard) × (front ≡ others ++ r)
common_front front [] rest rest' x y apart h k = (front, refl)
common_front [] (o ∷ others) rest rest' x y apart h k = absurd (apart cc)
common_front (z ∷ front) (o ∷ others) rest rest' x y apart h k =
    let p : z ≡ o = cc in
    let h' : front ++ x ∷ [] ≡ others ++ rest = cc in
    let k' : front ++ y ∷ [] ≡ others ++ rest' = cc in
    let r = common_front front others rest rest' x y apart h' k' in
    (r.0, ap (λ k. k ∷ front) p ∙ ap (λ k. o ∷ k) r.1)

-- What is told of what is open ends elsewhere where one more byte follows: so it isn't complete.
ends_apart : (front others rest rest' : List Heard) (from at : ℕ) (w w' : What) (x y : List Heard) → x ≡ record { from = from; to = at; what = w } ∷ [] → y ≡ record { from = from; to = at + 1; what = w' } ∷ [] → front ++ x ≡ others ++ rest → front ++ y ≡ others ++ rest' → (r : List Heard) × (front ≡ others ++ r)
ends_apart front others rest rest' from at w w' x y p q h k =
    common_front front others rest rest' (record { from = from; to = at; what = w }) (record { from = from; to = at + 1; what = w' })
    (λ e. let n : at ≡ at + 1 = ap (λ (t : Heard). t.to) e in omega arith) (ap (λ m. front ++ m) (sym p) ∙ h) (ap (λ m. front ++ m) (sym q) ∙ k)

-- nothing is open
none_open : (front others rest x : List Heard) → x ≡ [] → front ++ x ≡ others ++ rest → (r : List Heard) × (front ≡ others ++ r)
none_open front others rest x e h = (rest, sym (append-nil front) ∙ ap (λ m. front ++ m) (sym e) ∙ h)

-- A byte that makes what is open longer: after a quote that may be the last of a literal it is a second quote.
abbrev more_of : Part → List ℕ
more_of (after_quote w) = 34 ∷ []
more_of p = 97 ∷ []

-- a command that is open stays so with that byte
longer_in : (limits : Limits) (l : List Tree) (ls : List (List Tree)) (s : Reading) → s.levels ≡ l ∷ ls → (p : Part) → s.part ≡ p → hear_on limits s (more_of p) ≡ record { from = s.from; to = s.at + 1; what = unclosed } ∷ []
longer_in limits l ls s hl (after_quote w) hp = rw (hp, hl) refl
longer_in limits l ls s hl p hp = rw (hp, hl) refl

open_longest : (limits : Limits) (p : Part) (ls : List (List Tree)) (s : Reading) (front others rest rest' : List Heard) → s.part ≡ p → s.levels ≡ ls → front ++ told_open s ≡ others ++ rest → front ++ hear_on limits s (more_of p) ≡ others ++ rest' → (r : List Heard) × (front ≡ others ++ r)
open_longest limits no_part [] s front others rest rest' hp hl h k = none_open front others rest (told_open s) (rw (hl, hp) refl) h
open_longest limits in_comment [] s front others rest rest' hp hl h k = none_open front others rest (told_open s) (rw (hl, hp) refl) h
open_longest limits (in_word w) [] s front others rest rest' hp hl h k =
    ends_apart front others rest rest' s.from s.at (faulty bad_syntax) (faulty bad_syntax) (told_open s) (hear_on limits s (97 ∷ [])) (rw (hl, hp) refl) (rw (hl, hp) refl) h k
open_longest limits (in_string w) [] s front others rest rest' hp hl h k =
    ends_apart front others rest rest' s.from s.at unclosed unclosed (told_open s) (hear_on limits s (97 ∷ [])) (rw (hl, hp) refl) (rw (hl, hp) refl) h k
open_longest limits (after_quote w) [] s front others rest rest' hp hl h k =
    ends_apart front others rest rest' s.from s.at (faulty bad_syntax) unclosed (told_open s) (hear_on limits s (34 ∷ [])) (rw (hl, hp) refl) (rw (hl, hp) refl) h k
open_longest limits (in_quoted w) [] s front others rest rest' hp hl h k =
    ends_apart front others rest rest' s.from s.at unclosed unclosed (told_open s) (hear_on limits s (97 ∷ [])) (rw (hl, hp) refl) (rw (hl, hp) refl) h k
open_longest limits p (l ∷ ls) s front others rest rest' hp hl h k =
    ends_apart front others rest rest' s.from s.at unclosed unclosed (told_open s) (hear_on limits s (more_of p)) (rw hl refl) (longer_in limits l ls s hl p hp) h k

pub reading_tells_first : ReadingTellsFirst
reading_tells_first limits bytes told h = record {
  front = told_on limits reading_start bytes;
  are_told = h;
  complete = λ more heard k. (hear_on limits (read_on reading_start bytes) more, hears_one limits (bytes ++ more) heard k ∙ hear_on-split limits reading_start bytes more);
  longest = λ others k.
      let s : Reading = read_on reading_start bytes in
      let more : List ℕ = more_of s.part in
      let u = k [] (hear_on limits reading_start (bytes ++ [])) (hears limits (bytes ++ [])) in
      let v = k more (hear_on limits reading_start (bytes ++ more)) (hears limits (bytes ++ more)) in
      open_longest limits s.part s.levels s (told_on limits reading_start bytes) others u.0 v.0 refl refl
      (sym (hear_on-split limits reading_start bytes []) ∙ u.1) (sym (hear_on-split limits reading_start bytes more) ∙ v.1);
}
