-- What is kept, beside what is heard first.
use Rattle.std.proofs.Common.{◌≡◌, ℕ, inl, inr, Bool, true, false, List, [], ◌∷◌, ◌++◌, refl, sym, ap, ◌∙◌, subst, append_assoc, append-nil}
use Rattle.nz_script.specs.text.Text.{Heard, Hears, script_limits, OneReading}
use Rattle.nz_script.specs.text.ToldAs.{AreToldAs}
use Rattle.nz_script.specs.text.Told.{IsTold, AreComplete, ReadingTellsFirst}
use Rattle.nz_script.specs.live.Live.{start}
use Rattle.nz_script.specs.replies.Right.{beginning}
use Rattle.nz_script.specs.run.Transcript.{Kept, AreRight, GoesOn, EndsByExit, things_of, AreHeardFirst, IsFrontOf, IsCutOff, IsTranscript}
use Rattle.nz_sexpr.specs.declared.reader.Reader.{Reader}
use Rattle.nz_sexpr.specs.Matches.{told}
use Rattle.nz_sexpr.specs.Fits.{Fits}

-- These things are told of the first that are heard.
pub record IsHeardOf (ended : Bool) (bytes : List ℕ) (things : List Heard) : Type 0 where
  pub heard : List Heard
  pub first : AreHeardFirst ended bytes heard
  pub told : AreToldAs things heard

-- the first of those that are heard first are heard first
first_front : (ended : Bool) (bytes : List ℕ) (xs ys : List Heard) → AreHeardFirst ended bytes (xs ++ ys) → AreHeardFirst ended bytes xs
first_front true bytes xs ys h = (ys ++ h.0, subst (Hears script_limits bytes) (append_assoc xs ys h.0) h.1)
first_front false bytes xs ys h = λ more heard reading. let w = h more heard reading in (ys ++ w.0, w.1 ∙ append_assoc xs ys w.0)

-- things told, in two parts, are told of those heard in two parts
told_split : (xs ys hs : List Heard) → AreToldAs (xs ++ ys) hs → (f : List Heard) × (r : List Heard) × (hs ≡ f ++ r) × AreToldAs xs f × AreToldAs ys r
told_split [] ys hs t = ([], hs, refl, tt, t)
told_split (x ∷ xs) ys [] t = absurd t
told_split (x ∷ xs) ys (h ∷ hs) t = let s = told_split xs ys hs t.1 in (h ∷ s.0, s.1, ap (λ l. h ∷ l) s.2, (t.0, s.3), s.4)

-- what one thing told is told of
told_one : (thing : Heard) (hs : List Heard) → AreToldAs (thing ∷ []) hs → (h : Heard) × (hs ≡ h ∷ [])
told_one thing [] t = absurd t
told_one thing (h ∷ []) t = (h, refl)
told_one thing (h ∷ i ∷ is) t = absurd t.1

-- ---- Where what is heard comes from

-- what a reader has told is heard first, however the text goes on
pub heard_by_reader : ReadingTellsFirst → (r : Reader) (bytes more : List ℕ) (things : List Heard) → Fits script_limits r bytes things → IsHeardOf false (bytes ++ more) things
heard_by_reader tells r bytes more things fits =
    let first = tells script_limits bytes (things ++ told r.owed) fits.things in
    let split = told_split things (told r.owed) first.front first.are_told in
    let complete : AreComplete script_limits (bytes ++ more) split.0 =
    λ after heard reading.
    let w = first.complete (more ++ after) heard (subst (λ (l : List ℕ). Hears script_limits l heard) (append_assoc bytes more after) reading) in
    (split.1 ++ w.0, w.1 ∙ ap (λ l. l ++ w.0) split.2 ∙ append_assoc split.0 split.1 w.0) in
    record { heard = split.0; first = complete; told = split.3 }

-- so it is heard in the text as it is
hears_first : OneReading → (bytes : List ℕ) (xs : List Heard) → AreComplete script_limits bytes xs → (rest : List Heard) × Hears script_limits bytes (xs ++ rest)
hears_first one bytes xs complete =
    let reading = one script_limits bytes in
    let w = complete [] reading.0 (subst (λ (l : List ℕ). Hears script_limits l reading.0) (sym (append-nil bytes)) reading.1) in
    (w.0, subst (Hears script_limits bytes) w.1 reading.1)

-- at the end of the text
pub heard_at_end : (bytes : List ℕ) (things : List Heard) → IsTold script_limits bytes things → IsHeardOf true bytes things
heard_at_end bytes things t = record { heard = t.0; first = ([], subst (Hears script_limits bytes) (sym (append-nil t.0)) t.1); told = t.2 }

-- ---- What is kept

module _ (limit : ℕ) (ended : Bool) (bytes : List ℕ) (ks : List Kept) (right : AreRight (beginning limit) ks) where
  pub front_of : (later : List Heard) → IsHeardOf ended bytes (things_of ks ++ later) → IsFrontOf limit ended bytes ks []
  front_of later h =
      let split = told_split (things_of ks) later h.heard h.told in
      let first = first_front ended bytes split.0 split.1 (subst (AreHeardFirst ended bytes) split.2 h.first) in
      record { heard = split.0; first = subst (AreHeardFirst ended bytes) (sym (append-nil split.0)) first; told = split.3; right = right }

  pub cut_off : (thing : Heard) → GoesOn start ks → IsHeardOf ended bytes (things_of ks ++ thing ∷ []) → IsCutOff limit ended bytes ks
  cut_off thing goes h =
      let split = told_split (things_of ks) (thing ∷ []) h.heard h.told in
      let last = told_one thing split.1 split.4 in
      let front : IsFrontOf limit ended bytes ks (last.0 ∷ []) =
      record { heard = split.0; first = subst (AreHeardFirst ended bytes) (split.2 ∙ ap (λ l. split.0 ++ l) last.1) h.first; told = split.3; right = right } in
      record { unanswered = last.0; front = front; goes_on = goes }

pub transcript_to_exit : OneReading → (limit : ℕ) (bytes : List ℕ) (ks : List Kept) → AreRight (beginning limit) ks → EndsByExit start ks
    → IsHeardOf false bytes (things_of ks) → IsTranscript limit bytes ks
transcript_to_exit one limit bytes ks right ends h =
    let w = hears_first one bytes h.heard h.first in
    record { heard = h.heard; rest = w.0; hears = w.1; told = h.told; right = right; whole = inr ends }

pub transcript_to_end : (limit : ℕ) (bytes : List ℕ) (ks : List Kept) → AreRight (beginning limit) ks → IsTold script_limits bytes (things_of ks) → IsTranscript limit bytes ks
transcript_to_end limit bytes ks right t =
    record { heard = t.0; rest = []; hears = subst (Hears script_limits bytes) (sym (append-nil t.0)) t.1; told = t.2; right = right; whole = inl refl }
