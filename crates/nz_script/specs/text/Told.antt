-- What a reader that is fed bytes has to tell: of a whole text, and of the front of one.
use Rattle.std.specs.Prelude.{◌≡◌, ℕ, List, ◌++◌}
use Rattle.nz_script.specs.text.Text.{Heard, Hears, Limits}
use Rattle.nz_script.specs.text.ToldAs.{AreToldAs}
use Rattle.nz_script.specs.text.Reading.{reading_start, read_on, told_on, told_open}

-- What is told of a whole text: the things heard in it, in order.
abbrev pub IsTold : Limits → List ℕ → List Heard → Type 0
IsTold limits bytes told = (heard : List Heard) × Hears limits bytes heard × AreToldAs told heard

-- These things are heard first, however the text goes on after these bytes.
abbrev pub AreComplete : Limits → List ℕ → List Heard → Type 0
AreComplete limits bytes front = (more : List ℕ) (heard : List Heard) → Hears limits (bytes ++ more) heard → (rest : List Heard) × (heard ≡ front ++ rest)

-- What is told when these bytes were read and more may come: the longest list of things that are complete in them.
pub record IsToldFirst (limits : Limits) (bytes : List ℕ) (told : List Heard) : Type 0 where
  pub front : List Heard
  pub are_told : AreToldAs told front
  pub complete : AreComplete limits bytes front
  pub longest : (others : List Heard) → AreComplete limits bytes others → (rest : List Heard) × (front ≡ others ++ rest)

-- ---- Laws

-- A text read byte by byte: what is told at its bytes, and then of what is open, is heard in it.
abbrev pub ReadingIsHeard : Type 0
ReadingIsHeard = (limits : Limits) (bytes : List ℕ) → Hears limits bytes (told_on limits reading_start bytes ++ told_open (read_on reading_start bytes))

-- What is told at the bytes of a front is all that is complete in it.
abbrev pub ReadingTellsFirst : Type 0
ReadingTellsFirst = (limits : Limits) (bytes : List ℕ) (told : List Heard) → AreToldAs told (told_on limits reading_start bytes) → IsToldFirst limits bytes told
