-- How a thing heard may be told: as it is, or as one for which there was no memory while it was read.
use Rattle.std.specs.Prelude.{◌≡◌, List, [], ◌∷◌, ⊤}
use Rattle.nz_script.specs.text.Text.{What, intact, faulty, unclosed, unread, Heard}

-- What a command is may give way to want of memory; anything else is told as it is.
abbrev pub IsToldWhat : What → What → Type 0
IsToldWhat unread (intact t) = ⊤
IsToldWhat unread (faulty e) = ⊤
IsToldWhat unread unclosed = ⊥
IsToldWhat told what = told ≡ what

-- the same span, and what it is
pub record IsToldAs (told heard : Heard) : Type 0 where
  pub from : told.from ≡ heard.from
  pub to : told.to ≡ heard.to
  pub what : IsToldWhat told.what heard.what

-- things told, one for one those heard
abbrev pub AreToldAs : List Heard → List Heard → Type 0
AreToldAs [] [] = ⊤
AreToldAs (t ∷ ts) (h ∷ hs) = IsToldAs t h × AreToldAs ts hs
AreToldAs [] (h ∷ hs) = ⊥
AreToldAs (t ∷ ts) [] = ⊥
