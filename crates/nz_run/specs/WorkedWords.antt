-- Worked words: short command lines, and what they mean.
use Rattle.std.specs.Prelude.{ℕ, List, [], ◌∷◌, codes}
use Rattle.clap.specs.Words.{Text}
use Rattle.nz_run.specs.Words.{AreTaken, AreUnits}

-- nuz solve
abbrev pub plain_words : List Text
plain_words = codes "nuz" ∷ codes "solve" ∷ []

-- nuz solve --work N
abbrev pub words_with : List ℕ → List Text
words_with number = codes "nuz" ∷ codes "solve" ∷ codes "--work" ∷ number ∷ []

-- The words are taken, and so many units are allowed by them.
pub record Allow (words : List Text) (count : ℕ) : Type 0 where
  pub taken : AreTaken words
  pub units : AreUnits words count

-- The work may be left out. The subcommand may not, nor may what no number spells stand for one.
pub record HaveMeanings : Type 0 where
  pub plain : Allow plain_words 200000
  pub work : Allow (words_with (codes "7")) 7
  pub no_command : AreTaken (codes "nuz" ∷ []) → ⊥
  pub no_number : AreTaken (words_with (codes "x")) → ⊥
