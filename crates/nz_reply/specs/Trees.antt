-- How lists of texts are written.
use Rattle.std.specs.Prelude.{ℕ, zero, suc, List, [], ◌∷◌}

-- what stands before the text at this place of a list
abbrev pub space_before : ℕ → List ℕ
space_before zero = []
space_before (suc i) = 32 ∷ []
