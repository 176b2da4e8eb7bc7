-- Literals that are marked by their numbers.
use Rattle.std.specs.Prelude.{◌≡◌, Bool, true, false, not, ◌&&◌, List, [], ◌∷◌, if◌then◌else◌}
use Rattle.std.specs.List.{list_any}
use Rattle.nz_log.specs.declared.lits.Lit.{Lit}
use Rattle.nz_log.specs.declared.marks.Marks.{Marks}
use Rattle.nz_log.specs.Lits.{are_same_lit}
use Rattle.nz_log.specs.Spelling.{is_marked}

abbrev pub has_mark : Marks → Lit → Bool
has_mark m l = if l.sign then is_marked m.holds.items l.atom else is_marked m.fails.items l.atom

-- no literal is marked
abbrev pub AreNone : (Lit → Bool) → Type 0
AreNone has = (l : Lit) → has l ≡ false

-- the literals of a list that are marked, each at its last place
abbrev pub last_marked : (Lit → Bool) → List Lit → List Lit
last_marked has [] = []
last_marked has (x ∷ xs) = if has x && not (list_any (are_same_lit x) xs) then x ∷ last_marked has xs else last_marked has xs

-- what is marked is in a list
abbrev pub AreListed : (Lit → Bool) → List Lit → Type 0
AreListed has xs = (l : Lit) → has l ≡ true → list_any (are_same_lit l) xs ≡ true
