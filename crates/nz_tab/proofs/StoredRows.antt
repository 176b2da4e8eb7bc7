-- Rows as they are stored, and the grid that they make.
use Rattle.std.proofs.Common.{Vec, Global, ◌≡◌, ℕ, Bool, List, subst}
use Rattle.nz_fractions.specs.Fraction.{Fraction}
use Rattle.nz_tab.specs.Rows.{Grid, IsGrid}
use Rattle.nz_tab.specs.Sums.{IsStoredGrid}

abbrev pub items : Vec Fraction Global → List Fraction
items x = x.items

-- the grid as its fields have it
abbrev pub made : List Bool → List ℕ → List (List Fraction) → Grid
made marks places rows = record { marks = marks; places = places; rows = rows }

pub stored_in : {marks : List Bool} {places : List ℕ} {width : ℕ} {rows : List (List Fraction)} {g : Grid} → made marks places rows ≡ g → IsGrid marks places width rows → IsStoredGrid g
stored_in {marks} {places} {width} {rows} same stored = subst IsStoredGrid same (subst (λ (w : ℕ). IsGrid marks places w rows) stored.wide stored)
