-- What the fields of the code are.
use Rattle.std.specs.Prelude.{◌≡◌, ℕ, ◌+◌, ◌*◌, ◌≤◌, Bool, List, length, Option, Some, None, option_map, slice_index_or, sum_by, vec_capacity}
use Rattle.std.specs.declared.vec.Vec.{Vec}
use Rattle.std.specs.declared.alloc.Global.{Global}
use Rattle.nz_spec.specs.clauses.Literal.{are_same_sign}
use Rattle.nz_log.specs.declared.lits.Lit.{Lit}
use Rattle.nz_log.specs.Codes.{code_of}
use Rattle.std.specs.declared.snapshot.Snapshot.{Snapshot}
use Rattle.nz_log.specs.Logs.{LogState}
use Rattle.nz_sat.specs.declared.clauses.Held.{Held}
use Rattle.nz_sat.specs.declared.kept.Kept.{Kept}
use Rattle.nz_sat.specs.Watched.{IsKept}
use Rattle.nz_sat.specs.declared.trail.Assigned.{Assigned}
use Rattle.nz_sat.specs.Trails.{TrailState, IsTrail, assigned, truth_on}

abbrev pub trail_of : List Assigned → List (Option Assigned) → TrailState
trail_of entries by_atom = record { entries = entries; size = length by_atom }

-- 1 where there is no entry
abbrev pub vacancy : Option Assigned → ℕ
vacancy None = 1
vacancy (Some e) = 0

-- whether a literal is true, where its atom is decided
abbrev pub value_on : List Assigned → Lit → Option Bool
value_on es l = option_map (λ (sign : Bool). are_same_sign sign l.sign) (truth_on es l.atom)

-- The trail is in order, the tables have the entry of each atom and the value of each literal, and there is room for the atoms that have none.
pub record IsTabled (entries : Vec Assigned Global) (by_atom : List (Option Assigned)) (values : List (Option Bool)) : Type 0 where
  pub order : IsTrail (trail_of entries.items by_atom)
  pub table : (t : ℕ) → slice_index_or by_atom t None ≡ assigned entries.items t
  pub long : length values ≡ 2 * length by_atom
  pub valued : (l : Lit) → slice_index_or values (code_of l) None ≡ value_on entries.items l
  pub vacant : length entries.items + sum_by vacancy by_atom ≡ length by_atom
  pub room : length by_atom ≤ vec_capacity entries

-- the log that was seen
abbrev pub log_of : Option (Snapshot LogState) → Option LogState
log_of seen = option_map (λ (s : Snapshot LogState). s.value) seen

-- What is kept of clauses is so in the log that was seen; where none was seen, nothing is kept.
abbrev pub IsKeptSince : Option LogState → List Held → Kept → Type 0
IsKeptSince None held k = (log : LogState) → IsKept log held k
IsKeptSince (Some log) held k = IsKept log held k
