-- What a contract sees of the entries and lines of a work list.
use Rattle.std.specs.Prelude.{◌≡◌, ◌+◌, ◌-◌, ◌≤◌, ℕ, map, vec_len, vec_capacity}
use Rattle.std.specs.declared.vec.Vec.{Vec}
use Rattle.std.specs.declared.alloc.Global.{Global}
use Rattle.nz_spec.specs.search.Work.{WorkEntry, DecisionEntry, LearnedEntry, PivotEntry, WorkLine, UnitLine, NoteLine, unit_count}
use Rattle.nz_base.specs.declared.entries.Entry.{Entry}
use Rattle.nz_base.specs.declared.entries.Entry.TheVariants.{Decision, Learned, Pivot}
use Rattle.nz_base.specs.declared.entries.Line.{Line}
use Rattle.nz_base.specs.declared.entries.Line.TheVariants as line
use Rattle.nz_base.specs.declared.entries.Noted.{Noted}
use Rattle.nz_base.specs.declared.entries.Noted.TheVariants as lent

-- a step, as the definitions have it
abbrev pub entry_of : Entry → WorkEntry
entry_of (Decision atom sign) = DecisionEntry atom sign
entry_of (Learned keep lits) = LearnedEntry keep lits
entry_of (Pivot leaves enters) = PivotEntry leaves enters

module _ {T : Type 0} where
  -- a line, as the definitions have it
  abbrev pub line_of : Line T → WorkLine T
  line_of (line.Unit entry) = UnitLine (entry_of entry)
  line_of (line.Note note) = NoteLine note

  -- a line that is lent
  abbrev pub lent_line : Noted T → WorkLine T
  lent_line (lent.Unit entry) = UnitLine (entry_of entry.now)
  lent_line (lent.Note note) = NoteLine note.now

  -- the units are counted, and each that is still free has its room
  pub record IsRoomy (lines : Vec (Line T) Global) (units limit : ℕ) : Type 0 where
    pub counted : unit_count (map line_of lines.items) ≡ units
    pub within : units ≤ limit
    pub room : vec_len lines + (limit - units) ≤ vec_capacity lines
