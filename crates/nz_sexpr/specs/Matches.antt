-- The state of the reader, against the text read byte by byte.
use Rattle.std.specs.Prelude.{◌≡◌, ◌<◌, ◌≤◌, ◌+◌, ◌-◌, ◌^◌, ℕ, List, length, Bool, nat_lt, ◌==◌, ◌||◌, if◌then◌else◌, Option, option_map, option_to_list, IfSome}
use Rattle.nz_script.specs.text.Text.{Limits, Heard}
use Rattle.nz_script.specs.text.ToldAs.{AreToldAs}
use Rattle.nz_script.specs.text.Reading.{Reading}
use Rattle.nz_sexpr.specs.Part.{part_of, text_of_part, holds_no_token}
use Rattle.nz_sexpr.specs.Store.{OpenCommand, kept_of}
use Rattle.nz_sexpr.specs.View.{heard_view}
use Rattle.nz_sexpr.specs.declared.part.Part.{Part}
use Rattle.nz_sexpr.specs.declared.scan.Scan.{Scan}
use Rattle.nz_sexpr.specs.declared.heard.Heard as code
use Rattle.nz_sexpr.specs.declared.heard.Limits as bounds

abbrev pub limits_view : bounds.Limits → Limits
limits_view l = record { depth = l.depth; bytes = l.bytes }

-- what is kept is what stands in the open command
pub record IsWhatStands (s : Reading) (k : OpenCommand) : Type 0 where
  pub inside : 0 < length s.levels
  pub all : k ≡ record { text = text_of_part s.part; levels = s.levels }

-- the state is that of this reading; what it keeps is there only inside a command
pub record Matches (limits : Limits) (scan : Scan) (s : Reading) : Type 0 where
  pub depth_limit : scan.limits.depth ≡ limits.depth
  pub byte_limit : scan.limits.bytes ≡ limits.bytes
  pub at : scan.at ≡ s.at
  pub from : scan.from ≡ s.from
  pub part : scan.part ≡ part_of s.part
  pub depth : scan.depth ≡ length s.levels
  pub few : length s.levels ≤ s.at
  pub bad : scan.bad ≡ s.bad
  pub deep : scan.deep ≡ nat_lt limits.depth s.deepest
  pub kept : IfSome (kept_of scan.store) (IsWhatStands s)

-- While fewer than 2^64 bytes were read, count more among them, the new state is that of the reading after this step.
abbrev pub Follows : Scan → Scan → ℕ → (Reading → Reading) → Type 0
Follows old new count step = (limits : Limits) (s : Reading) → Matches limits old s → s.at + count < 2 ^ 64 → Matches limits new (step s)

-- with this part and so many lists open, no command and no token outside any ends at a byte at which a run of bytes ends
abbrev pub is_quiet_at : Part → ℕ → ℕ → Bool
is_quiet_at p depth byte = if byte == 41 then nat_lt 1 depth else nat_lt 0 depth || holds_no_token p

abbrev pub told : Option code.Heard → List Heard
told heard = option_to_list (option_map heard_view heard)

-- and what was told is this
abbrev pub Tells : Scan → ℕ → List Heard → (Limits → Reading → List Heard) → Type 0
Tells old count things step = (limits : Limits) (s : Reading) → Matches limits old s → s.at + count < 2 ^ 64 → AreToldAs things (step limits s)

-- a count of bytes has gone on by so many, or stands at the last number of its type
abbrev pub GoesOnBy : ℕ → ℕ → ℕ → Type 0
GoesOnBy old count new = (old ≤ new) × (old + count < 2 ^ 64 → new ≡ old + count) × (2 ^ 64 ≤ old + count → 2 ^ 64 - 1 ≤ new)

-- what was told ends at one of these places
abbrev pub EndsWithin : ℕ → ℕ → Option code.Heard → Type 0
EndsWithin low high heard = IfSome heard (λ (h : code.Heard). (low ≤ h.to) × (h.to ≤ high))
