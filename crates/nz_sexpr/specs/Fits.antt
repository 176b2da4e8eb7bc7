-- What a reader has read and told.
use Rattle.std.specs.Prelude.{ℕ, List, ◌++◌, Bool, is_some}
use Rattle.nz_script.specs.text.Text.{Limits, Heard}
use Rattle.nz_script.specs.text.ToldAs.{AreToldAs}
use Rattle.nz_script.specs.text.Reading.{reading_start, read_on, told_on}
use Rattle.nz_sexpr.specs.Matches.{Matches, told}
use Rattle.nz_sexpr.specs.declared.reader.Reader.{Reader}

-- a thing was heard that isn't told yet
abbrev pub owes : Reader → Bool
owes r = is_some r.owed

-- how many bytes it has read, up to the last number of the type of places, at which it stays
abbrev pub bytes_read : Reader → ℕ
bytes_read r = r.scan.at

-- The reader has read these bytes, and has told these things; what it owes comes after them.
pub record Fits (limits : Limits) (r : Reader) (bytes : List ℕ) (tale : List Heard) : Type 0 where
  pub state : Matches limits r.scan (read_on reading_start bytes)
  pub things : AreToldAs (tale ++ told r.owed) (told_on limits reading_start bytes)
