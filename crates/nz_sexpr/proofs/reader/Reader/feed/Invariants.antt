use Rattle.std.proofs.Common.{length, ◌-◌, ◌≡◌, ◌≤◌, ◌<◌, ◌+◌, ◌^◌, ◌++◌, ℕ, List, take, None}
use Rattle.nz_script.specs.text.Text.{Limits, Heard}
use Rattle.nz_sexpr.specs.Matches.{GoesOnBy}
use Rattle.nz_sexpr.specs.Fits.{Fits, bytes_read}
use Rattle.nz_sexpr.proofs.reader.Reader.feed.Given as goal

-- what was read and told goes on with the bytes used, and nothing is owed
abbrev pub invariant-loop-used : goal.invariant-loop-used
invariant-loop-used l = record {
  used : l.used ≤ length l.piece;
  settled : l.self.owed ≡ None;
  counted : GoesOnBy (bytes_read l.fn.self) l.used (bytes_read l.self);
  heard : (limits : Limits) (bytes : List ℕ) (things : List Heard) → Fits limits l.fn.self bytes things → length bytes + length l.piece < 2 ^ 64 → Fits limits l.self (bytes ++ take l.used l.piece) things;
}

abbrev pub decreases-loop-used : goal.decreases-loop-used
decreases-loop-used l = length l.piece - l.used
