-- What a call that writes a text does to a sink.
use Rattle.std.specs.Prelude.{◌≡◌, ℕ, List, Option, Result, OnOk, OnErr, is_err, ⊤}
use Rattle.std.specs.Io.KnownBytes.{Appends}
use Rattle.nz_spec.specs.outside.Outside.{AddsFrontOf, counted}

-- A call that succeeded wrote the text whole, one that failed a front of it, and the sink's faults are counted.
pub record Writes {S E : Type 0} (held : S → Option (List ℕ)) (faults : S → ℕ) (last : ℕ) (old new : S) (text : List ℕ) (result : Result ⊤ E) : Type 0 where
  pub whole : OnOk result (Appends (held old) (held new) text)
  pub front : OnErr result (AddsFrontOf (held old) (held new) text)
  pub fault : faults new ≡ counted last (is_err result) (faults old)
