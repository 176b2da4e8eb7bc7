-- Each bound so far is listed.
use Rattle.std.proofs.Common.{◌≡◌, take}
use Rattle.std.specs.Prelude.{All}
use Rattle.nz_log.specs.Logs.{literals_at}
use Rattle.nz_engine.specs.Preparing.{IsListedIn}
use Rattle.nz_engine.proofs.prepared.listed.has_listed_bounds.Given as goal

abbrev pub invariant-loop-literal : goal.invariant-loop-literal
invariant-loop-literal l = (l.literal-items ≡ literals_at l.log l.id) × All (IsListedIn l.log l.form.bounds) (take l.literal-index l.literal-items)
