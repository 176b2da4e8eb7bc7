use Rattle.std.proofs.Common.{◌≡◌, map, take}
use Rattle.nz_reals.specs.Tells.{multiple_at}
use Rattle.nz_reals.proofs.reals.Reals.multiples.Given as goal

abbrev pub invariant-loop-reason : goal.invariant-loop-reason
invariant-loop-reason l = l.multiples.items ≡ map (multiple_at l.self) (take l.reason-index l.reason-items)
