use Rattle.std.proofs.Common.{◌≡◌, take}
use Rattle.std.specs.Prelude.{flat_map}
use Rattle.nz_sort.specs.declared.levels.Level.{Level}
use Rattle.nz_sort.proofs.live.accepted_in.Given as goal

-- the terms of the levels so far
abbrev pub invariant-loop-level : goal.invariant-loop-level
invariant-loop-level l = l.terms.items ≡ flat_map (λ (k : Level). k.accepted.items) (take l.level-index l.levels)
