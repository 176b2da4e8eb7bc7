-- The terms of the levels so far are taken off.
use Rattle.std.proofs.Common.{◌≡◌, ◌-◌}
use Rattle.nz_engine.specs.Levels.{by_level, count_in, levels_of}
use Rattle.nz_engine.proofs.levels.left_of.Given as goal

abbrev pub invariant-loop-added : goal.invariant-loop-added
invariant-loop-added l = l.left ≡ l.count - count_in (by_level l.kind (levels_of l.levels)) l.added-index
