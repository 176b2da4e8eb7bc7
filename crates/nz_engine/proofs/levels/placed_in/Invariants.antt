-- What is left of the place, with the terms of the levels so far, is the place.
use Rattle.std.proofs.Common.{◌≡◌, ◌+◌}
use Rattle.nz_engine.specs.Levels.{by_level, count_in, levels_of}
use Rattle.nz_engine.proofs.levels.placed_in.Given as goal

abbrev pub invariant-loop-level : goal.invariant-loop-level
invariant-loop-level l = count_in (by_level l.kind (levels_of l.levels)) l.level + l.left ≡ l.place
