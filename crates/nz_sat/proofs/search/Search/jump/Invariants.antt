use Rattle.std.proofs.Common.{◌≡◌, ◌+◌, length}
use Rattle.nz_sat.specs.Theories.{told_on}
use Rattle.nz_sat.specs.Trails.{IsFrontOf, below}
use Rattle.nz_sat.proofs.search.Search.jump.Given as goal

-- what is left of the trail, and how many bounds of what was taken off were told
abbrev pub invariant-loop-literal : goal.invariant-loop-literal
invariant-loop-literal l =
    record {
      rest : l.self ≡ record l.fn.self { trail = l.self.trail; order = l.self.order };
      size : l.self.trail.size ≡ l.fn.self.trail.size;
      kept : below l.level l.self.trail.entries ≡ below l.level l.fn.self.trail.entries;
      front : IsFrontOf l.self.trail.entries l.fn.self.trail.entries;
      count : length (told_on l.fn.self.bounds l.fn.self.trail.entries) ≡ length (told_on l.fn.self.bounds l.self.trail.entries) + l.untold;
    }

abbrev pub decreases-loop-literal : goal.decreases-loop-literal
decreases-loop-literal l = length l.self.trail.entries
