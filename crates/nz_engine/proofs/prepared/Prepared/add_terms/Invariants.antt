-- What is prepared stays so, and a term that has no clauses yet gets them.
use Rattle.std.proofs.Common.{◌≡◌, ◌+◌, ◌-◌}
use Rattle.nz_search.specs.Levels.{added_by_level, asserted_by_level, numbers_by_level}
use Rattle.nz_engine.specs.Levels.{count_of}
use Rattle.nz_engine.specs.Keeping.{KeepsClauses}
use Rattle.nz_engine.specs.Preparing.{IsPrepared}
use Rattle.nz_engine.proofs.prepared.Prepared.add_terms.Given as goal

abbrev pub invariant-loop-kind : goal.invariant-loop-kind
invariant-loop-kind l =
    record {
      prepared : IsPrepared l.terms l.levels (added_by_level l.levels) l.self;
      keeps : KeepsClauses l.fn.self l.self;
      theory : l.self.sat.theory ≡ l.fn.self.sat.theory;
    }

abbrev pub decreases-loop-kind : goal.decreases-loop-kind
decreases-loop-kind l = count_of (asserted_by_level l.levels) - l.self.given + (count_of (numbers_by_level l.levels) - l.self.numbered)
