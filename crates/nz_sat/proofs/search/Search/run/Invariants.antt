use Rattle.std.proofs.Common.{◌-◌, ℕ, None, Ok, Option}
use Rattle.nz_spec.specs.search.Work.{unit_count}
use Rattle.nz_sat.specs.Searching.{Advances, Runs, assumed_entries}
use Rattle.nz_sat.specs.Theories.{IsMet, state_of}
use Rattle.nz_sat.proofs.search.Search.run.Given as goal

abbrev pub invariant-loop-atom : goal.invariant-loop-atom
invariant-loop-atom g l =
    record {
      advances : Advances {A = Option ℕ} (state_of g.T.Theory.is_over g.T.Theory.has_told g.T.Theory.is_feasible g.T.Theory.is_of g.T.Theory.is_at l.fn.theory)
          (state_of g.T.Theory.is_over g.T.Theory.has_told g.T.Theory.is_feasible g.T.Theory.is_of g.T.Theory.is_at l.theory) l.fn.self (assumed_entries l.assumed) l.fn.log l.log l.fn.held.items l.held.items
          l.fn.work l.work (Ok None);
      runs : Runs l.log l.held.items l.assumed l.fn.self l.self l.work;
      met : IsMet (state_of g.T.Theory.is_over g.T.Theory.has_told g.T.Theory.is_feasible g.T.Theory.is_of g.T.Theory.is_at l.theory) l.self.bounds l.self.trail.entries;
    }

abbrev pub decreases-loop-atom : goal.decreases-loop-atom
decreases-loop-atom g l = l.work.limit - unit_count l.work.lines
