use Rattle.std.proofs.Common.{◌-◌}
use Rattle.nz_spec.specs.search.Work.{unit_count}
use Rattle.nz_sat.specs.Theories.{state_of}
use Rattle.nz_sat.proofs.TheoryAnswers.{IsSettling}
use Rattle.nz_sat.proofs.search.Search.settle.Given as goal

-- all was propagated and the theory meets the trail, or there is a conflict that is to be learned from
abbrev pub invariant-loop-conflict : goal.invariant-loop-conflict
invariant-loop-conflict g l =
    IsSettling (state_of g.T.Theory.is_over g.T.Theory.has_told g.T.Theory.is_feasible g.T.Theory.is_of g.T.Theory.is_at l.fn.theory)
    (state_of g.T.Theory.is_over g.T.Theory.has_told g.T.Theory.is_feasible g.T.Theory.is_of g.T.Theory.is_at l.theory) l.fn.self l.self l.fn.log l.log l.fn.held.items l.held.items l.fn.work l.work
    l.conflict

abbrev pub decreases-loop-conflict : goal.decreases-loop-conflict
decreases-loop-conflict g l = l.work.limit - unit_count l.work.lines
