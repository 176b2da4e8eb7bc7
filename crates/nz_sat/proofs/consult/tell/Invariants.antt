use Rattle.std.proofs.Common.{◌-◌, Ok, None, length}
use Rattle.nz_sat.specs.Theories.{Consults, state_of}
use Rattle.nz_sat.proofs.consult.tell.Given as goal

-- the theory was told the bounds up to a place
abbrev pub invariant-loop-bounds : goal.invariant-loop-bounds
invariant-loop-bounds g l =
    Consults
    (state_of g.T.Theory.is_over g.T.Theory.has_told g.T.Theory.is_feasible g.T.Theory.is_of g.T.Theory.is_at l.fn.theory)
    (state_of g.T.Theory.is_over g.T.Theory.has_told g.T.Theory.is_feasible g.T.Theory.is_of g.T.Theory.is_at l.theory) l.fn.log l.log l.atoms l.fn.bounds l.bounds l.trail l.fn.work l.work (Ok None)

abbrev pub decreases-loop-bounds : goal.decreases-loop-bounds
decreases-loop-bounds g l = length l.trail.entries - l.bounds.told
