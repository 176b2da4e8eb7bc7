-- A reason is a live clause.
use Rattle.nz_sat.proofs.ConflictChains.{reason_live}
use Rattle.nz_sat.proofs.redundancy.Redundancy.+is_covered.Goals as goal

pub clause-literal-items-requires : goal.clause-literal-items-requires
clause-literal-items-requires t c =
    let w = c.in-Some-true.ensures.reason in
    record { live = reason_live c.args.log.now c.args.trail.now.entries c.requires.implied c.args.atom w.0 c.in-Some-true.clause w.1 w.2 }
