-- No clause is kept.
use Rattle.nz_sat.proofs.sat.Sat.new.Goals as goal

pub invariant_of-result : goal.invariant_of-result
invariant_of-result g c log = c.none.ensures.kept log c.new.result.items
