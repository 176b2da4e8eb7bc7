use Rattle.nz_sat_tests.proofs.HeldClauses.{joined_posed, put_posed}
use Rattle.nz_sat_tests.proofs.problem.Held.give.Goals as goal

pub invariant_of-self : goal.invariant_of-self
invariant_of-self c = joined_posed c.self.inside.log c.given.new.self c.self.inside.sat c.self.inside.atoms.items c.in_err-clause.ensures.unchanged c.self.invariant

pub invariant_of-self-2 : goal.invariant_of-self-2
invariant_of-self-2 c = put_posed c.self.inside.log c.given.new.self c.self.inside.sat c.self.inside.atoms.items _ _ c.in_ok-clause.ensures.made c.self.invariant
