use Rattle.nz_term.specs.Nodes.{node_with}
use Rattle.nz_engine_tests.proofs.Growth.{made_in_order}
use Rattle.nz_engine_tests.proofs.bench.Bench.put.Goals as goal

-- whether there was memory for the term or not
pub invariant_of-self : goal.invariant_of-self
invariant_of-self c =
    made_in_order c.self.inside.terms c.make.new.self (node_with c.args.head c.args.kids.now) c.self.inside.engine c.self.inside.depth c.make.result c.make.ensures.grown c.make.ensures.stays
    c.make.ensures.unchanged c.self.invariant
