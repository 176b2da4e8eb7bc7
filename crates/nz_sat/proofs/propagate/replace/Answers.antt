-- One key is written.
use Rattle.slab.proofs.SlabLemmas.{Updates-with_value}
use Rattle.nz_sat.proofs.propagate.replace.Goals as goal

pub returns : goal.returns
returns c = record { updates = Updates-with_value c.args.clauses.now c.args.key c.args.clause c.requires.there }
