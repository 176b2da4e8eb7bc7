-- All clauses are kept.
use Rattle.nz_sat.proofs.KeptClauses.{all_kept}
use Rattle.nz_sat.proofs.search.Search.rest.Goals as goal

pub returns : goal.returns
returns c = record { kept = λ s held long holds. all_kept s held c.args.self.propagation c.cut.new.self c.args.self.order c.args.count long c.cut.ensures.cut holds }
