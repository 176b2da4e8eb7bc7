-- No clause is kept.
use Rattle.nz_sat.proofs.KeptClauses.{none_kept}
use Rattle.nz_sat.proofs.kept.Kept.none.Goals as goal

pub returns : goal.returns
returns c = record { kept = λ s held. none_kept c.new.result c.new-2.result c.new.ensures.none c.new.ensures.head c.new.ensures.watched s held }
