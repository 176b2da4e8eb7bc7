use Rattle.nz_engine.proofs.GoneFrom.{engines_stand}
use Rattle.nz_engine.proofs.laws.engines_stand.Goals as goal

pub returns : goal.returns
returns c = record { stand = engines_stand c.theories_restart.ensures.restart }
