-- The law, as it is proved over plain data.
use Rattle.nz_spec.proofs.NormalSorts as laws
use Rattle.nz_spec.proofs.term.normal_stays_sorted.Goals as goal

pub returns : goal.returns
returns c = record { stays = laws.normal_stays_sorted }
