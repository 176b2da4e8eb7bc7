-- The law, as it is proved over plain data.
use Rattle.nz_spec.proofs.Tables as laws
use Rattle.nz_spec.proofs.table.term_stays_in_front.Goals as goal

pub returns : goal.returns
returns c = record { stays = laws.term_stays_in_front }
