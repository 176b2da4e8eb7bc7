-- The law, as it is proved over plain data.
use Rattle.nz_spec.proofs.LegalWork as laws
use Rattle.nz_spec.proofs.work.pivots_are_legal.Goals as goal

pub returns : goal.returns
returns c = record { legal = laws.pivots_are_legal }
