-- The law, as it is proved over plain data.
use Rattle.nz_spec.proofs.FamilyLines as laws
use Rattle.nz_spec.proofs.climb.lines_tell.Goals as goal

pub returns : goal.returns
returns c = record { tell = laws.lines_tell }
