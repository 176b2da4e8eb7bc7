-- The law, as it is proved over plain data.
use Rattle.nz_spec.proofs.BlandTells as laws
use Rattle.nz_spec.proofs.basis.rows_tell.Goals as goal

pub returns : goal.returns
returns c = record { tell = laws.rows_tell }
