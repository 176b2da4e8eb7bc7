-- The law, as it is proved over plain data.
use Rattle.nz_spec.proofs.PlainAtoms as laws
use Rattle.nz_spec.proofs.work.plain_atoms_are_one.Goals as goal

pub returns : goal.returns
returns c = record { one = laws.plain_atoms_are_one }
