-- The law, as it is proved over plain data.
use Rattle.nz_spec.proofs.Decimals as laws
use Rattle.nz_spec.proofs.term.numerals_are_whole.Goals as goal

pub returns : goal.returns
returns c = record { whole = laws.numerals_are_whole }
