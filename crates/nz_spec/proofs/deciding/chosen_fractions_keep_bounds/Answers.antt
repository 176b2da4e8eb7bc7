-- The law, as it is proved over plain data.
use Rattle.nz_spec.proofs.ChosenFractions as laws
use Rattle.nz_spec.proofs.deciding.chosen_fractions_keep_bounds.Goals as goal

pub returns : goal.returns
returns c = record { keep = laws.chosen_fractions_keep_bounds }
