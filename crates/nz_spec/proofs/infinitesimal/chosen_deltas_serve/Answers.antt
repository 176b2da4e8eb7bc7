-- The law, as it is proved over plain data.
use Rattle.nz_spec.proofs.InfinitesimalLaws as laws
use Rattle.nz_spec.proofs.infinitesimal.chosen_deltas_serve.Goals as goal

pub returns : goal.returns
returns c = record { least = laws.chosen-least; above_zero = laws.chosen-above; keeps_order = laws.chosen-keeps }
