use Rattle.nz_script.proofs.Examples.{example_is_transcript, example_output_is}
use Rattle.nz_script.proofs.worked.worked_example.Goals as goal

pub returns : goal.returns
returns c = record { transcript = example_is_transcript; output = example_output_is }
