use Rattle.nz_script.proofs.Readings.{one_reading as law}
use Rattle.nz_script.proofs.text.one_reading.Goals as goal

pub returns : goal.returns
returns c = record { one = law }
