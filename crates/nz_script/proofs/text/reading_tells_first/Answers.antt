use Rattle.nz_script.proofs.ToldTexts.{reading_tells_first as law}
use Rattle.nz_script.proofs.text.reading_tells_first.Goals as goal

pub returns : goal.returns
returns c = record { first = law }
