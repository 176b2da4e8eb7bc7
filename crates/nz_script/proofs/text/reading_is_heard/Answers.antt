use Rattle.nz_script.proofs.ToldTexts.{reading_is_heard as law}
use Rattle.nz_script.proofs.text.reading_is_heard.Goals as goal

pub returns : goal.returns
returns c = record { heard = law }
