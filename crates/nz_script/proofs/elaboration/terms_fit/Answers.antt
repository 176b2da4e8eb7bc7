use Rattle.nz_script.proofs.Roots as laws
use Rattle.nz_script.proofs.elaboration.terms_fit.Goals as goal

pub returns : goal.returns
returns c = record { fits = laws.terms_fit c.sorts_tell.ensures.tell }
