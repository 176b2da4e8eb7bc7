-- The law, as it is proved over plain data.
use Rattle.nz_log.proofs.LiteralSets.{lit_same, same_lit}
use Rattle.nz_log.proofs.LiteralAgreement.{literals_agree}
use Rattle.nz_log.proofs.laws.tells_lits.Goals as goal

pub returns : goal.returns
returns c = record {
  tells = record { same = same_lit; one = lit_same; agree = literals_agree c.tells_literals.ensures.tells c.one_number.ensures.one };
}
