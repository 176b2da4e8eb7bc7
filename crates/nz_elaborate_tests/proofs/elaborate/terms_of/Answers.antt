use Rattle.nz_elaborate.specs.Names.{nothing_declared}
use Rattle.nz_elaborate_tests.proofs.elaborate.terms_of.Goals as goal

pub elaborate_all-requires : goal.elaborate_all-requires
elaborate_all-requires c = record { scope = (nothing_declared, c.in_ok-names.ensures.operators _) }
