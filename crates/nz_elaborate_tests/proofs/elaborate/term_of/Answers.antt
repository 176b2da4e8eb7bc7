use Rattle.nz_elaborate.specs.Names.{nothing_declared}
use Rattle.nz_elaborate_tests.proofs.elaborate.term_of.Goals as goal

pub elaborate-requires : goal.elaborate-requires
elaborate-requires c = record { scope = (nothing_declared, c.in_ok-names.ensures.operators _) }
