use Rattle.nz_elaborate.specs.Names.{nothing_declared}
use Rattle.nz_elaborate_tests.proofs.elaborate.definition_of.Goals as goal

pub elaborate_body-requires : goal.elaborate_body-requires
elaborate_body-requires c = record { scope = (nothing_declared, c.in_ok-names.ensures.operators _) }
