use Rattle.std.proofs.Common.{rules}
use Rattle.nz_engine.proofs.prepared.search.go_under.Goals as goal

pub returns-clause-under : goal.returns-clause-under
returns-clause-under c = record { literals = c.in_ok-literals.literals; items = search rules; line = search rules }
