use Rattle.std.proofs.Common.{sym}
use Rattle.nz_command.proofs.Members.{not_listed, is_listed, listed_nowhere}
use Rattle.nz_command.proofs.names.listed_with.Goals as goal

pub returns-then-eq : goal.returns-then-eq
returns-then-eq g c =
    record { listed = is_listed c.args.table.now c.loop-listed.listed-index c.loop-listed-item.result c.args.word.now _ c.loop-listed-test.true c.loop-listed-item.is c.loop-listed.invariant (sym c.if-eq.ensures) }

pub loop-listed-preserved : goal.loop-listed-preserved
loop-listed-preserved g c =
    not_listed c.args.table.now c.loop-listed.listed-index c.loop-listed-item.result c.args.word.now _ c.loop-listed-test.true c.loop-listed-item.is c.loop-listed.invariant (sym c.if-eq.ensures)

pub returns : goal.returns
returns g c = record { listed = listed_nowhere c.args.table.now c.loop-listed.listed-index c.args.word.now _ c.loop-listed.invariant c.loop-listed-test.false }
