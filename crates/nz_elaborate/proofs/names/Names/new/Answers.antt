use Rattle.std.proofs.Common.{refl}
use Rattle.nz_elaborate.proofs.OperatorNames.{fresh_here, fresh_next, added_next, operators_scope}
use Rattle.nz_elaborate.proofs.names.Names.new.Goals as goal

pub insert-requires : goal.insert-requires
insert-requires c =
    fresh_here _ c.loop-word.word-index _ c.loop-word.names c.in_ok-name.name c.loop-word-test.true c.in_ok-name.ensures.bytes c.loop-word.invariant.added c.loop-word.invariant.fresh

pub loop-word-preserved : goal.loop-word-preserved
loop-word-preserved c =
    record {
      added = added_next _ c.loop-word.word-index _ c.loop-word.names c.insert.new.self c.in_ok-name.name _ c.loop-word-test.true c.in_ok-name.ensures.bytes refl c.loop-word.invariant.added
          c.in_ok-insert.ensures.added;
      fresh = fresh_next _ c.loop-word.word-index _ c.in_ok-name.name c.loop-word-test.true c.in_ok-name.ensures.bytes c.loop-word.invariant.fresh;
      table = c.loop-word.invariant.table;
    }

pub returns : goal.returns
returns c =
    record {
      operators = λ ns. operators_scope ns _ c.loop-word.word-index c.loop-word.names c.loop-word-test.false c.loop-word.invariant.table c.loop-word.invariant.added;
    }
