use Rattle.std.proofs.Common.{arith}
use Rattle.std.proofs.lemmas.Result.{err_from_is_err_and}
use Rattle.nz_elaborate.proofs.TableGrowth.{push_within}
use Rattle.nz_elaborate.proofs.DefinitionUses.{placed_next, placed_none, placed_all, placed_count}
use Rattle.nz_elaborate.proofs.meanings.place_all.Goals as goal

pub returns-then-sorts-arguments-clause-refused : goal.returns-then-sorts-arguments-clause-refused
returns-then-sorts-arguments-clause-refused c = λ err. placed_count c.args.terms.now c.args.sorts.now c.args.arguments.now c.if-sorts-arguments.true

pub returns-in_err-id-clause-refused : goal.returns-in_err-id-clause-refused
returns-in_err-id-clause-refused c = λ err.
    (let p = err_from_is_err_and c.from_residual-in_err-id.result c.from_residual-in_err-id.ensures.1 in
    placed_none c.args.terms.now c.args.sorts.now c.args.arguments.now c.loop-i.i _ _ (omega arith) (omega arith) (c.in_err-id.ensures.refused cc))

pub loop-i-preserved : goal.loop-i-preserved
loop-i-preserved c =
    let before = c.loop-i.invariant in
    record {
      grown = c.grows_twice.ensures.twice _ _ _ before.grown c.in_ok-id.ensures.grows;
      within = push_within c.loop-i.terms c.place.new.terms c.loop-i.ids.items c.push.new.self.items c.in_ok-id.id c.in_ok-id.ensures.grows before.within c.in_ok-id.ensures.within c.in_ok-push.ensures.items;
      placed = placed_next c.args.terms.now c.loop-i.terms c.place.new.terms c.args.sorts.now c.args.arguments.now c.loop-i.i c.in_ok-id.id _ _ c.loop-i.ids.items c.push.new.self.items
          before.grown c.in_ok-id.ensures.grows (omega arith) (omega arith) c.in_ok-push.ensures.items before.placed c.in_ok-id.ensures.placed;
    }

pub returns-clause-placed : goal.returns-clause-placed
returns-clause-placed c =
    placed_all c.args.terms.now c.loop-i.terms c.args.sorts.now c.args.arguments.now c.loop-i.i c.loop-i.ids.items (omega arith) (omega arith) c.loop-i.invariant.placed
