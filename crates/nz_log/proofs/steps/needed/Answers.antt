-- The clause of this number is done too.
use Rattle.std.proofs.Common.{◌≡◌, ℕ, ◌-◌, ◌<◌, suc, true, false, length, arith, subst, sym, ◌∙◌}
use Rattle.nz_log.proofs.MarkUpdates.{same_get}
use Rattle.nz_log.specs.Spelling.{is_marked}
use Rattle.nz_log.specs.Stored.{entry_of}
use Rattle.nz_log.proofs.ClauseDependencies.{done_step, IsDone}
use Rattle.nz_log.proofs.steps.needed.Goals as goal

pub loop-i-preserved-then-index : goal.loop-i-preserved-then-index
loop-i-preserved-then-index c =
    let i = c.loop-i.i - 1 in
    let next : suc i ≡ c.loop-i.i = omega arith in
    let P : ℕ → Type 0 = λ n. IsDone c.args.log.now c.args.id c.loop-i.marks.items n in
    let m = c.mark_origin.ensures in
    let within : i < length c.loop-i.marks.items = omega (arith, c.loop-i.invariant.long, c.stored.ensures.inside) in
    let here : is_marked c.loop-i.marks.items i ≡ true = same_get c.loop-i.marks.items i false c.index.result.now within ∙ sym c.index.ensures ∙ c.if-index.true in
    done_step c.args.log.now c.args.id i c.loop-i.marks.items c.mark_origin.new.marks.items (entry_of c.stored-then-index.result.now)
    c.stored-then-index.ensures.stored c.stored-then-index.ensures.rests here m.long m.kept m.marked m.only
    (subst P (sym next) c.loop-i.invariant)
