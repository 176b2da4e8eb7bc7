use Rattle.std.proofs.Common.{◌≡◌, ◌<◌, ◌≤◌, get_or, length, Some, sym, ap, ◌∙◌, arith, add-one, rules}
use Rattle.std.specs.Prelude.{slice_get}
use Rattle.std.proofs.lemmas.Option.{slice_get-get_or}
use Rattle.nz_engine.specs.Levels.{by_level, levels_of}
use Rattle.nz_engine.proofs.TermsByLevel.{count_next, level_at, level_count}
use Rattle.nz_engine.proofs.AssertionPlaces.{placed_here}
use Rattle.nz_engine.proofs.levels.placed_in.Goals as goal

pub returns-in-Some-clause-placed : goal.returns-in-Some-clause-placed
returns-in-Some-clause-placed c =
    let kind = c.args.kind in
    let levels = c.args.levels.now in
    let k = c.loop-level.level in
    let terms = c.of_kind-terms.result.now in
    let size = level_count kind levels in
    let below : k < length levels = c.loop-level-test.true in
    let own = level_at kind levels k c.index-levels-level.result below c.index-levels-level.is in
    let inside : c.loop-level.left < length terms = search rules in
    let is : c.in-Some.term.now ≡ get_or terms c.loop-level.left c.in-Some.term.now = search rules in
    let found : slice_get terms c.loop-level.left ≡ Some c.in-Some.term.now =
    slice_get-get_or terms c.loop-level.left c.in-Some.term.now inside ∙ ap Some (sym is) in
    placed_here (by_level kind (levels_of levels)) c.args.place k c.loop-level.left (omega (arith, below, size)) c.loop-level.invariant c.in-Some.term.now
    (ap (λ xs. slice_get xs c.loop-level.left) (own ∙ sym c.of_kind-terms.ensures.terms) ∙ found)

pub loop-level-preserved : goal.loop-level-preserved
loop-level-preserved c =
    let next = count_next c.args.kind c.args.levels.now c.loop-level.level c.index-levels-level.result c.loop-level-test.true c.index-levels-level.is in
    let terms = c.of_kind-terms.result.now in
    let past : length terms ≤ c.loop-level.left = search rules in
    let before = c.loop-level.invariant in
    let same = ap length c.of_kind-terms.ensures.terms in
    rw add-one (omega (arith, next, before, past, same))
