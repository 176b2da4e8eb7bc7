use Rattle.std.proofs.Common.{◌+◌, ◌∙◌, length, ap, refl, arith}
use Rattle.nz_sort.specs.Live.{asserted_by}
use Rattle.nz_sort.specs.Layers.{Layer}
use Rattle.nz_session.proofs.ToldAssertions.{asserted_count, told_count, told_cut, told_popped}
use Rattle.nz_session.proofs.told.pop_told.Goals as goal

pub returns-then-told-count-clause-told : goal.returns-then-told-count-clause-told
returns-then-told-count-clause-told g c =
    let live = c.args.live.now in
    let long = asserted_count live c.below.result.now c.below.ensures.below in
    told_cut (g.E.Decide.levels c.args.engine.now) c.args.told.now c.requires.told.0 (asserted_by live) c.requires.told.2 (omega (arith, long, c.if-told-count.true)) c.requires.told.1

pub pop-requires : goal.pop-requires
pop-requires g c =
    let many = told_count (g.E.Decide.levels c.args.engine.now) c.args.told.now c.requires.told.0 c.requires.told.1 in
    omega (arith, many)

pub returns-clause-told : goal.returns-clause-told
returns-clause-told g c =
    let live = c.args.live.now in
    let long = asserted_count live c.below.result.now c.below.ensures.below in
    let last = ap length (c.assertions.ensures.assertions ∙ ap (λ (l : Layer). l.assertions) c.top.ensures.top) in
    told_popped (g.E.Decide.levels c.args.engine.now) (g.E.Decide.levels c.pop.new.self) c.args.told.now _ c.requires.told.0 live (length c.below.result.now + 1) c.requires.told.2 c.requires.told.1 long
    (omega (arith, c.if-told-count.false)) c.pop.ensures.rest refl last
