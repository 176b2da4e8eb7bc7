use Rattle.std.proofs.Common.{◌≡◌, ◌+◌, ◌<◌, ◌∙◌, ℕ, List, Some, length, map, get_or, ap, sym, subst, arith}
use Rattle.std.specs.Prelude.{slice_get}
use Rattle.nz_sort.specs.declared.items.Accepted.{Accepted}
use Rattle.nz_sort.specs.declared.levels.Level.{Level}
use Rattle.nz_sort.specs.Items.{table_numbers}
use Rattle.nz_sort.specs.Layers.{Layer, layer_of}
use Rattle.nz_sort.specs.Live.{Standing, asserted_by}
use Rattle.nz_session.specs.declared.told.ToldExtent.{ToldExtent}
use Rattle.nz_session.specs.Assumed.{IsTakenAt}
use Rattle.nz_session.specs.Told.{IsTold}
use Rattle.nz_session.proofs.ToldAssertions.{asserted_count, below_count, told_few, level_at, top_at, tells_from, tells_more, tells_next}
use Rattle.nz_session.proofs.ToldLevels.{all_in_level}
use Rattle.nz_session.proofs.told.tell.Goals as goal

-- the level at the place of a turn
level_here : (l : Standing) (below : List Level) (place : ℕ) (x : Level) (items : List Accepted) → map layer_of below ≡ l.below → place < length below → x ≡ get_or below place x → items ≡ (layer_of x).assertions
    → slice_get (asserted_by l) place ≡ Some (table_numbers items)
level_here l below place x items e inside is are = level_at l below place x e inside is ∙ ap (λ xs. Some (table_numbers xs)) (sym are)

-- the newest level
top_here : (l : Standing) (items : List Accepted) → items ≡ l.top.assertions → slice_get (asserted_by l) (length l.below) ≡ Some (table_numbers items)
top_here l items are = top_at l ∙ ap (λ xs. Some (table_numbers xs)) (sym are)

pub tell_last-requires : goal.tell_last-requires
tell_last-requires g c =
    let live = c.args.live.now in
    let place = c.loop-place.place in
    let items = c.assertions.result.now in
    let at : slice_get (asserted_by live) place ≡ Some (table_numbers items) =
    level_here live c.below-below.result.now place c.index-below-place.result items c.below-below.ensures.below c.loop-place-test.true c.index-below-place.is c.assertions.ensures.assertions in
    record {
      first = tells_from (g.E.Decide.levels c.loop-place.engine) c.loop-place.told (asserted_by live) place items c.loop-place.invariant.count at c.loop-place.invariant.told;
      taken = all_in_level (IsTakenAt c.args.terms.now) (asserted_by live) place (table_numbers items) at c.requires.taken;
    }

pub loop-place-preserved : goal.loop-place-preserved
loop-place-preserved g c =
    let live = c.args.live.now in
    let place = c.loop-place.place in
    let items = c.assertions.result.now in
    let long = asserted_count live c.below-below.result.now c.below-below.ensures.below in
    let at : slice_get (asserted_by live) place ≡ Some (table_numbers items) =
    level_here live c.below-below.result.now place c.index-below-place.result items c.below-below.ensures.below c.loop-place-test.true c.index-below-place.is c.assertions.ensures.assertions in
    let begun = c.in_ok-begin_level.ensures.begun in
    record {
      told = tells_next (g.E.Decide.levels c.loop-place.engine) c.loop-place.told (asserted_by live) place items c.loop-place.invariant.count at c.loop-place.invariant.told
          (g.E.Decide.levels c.tell_last.new.engine) (g.E.Decide.levels c.begin_level.new.engine) c.tell_last.new.told c.begin_level.new.told c.tell_last.ensures.told c.in_ok-tell_last.ensures.all c.tell_last.ensures.count
          (omega (arith, long)) begun;
      count = begun.count ∙ ap (λ n. n + 1) (c.tell_last.ensures.count ∙ c.loop-place.invariant.count);
      table = c.begin_level.ensures.table ∙ c.tell_last.ensures.table ∙ c.loop-place.invariant.table;
      begins = λ ts h. c.begin_level.ensures.begins ts (c.tell_last.ensures.begins ts (c.loop-place.invariant.begins ts h));
    }

pub returns-in_err-tell_last-clause-told : goal.returns-in_err-tell_last-clause-told
returns-in_err-tell_last-clause-told g c =
    let live = c.args.live.now in
    let place = c.loop-place.place in
    let items = c.assertions.result.now in
    let at = level_here live c.below-below.result.now place c.index-below-place.result items c.below-below.ensures.below c.loop-place-test.true c.index-below-place.is c.assertions.ensures.assertions in
    tells_more (g.E.Decide.levels c.loop-place.engine) c.loop-place.told (asserted_by live) place items c.loop-place.invariant.count at c.loop-place.invariant.told
    (g.E.Decide.levels c.tell_last.new.engine) c.tell_last.new.told c.tell_last.ensures.told c.tell_last.ensures.within c.tell_last.ensures.count

pub returns-in_err-begin_level-clause-told : goal.returns-in_err-begin_level-clause-told
returns-in_err-begin_level-clause-told g c =
    let live = c.args.live.now in
    let place = c.loop-place.place in
    let items = c.assertions.result.now in
    let at = level_here live c.below-below.result.now place c.index-below-place.result items c.below-below.ensures.below c.loop-place-test.true c.index-below-place.is c.assertions.ensures.assertions in
    let same = c.in_err-begin_level.ensures.unchanged in
    let mid = tells_more (g.E.Decide.levels c.loop-place.engine) c.loop-place.told (asserted_by live) place items c.loop-place.invariant.count at c.loop-place.invariant.told
    (g.E.Decide.levels c.tell_last.new.engine) c.tell_last.new.told c.tell_last.ensures.told c.tell_last.ensures.within c.tell_last.ensures.count in
    subst (λ ls. IsTold ls c.begin_level.new.told (asserted_by live)) (sym same.0) (subst (λ (t : ToldExtent). IsTold (g.E.Decide.levels c.tell_last.new.engine) t (asserted_by live)) (sym same.1) mid)

pub tell_last-requires-2-clause-taken : goal.tell_last-requires-2-clause-taken
tell_last-requires-2-clause-taken g c =
    let live = c.args.live.now in
    let items = c.assertions-2.result.now in
    let all : items ≡ live.top.assertions = c.assertions-2.ensures.assertions ∙ ap (λ (l : Layer). l.assertions) c.top.ensures.top in
    all_in_level (IsTakenAt c.args.terms.now) (asserted_by live) (length live.below) (table_numbers items) (top_here live items all) c.requires.taken

pub returns-clause-told : goal.returns-clause-told
returns-clause-told g c =
    let live = c.args.live.now in
    let items = c.assertions-2.result.now in
    let all : items ≡ live.top.assertions = c.assertions-2.ensures.assertions ∙ ap (λ (l : Layer). l.assertions) c.top.ensures.top in
    let long = asserted_count live c.below-below.result.now c.below-below.ensures.below in
    let below = below_count live c.below-below.result.now c.below-below.ensures.below in
    let few = told_few (g.E.Decide.levels c.loop-place.engine) c.loop-place.told (asserted_by live) c.loop-place.invariant.told in
    let count = c.loop-place.invariant.count in
    let last : c.loop-place.place ≡ length live.below = omega (arith, long, below, few, count, c.loop-place-test.false) in
    tells_more (g.E.Decide.levels c.loop-place.engine) c.loop-place.told (asserted_by live) (length live.below) items (count ∙ ap (λ n. n + 1) last) (top_here live items all) c.loop-place.invariant.told
    (g.E.Decide.levels c.tell_last-2.new.engine) c.tell_last-2.new.told c.tell_last-2.ensures.told c.tell_last-2.ensures.within c.tell_last-2.ensures.count
