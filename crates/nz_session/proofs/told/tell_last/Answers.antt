use Rattle.std.proofs.Common.{◌∙◌, [], ◌∷◌, ◌++◌, length, map, take, get_or, ap, arith, length-append}
use Rattle.std.proofs.lemmas.List.{length-map}
use Rattle.nz_sort.specs.Items.{table_numbers}
use Rattle.nz_session.specs.Assumed.{IsTakenAt}
use Rattle.nz_session.specs.Told.{only_asserted}
use Rattle.nz_session.proofs.ToldAssertions.{item_has, numbers_more}
use Rattle.nz_session.proofs.ToldLevels.{added_to_last}
use Rattle.nz_session.proofs.told.tell_last.Goals as goal

pub add-requires : goal.add-requires
add-requires g c =
    let items = c.args.assertions.now in
    let n = c.loop-told.told.last in
    let first = c.requires.first in
    let told = first.0 ++ take n (table_numbers items) ∷ [] in
    let has = c.loop-told.invariant.has first.0 first.1 in
    record {
      some = omega (arith, ap length has, length-map told only_asserted, length-append first.0 (take n (table_numbers items) ∷ []));
      within = (item_has (IsTakenAt c.args.terms.now) items n (record { number = 0; term = 0 }) c.requires.taken c.loop-told-test.true).0;
    }

pub loop-told-preserved : goal.loop-told-preserved
loop-told-preserved g c =
    let items = c.args.assertions.now in
    let ns = c.args.terms.now in
    let n = c.loop-told.told.last in
    let id = (get_or items n (record { number = 0; term = 0 })).term in
    let taken = item_has (IsTakenAt ns) items n (record { number = 0; term = 0 }) c.requires.taken c.loop-told-test.true in
    record {
      has = λ before e.
          added_to_last ns id taken.1.boolean before (take n (table_numbers items)) _ _ (c.loop-told.invariant.has before e) c.in_ok-add.ensures.ok
          ∙ ap (λ l. map only_asserted (before ++ l ∷ [])) (numbers_more items n (record { number = 0; term = 0 }) c.loop-told-test.true);
      within = omega arith;
      count = c.loop-told.invariant.count;
      table = c.in_ok-add.ensures.table ∙ c.loop-told.invariant.table;
      begins = λ ts h. c.in_ok-add.ensures.begins ts (c.loop-told.invariant.begins ts h);
    }
