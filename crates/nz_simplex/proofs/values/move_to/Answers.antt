-- One form more, and then the one that moves.
use Rattle.std.proofs.Common.{rules, ◌≡◌, ℕ, ◌<◌, ◌≤◌, ◌⊎◌, inl, inr, length, get_or, Option, Some, None, Bool, true, false, sym, ap, subst, ◌∙◌, arith}
use Rattle.std.specs.Prelude.{◌≢◌}
use Rattle.std.proofs.lemmas.List.{get_or_read, get_or-set_other}
use Rattle.nz_lists.proofs.Numbers.{below_or_past}
use Rattle.nz_simplex.specs.Choices.{IsAfter, IsFollowed}
use Rattle.nz_simplex.specs.Tabled.{marks_in, rows_in}
use Rattle.nz_simplex.proofs.ValueUpdates.{IsDistance, followed_after}
use Rattle.nz_simplex.proofs.Places.{taken_more, rest_more}
use Rattle.nz_simplex.proofs.values.move_to.Goals as goal

pub loop-form-preserved : goal.loop-form-preserved
loop-form-preserved g c =
    let S = g.row.S.Denot in
    let stands = g.S.Coordinate.stands_for in
    let old = c.args.values.now in
    let now = c.loop-form.values in
    let i = c.loop-form.form in
    let P : ℕ → Option S → Option S → Type 0 = λ k x y. IsAfter stands (get_or (marks_in c.args.tab.now) k false) c.distance-distance.result (rows_in c.args.tab.now k c.args.var) x y in
    let inside : i < length now = search rules in
    let read : c.index-values-form.result ≡ get_or old i None =
    get_or_read now i c.index-values-form.result inside c.index-values-form.is None ∙ c.loop-form.invariant.rest i (omega arith) in
    let last : P i (get_or old i None) c.value_after.result = subst (λ (o : Option S). P i o c.value_after.result) read c.value_after.ensures.after in
    record {
      done = taken_more P old now i c.value_after.result None inside c.loop-form.invariant.rest c.loop-form.invariant.done last;
      rest = rest_more P old now i c.value_after.result None inside c.loop-form.invariant.rest;
    }

pub returns-clause-stays : goal.returns-clause-stays
returns-clause-stays g c =
    λ k other marked. get_or-set_other c.loop-form.values c.args.var k (Some c.args.target) None other ∙ by_place k marked (below_or_past k c.loop-form.form)
  where
    by_place : (k : ℕ) → get_or (marks_in c.args.tab.now) k false ≡ true → (k < c.loop-form.form) ⊎ (c.loop-form.form ≤ k)
        → get_or c.loop-form.values k None ≡ get_or c.args.values.now k None
    by_place k marked (inl below) = (c.loop-form.invariant.done k below).stays marked
    by_place k marked (inr past) = c.loop-form.invariant.rest k past

pub returns-clause-follows : goal.returns-clause-follows
returns-clause-follows g c =
    λ k inside basic.
    let S = g.row.S.Denot in
    let stands = g.S.Coordinate.stands_for in
    let from = get_or c.args.values.now c.args.var None in
    let old = get_or c.args.values.now k None in
    let coefficient = rows_in c.args.tab.now k c.args.var in
    let read : c.index-values-var.result ≡ from = get_or_read c.args.values.now c.args.var c.index-values-var.result (search rules) c.index-values-var.is None in
    let other : k ≢ c.args.var = λ e. apart (sym basic ∙ ap (λ (n : ℕ). get_or (marks_in c.args.tab.now) n false) e ∙ c.requires.nonbasic) in
    let after : IsAfter stands false c.distance-distance.result coefficient old (get_or c.loop-form.values k None) =
    subst (λ (m : Bool). IsAfter stands m c.distance-distance.result coefficient old (get_or c.loop-form.values k None)) basic (c.loop-form.invariant.done k (omega (arith, inside))) in
    subst (λ (o : Option S). IsFollowed stands from c.args.target coefficient old o) (sym (get_or-set_other c.loop-form.values c.args.var k (Some c.args.target) None other))
    (followed_after c.infinitesimals_move.ensures.moves stands c.args.target from c.distance-distance.result coefficient old (get_or c.loop-form.values k None) c.requires.some
    (subst (λ (o : Option S). IsDistance stands c.args.target o c.distance-distance.result) read c.distance-distance.ensures.distance) after)
  where
    apart : false ≡ true → ⊥
    apart e = cc
