use Rattle.std.proofs.Common.{List, ◌+◌, pos, subst, map, drop, refl, ap, sym, ◌∙◌}
use Rattle.std.proofs.lemmas.Result.{err_from_is_err_and}
use Rattle.nz_lists.proofs.Places.{drop_read}
use Rattle.nz_fractions.specs.Fraction.{Fraction, whole, first_wide, ◌<ℚ◌, ◌≤ℚ◌}
use Rattle.nz_spec.specs.numbers.Infinitesimal.{IsLeastLimit, AreOrderedAt, limits, least_from, delta_operations}
use Rattle.nz_delta.specs.declared.delta.Delta.{Delta}
use Rattle.nz_delta.specs.Pairs.{pair_of}
use Rattle.nz_delta.proofs.WideLemmas.{refused_is}
use Rattle.nz_delta.proofs.LimitLemmas.{limits-cons, operations-cons_none, operations-cons_some, chosen_from, ended, ended_operations}
use Rattle.nz_delta.proofs.choose.choose_delta.Goals as goal

pub loop-pair-init : goal.loop-pair-init
loop-pair-init c =
    record {
      value = chosen_from (map pair_of c.args.pairs.now) c.whole-delta.ensures;
      wide = refl;
    }

pub returns-in_err-delta-clause-wide : goal.returns-in_err-delta-clause-wide
returns-in_err-delta-clause-wide c =
    let p = err_from_is_err_and c.from_residual.result c.from_residual.ensures.1 in
    refused_is c.from_residual.result p.0 _ p.1 p.2
    ∙ sym
    (c.loop-pair.invariant.wide
    ∙ ap (λ (xs : List (Delta × Delta)). first_wide (delta_operations (map pair_of xs))) (drop_read c.args.pairs.now c.loop-pair.pair-index c.pair-item.result c.loop-pair-test.true c.pair-item.is)
    ∙ operations-cons_some (pair_of c.pair-item.result) (map pair_of (drop (c.loop-pair.pair-index + 1) c.args.pairs.now)) _ (sym c.in_err-delta.ensures.wide))

pub loop-pair-preserved : goal.loop-pair-preserved
loop-pair-preserved c =
    record {
      value =
          c.loop-pair.invariant.value
          ∙ ap (λ (xs : List (Delta × Delta)). least_from c.loop-pair.delta (limits (map pair_of xs))) (drop_read c.args.pairs.now c.loop-pair.pair-index c.pair-item.result c.loop-pair-test.true c.pair-item.is)
          ∙ limits-cons (pair_of c.pair-item.result) (map pair_of (drop (c.loop-pair.pair-index + 1) c.args.pairs.now)) c.loop-pair.delta
          ∙ ap (λ (e : Fraction). least_from e (limits (map pair_of (drop (c.loop-pair.pair-index + 1) c.args.pairs.now)))) (sym c.in_ok-delta.ensures.least);
      wide =
          c.loop-pair.invariant.wide
          ∙ ap (λ (xs : List (Delta × Delta)). first_wide (delta_operations (map pair_of xs))) (drop_read c.args.pairs.now c.loop-pair.pair-index c.pair-item.result c.loop-pair-test.true c.pair-item.is)
          ∙ operations-cons_none (pair_of c.pair-item.result) (map pair_of (drop (c.loop-pair.pair-index + 1) c.args.pairs.now)) (sym c.in_ok-delta.ensures.wide);
    }

pub returns-clause-value : goal.returns-clause-value
returns-clause-value c =
    sym (c.loop-pair.invariant.value ∙ ended c.args.pairs.now c.loop-pair.pair-index c.loop-pair.delta c.loop-pair-test.false)

pub returns-clause-wide : goal.returns-clause-wide
returns-clause-wide c =
    sym (c.loop-pair.invariant.wide ∙ ended_operations c.args.pairs.now c.loop-pair.pair-index c.loop-pair-test.false)

pub returns-clause-least : goal.returns-clause-least
returns-clause-least c =
    subst
    (λ (e : Fraction). IsLeastLimit (map pair_of c.args.pairs.now) e)
    (c.loop-pair.invariant.value ∙ ended c.args.pairs.now c.loop-pair.pair-index c.loop-pair.delta c.loop-pair-test.false)
    (c.chosen_deltas_serve.ensures.least (map pair_of c.args.pairs.now))

pub returns-clause-above_zero : goal.returns-clause-above_zero
returns-clause-above_zero c =
    subst
    (λ (e : Fraction). whole (pos 0) <ℚ e)
    (c.loop-pair.invariant.value ∙ ended c.args.pairs.now c.loop-pair.pair-index c.loop-pair.delta c.loop-pair-test.false)
    (c.chosen_deltas_serve.ensures.above_zero (map pair_of c.args.pairs.now) c.requires)

pub returns-clause-keeps_order : goal.returns-clause-keeps_order
returns-clause-keeps_order c =
    subst
    (λ (e : Fraction). (d : Fraction) → whole (pos 0) <ℚ d → d ≤ℚ e → AreOrderedAt (map pair_of c.args.pairs.now) d)
    (c.loop-pair.invariant.value ∙ ended c.args.pairs.now c.loop-pair.pair-index c.loop-pair.delta c.loop-pair-test.false)
    (λ d z h. c.chosen_deltas_serve.ensures.keeps_order (map pair_of c.args.pairs.now) d c.requires z h)
