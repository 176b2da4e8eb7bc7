use Rattle.std.proofs.Common.{rules, ◌≡◌, ◌<◌, Result, Err, length, ap, arith, subst, sym}
use Rattle.std.specs.Prelude.{IfErr, ⊤}
use Rattle.nz_search.specs.declared.stop.Stop.{Stop}
use Rattle.nz_search.specs.Places.{OnWide}
use Rattle.nz_reals.specs.State.{Theory}
use Rattle.nz_reals.proofs.ConstantValues.{adds_values, puts_more}
use Rattle.nz_reals.proofs.InfinitesimalLimits.{StandsOfValues, has_values, limit_stands, model_stands}
use Rattle.nz_reals.proofs.Worths.{has_worths}
use Rattle.nz_reals.proofs.reals.Reals.add_values.Goals as goal

pub delta-requires : goal.delta-requires
delta-requires c = record {
  values = has_values c.args.self.now c.args.terms.now c.requires.over c.stored.ensures.sound c.infinitesimals_are_ordered.ensures.ordered (c.requires.feasible c.args.terms.now c.requires.over);
}

pub returns-in-Err-clause-place : goal.returns-in-Err-clause-place
returns-in-Err-clause-place c = λ ts among.
    limit_stands c.infinitesimals_are_ordered.ensures.ordered c.args.self.now c.args.terms.now c.requires.over c.stored.ensures.sound (c.requires.feasible c.args.terms.now c.requires.over) ts c.in-Err.place c.in-Err.ensures.place

pub add_value-requires-clause-values : goal.add_value-requires-clause-values
add_value-requires-clause-values c = has_values c.args.self.now c.args.terms.now c.requires.over c.stored.ensures.sound c.infinitesimals_are_ordered.ensures.ordered (c.requires.feasible c.args.terms.now c.requires.over)

pub returns-in_err-add_value-clause-place : goal.returns-in_err-add_value-clause-place
returns-in_err-add_value-clause-place c = λ ts among.
    let t = c.args.self.now in
    let ns = c.args.terms.now in
    let e = c.in_err-add_value.field-0.0 in
    let stop : c.from_residual.result ≡ Err e = search rules in
    subst (λ (r : Result ⊤ Stop). IfErr r (λ (e : Stop). OnWide e (StandsOfValues t ns ts))) (sym stop)
    (model_stands c.infinitesimals_are_ordered.ensures.ordered t ns c.requires.over c.stored.ensures.sound (c.requires.feasible ns c.requires.over) ts c.positions_have_values.ensures.values c.term_of_node.ensures.node c.units_are_forms.ensures.forms c.args.is_listed.now among
    c.in-Ok.ensures.numbers c.in-Ok.delta c.in-Ok.ensures.least e c.in_err-add_value.ensures.place)

pub loop-var-preserved : goal.loop-var-preserved
loop-var-preserved c =
    let t = c.args.self.now in
    let seen = ap (λ (x : Theory). length x.simplex.forms) c.self.view_is in
    let inside : c.loop-var.var < length t.simplex.forms = omega (arith, c.loop-var-test.true, c.len-var-end.ensures.count, seen) in
    record {
      puts =
          puts_more t c.args.terms.now c.requires.over c.stored.ensures.forms c.units_are_forms.ensures.forms c.args.is_listed.now c.in-Ok.delta c.args.values.now c.loop-var.var c.loop-var.values c.add_value.new.values inside
          c.loop-var.invariant.puts c.in_ok-add_value.ensures.puts;
    }

pub returns-clause-values : goal.returns-clause-values
returns-clause-values c =
    let t = c.args.self.now in
    let ns = c.args.terms.now in
    let seen = ap (λ (x : Theory). length x.simplex.forms) c.self.view_is in
    let end : c.loop-var.var ≡ length t.simplex.forms = omega (arith, c.loop-var-test.false, c.loop-var.auto.var-end, c.len-var-end.ensures.count, seen) in
    adds_values t ns c.requires.over c.stored.ensures.forms c.units_are_forms.ensures.forms c.args.is_listed.now c.in-Ok.delta c.args.values.now c.stored.ensures.sound c.positions_have_values.ensures.values
    (has_values t ns c.requires.over c.stored.ensures.sound c.infinitesimals_are_ordered.ensures.ordered (c.requires.feasible ns c.requires.over)) c.in-Ok.ensures.numbers c.in-Ok.ensures.least c.loop-var.var c.loop-var.values end c.loop-var.invariant.puts

pub returns-clause-worths : goal.returns-clause-worths
returns-clause-worths c =
    has_worths c.told_bounds_are_met.ensures.met c.chosen_fractions_keep_bounds.ensures.keep c.term_has_its_number.ensures.number c.tells_literals.ensures.tells c.one_number.ensures.one
    c.units_are_forms.ensures.forms c.args.self.now c.args.terms.now c.requires.over c.stored.ensures.forms c.stored.ensures.sound c.requires.feasible c.args.is_listed.now c.args.values.now c.loop-var.values
    (returns-clause-values c)
