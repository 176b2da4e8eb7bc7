-- One form more settles, and then the values are computed.
use Rattle.std.proofs.Common.{◌≡◌, ℕ, ◌<◌, Bool, true, false, List, length, get_or, take, None, sym, ap, ◌∙◌, subst, arith}
use Rattle.std.specs.Prelude.{slice_index_or}
use Rattle.std.proofs.lemmas.List.{take_all, take_more}
use Rattle.std.proofs.lemmas.List.Elements.{All-get_or}
use Rattle.nz_trail.specs.declared.limits.Side.TheVariants.{Lower, Upper}
use Rattle.nz_simplex.specs.Moves.{IsSettled}
use Rattle.nz_simplex.specs.Standing.{Held, standing}
use Rattle.nz_simplex.specs.State.{nonbasic_in}
use Rattle.nz_simplex.proofs.StepSequences.{renews_told}
use Rattle.nz_simplex.proofs.SettledForms.{settled_more, settled_none, settled_renewed}
use Rattle.nz_simplex.proofs.simplex.Simplex.settle.Goals as goal

pub loop-var-init : goal.loop-var-init
loop-var-init g c = settled_none c.args.self.now

pub settle_one-requires : goal.settle_one-requires
settle_one-requires g c =
    let old = c.args.self.now in
    let vars = c.args.vars.now in
    let i = c.loop-var.var-index in
    let v = get_or vars i 0 in
    let inside : i < length vars = omega arith in
    record {
      nonbasic =
          ap (λ (ms : List Bool). slice_index_or ms v false) c.loop-var.invariant.marks
          ∙ All-get_or (λ (k : ℕ). nonbasic_in old k ≡ true) vars i 0 inside c.requires.nonbasic;
      lower =
          ap (λ (bs : List Held). standing bs v Lower) c.loop-var.invariant.asserted
          ∙ All-get_or (λ (k : ℕ). standing old.asserted k Lower ≡ None) vars i 0 inside c.requires.lower;
      upper =
          ap (λ (bs : List Held). standing bs v Upper) c.loop-var.invariant.asserted
          ∙ All-get_or (λ (k : ℕ). standing old.asserted k Upper ≡ None) vars i 0 inside c.requires.upper;
    }

pub loop-var-preserved : goal.loop-var-preserved
loop-var-preserved g c =
    let vars = c.args.vars.now in
    let i = c.loop-var.var-index in
    subst (IsSettled c.args.self.now c.settle_one.new.self) (sym (take_more vars i 0 (omega arith)))
    (settled_more c.args.self.now c.loop-var.self c.settle_one.new.self (take i vars) (get_or vars i 0) c.loop-var.invariant c.settle_one.ensures.settled)

pub returns : goal.returns
returns g c =
    let vars = c.args.vars.now in
    let i = c.loop-var.var-index in
    record {
      settled =
          subst (IsSettled c.args.self.now c.renew.new.self) (take_all i vars (omega arith))
          (settled_renewed c.args.self.now c.loop-var.self c.renew.new.self (take i vars) c.loop-var.invariant c.renew.ensures.renewed);
      answer = renews_told c.renew.new.self c.renew.result c.renew.ensures.valued c.renew.ensures.answer;
    }
