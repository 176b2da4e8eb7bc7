-- A multiple, and then its limit.
use Rattle.std.proofs.Common.{false, Ok, sym, subst}
use Rattle.nz_spec.specs.clauses.Cuts.{rounded_limit}
use Rattle.nz_spec.specs.clauses.Farkas.{bound_scaled}
use Rattle.nz_fractions.specs.Fraction.{Fraction}
use Rattle.nz_spec.specs.clauses.Literal.{is_at_most}
use Rattle.nz_term.specs.declared.stops.ArithmeticStop.{ArithmeticStop}
use Rattle.nz_term.specs.declared.stops.ArithmeticStop.TheVariants.{Wide}
use Rattle.nz_lin.specs.Bounds.{IsLiteral, bound_over, rounded_bound}
use Rattle.nz_lin.specs.Forms.{Numbered}
use Rattle.nz_lin.proofs.ComputationSequences.{done_both, handed_on, stop_first, stop_second, turned_done}
use Rattle.nz_lin.proofs.IntegerBounds.{rounded_literal}
use Rattle.nz_lin.proofs.bound.Bound.rounded.Goals as goal

pub returns-in_err-scaled : goal.returns-in_err-scaled
returns-in_err-scaled c = record {
  rounded = λ ns units.
      let m = c.args.multiplier in
      let x = bound_over ns c.args.self.now in
      let s : ArithmeticStop = c.in_err-scaled.field-0.0 in
      handed_on (λ r. IsLiteral ns (rounded_bound m x) r) c.from_residual.result s c.from_residual.ensures.1
      (stop_first (bound_scaled m x) rounded_literal s (c.in_err-scaled.ensures.bounded ns units));
}

pub returns-in_err-limit : goal.returns-in_err-limit
returns-in_err-limit c = record {
  rounded = λ ns units.
      let m = c.args.multiplier in
      let x = bound_over ns c.args.self.now in
      let h = c.in_ok-scaled.ensures.bounded ns units in
      let s : ArithmeticStop = Wide c.in_err-limit.field-0.0 in
      handed_on (λ r. IsLiteral ns (rounded_bound m x) r) c.from_residual-in_err-limit.result s c.from_residual-in_err-limit.ensures.1
      (stop_second (bound_scaled m x) rounded_literal (bound_over ns c.in_ok-scaled.scaled) s h.0 (c.in_err-limit.ensures.rounded ns));
}

pub returns : goal.returns
returns c = record {
  rounded = λ ns units.
      let m = c.args.multiplier in
      let x = bound_over ns c.args.self.now in
      let y = bound_over ns c.in_ok-scaled.scaled in
      let q = c.in_ok-limit.limit in
      let h = c.in_ok-scaled.ensures.bounded ns units in
      subst (λ (v : Numbered). IsLiteral ns (rounded_bound m x) (Ok (record { sides = v; strict = false }))) (sym c.with_offset.ensures.other) (
        done_both (bound_scaled m x) rounded_literal y (is_at_most y.parts q) h.0
            (turned_done (λ (d : Fraction). is_at_most y.parts d) (rounded_limit y) q (c.in_ok-limit.ensures.rounded ns)),
        h.1,
      );
}
