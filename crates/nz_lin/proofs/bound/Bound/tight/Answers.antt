-- A bound over integers is rounded, and another one stays.
use Rattle.std.proofs.Common.{◌≡◌, true, false, List, Ok, sym, subst, ◌∙◌}
use Rattle.nz_spec.specs.numbers.Computation.{Computation}
use Rattle.nz_fractions.specs.Fraction.{Fraction}
use Rattle.nz_spec.specs.clauses.LinearLiteral.{tight_form, tight_multiplier}
use Rattle.nz_spec.specs.clauses.Literal.{Literal}
use Rattle.nz_lin.specs.declared.bound.Bound.{Bound}
use Rattle.nz_lin.specs.declared.form.Part.{Part}
use Rattle.nz_lin.specs.Bounds.{IsLiteral, bound_over, literal_over, rounded_bound}
use Rattle.nz_lin.specs.Comes.{IsDone}
use Rattle.nz_lin.specs.Forms.{AreUnits, parts_over}
use Rattle.nz_lin.proofs.ComputationSequences.{at_once_done}
use Rattle.nz_lin.proofs.IntegerBounds.{are_over_integers, same_literal, stays, tight_same}
use Rattle.nz_lin.proofs.bound.Bound.tight.Goals as goal

pub returns-then-is_over_integers : goal.returns-then-is_over_integers
returns-then-is_over_integers c = record {
  tight = λ ns units.
      let x = bound_over ns c.args.self.now in
      let own : AreUnits ns c.parts-parts.result.now = subst (AreUnits ns) (sym c.parts-parts.ensures.parts) units in
      let over : are_over_integers x.parts ≡ true =
      sym (subst (λ (ps : List Part). c.is_over_integers.result ≡ are_over_integers (parts_over ns ps)) c.parts-parts.ensures.parts (c.is_over_integers.ensures.integers ns own))
      ∙ c.if-is_over_integers.true in
      let multiplier : c.tight_multiplier.result ≡ tight_multiplier x.parts =
      subst (λ (ps : List Part). c.tight_multiplier.result ≡ tight_multiplier (parts_over ns ps)) c.parts-parts.ensures.parts (c.tight_multiplier.ensures.multiplier ns) in
      same_literal ns (rounded_bound (tight_multiplier x.parts) x) (tight_form (literal_over ns c.args.self.now)) c.rounded.result (tight_same x over)
      (subst (λ (m : Fraction). IsLiteral ns (rounded_bound m x) c.rounded.result) multiplier (c.rounded.ensures.rounded ns units));
}

pub returns-in_ok-copied : goal.returns-in_ok-copied
returns-in_ok-copied c = record {
  tight = λ ns units.
      let x = bound_over ns c.args.self.now in
      let own : AreUnits ns c.parts-parts.result.now = subst (AreUnits ns) (sym c.parts-parts.ensures.parts) units in
      let other : are_over_integers x.parts ≡ false =
      sym (subst (λ (ps : List Part). c.is_over_integers.result ≡ are_over_integers (parts_over ns ps)) c.parts-parts.ensures.parts (c.is_over_integers.ensures.integers ns own))
      ∙ c.if-is_over_integers.false in
      let kept : IsLiteral ns (tight_form (literal_over ns c.args.self.now)) (Ok c.args.self.now) =
      (subst (λ (l : Computation Literal). IsDone l (literal_over ns c.args.self.now)) (sym (stays x other)) (at_once_done (literal_over ns c.args.self.now)), units) in
      subst (λ (b : Bound). IsLiteral ns (tight_form (literal_over ns c.args.self.now)) (Ok b)) (sym c.in_ok-copied.ensures.same) kept;
}
