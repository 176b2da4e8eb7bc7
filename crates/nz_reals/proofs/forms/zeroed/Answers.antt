use Rattle.std.proofs.Common.{◌≡◌, ap, sym, ◌∙◌, subst, Bool, true, false, map, if◌then◌else◌, rules}
use Rattle.nz_fractions.specs.Fraction.{Fraction}
use Rattle.nz_spec.specs.clauses.Literal.{is_at_most}
use Rattle.nz_lin.specs.declared.bound.Bound.{Bound}
use Rattle.nz_lin.specs.Bounds.{HasUnits}
use Rattle.nz_lin.specs.Forms.{negated, parts_over}
use Rattle.nz_reals.specs.Sums.{is_turned, turned_sum, zero_bound}
use Rattle.nz_reals.proofs.Sums.{negation_over, zero_bound_is}
use Rattle.nz_reals.proofs.forms.zeroed.Goals as goal

pub returns-then-is_turned : goal.returns-then-is_turned
returns-then-is_turned c = record {
  zeroed = λ ns table units.
      let b = c.args.bound.now in
      let n = c.in_ok-not.field-0 in
      let turned : is_turned b.sides.parts ≡ true = search rules in
      let has : HasUnits ns n = c.in_ok-not.ensures.units ns units in
      let parts : n.sides.parts ≡ map negated b.sides.parts = negation_over ns (c.one_number.ensures.one ns table) b n units has (c.in_ok-not.ensures.literal ns) in
      let is : n.sides.parts ≡ turned_sum b.sides.parts = parts ∙ ap (λ (t : Bool). if t then map negated b.sides.parts else b.sides.parts) (sym turned) in
      zero_bound_is ns (c.one_number.ensures.one ns table) n.sides.parts c.with_limit.result has (c.with_limit.ensures.units ns has) c.with_limit.ensures.strict
      (c.with_limit.ensures.literal ns ∙ ap (λ (q : Fraction). is_at_most (parts_over ns n.sides.parts) q) c.whole.ensures)
      ∙ ap zero_bound is;
}

pub returns : goal.returns
returns c = record {
  zeroed = λ ns table units.
      let b = c.args.bound.now in
      let n = c.in_ok-copied.field-0 in
      let straight : is_turned b.sides.parts ≡ false = search rules in
      let copy : n ≡ b = c.in_ok-copied.ensures.same in
      let has : HasUnits ns n = subst (HasUnits ns) (sym copy) units in
      let is : n.sides.parts ≡ turned_sum b.sides.parts =
      ap (λ (x : Bound). x.sides.parts) copy ∙ ap (λ (t : Bool). if t then map negated b.sides.parts else b.sides.parts) (sym straight) in
      zero_bound_is ns (c.one_number.ensures.one ns table) n.sides.parts c.with_limit-2.result has (c.with_limit-2.ensures.units ns has) c.with_limit-2.ensures.strict
      (c.with_limit-2.ensures.literal ns ∙ ap (λ (q : Fraction). is_at_most (parts_over ns n.sides.parts) q) c.whole-2.ensures)
      ∙ ap zero_bound is;
}
