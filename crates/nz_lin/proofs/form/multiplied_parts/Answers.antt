-- One part more.
use Rattle.std.proofs.Common.{◌≡◌, ◌+◌, List, ◌∷◌, ◌++◌, drop, sym, subst, arith}
use Rattle.std.proofs.lemmas.List.{append-nil, drop_all}
use Rattle.nz_lists.proofs.Places.{drop_read}
use Rattle.nz_spec.specs.terms.Form.{parts_scaled}
use Rattle.nz_term.specs.declared.stops.ArithmeticStop.TheVariants.{Wide}
use Rattle.nz_lin.specs.declared.form.Part.{Part}
use Rattle.nz_lin.specs.Comes.{AreFormed, times}
use Rattle.nz_lin.specs.Forms.{AreUnits, parts_over}
use Rattle.nz_spec.specs.numbers.Computation.{IsSame}
use Rattle.nz_lin.proofs.ScaledForms.{all_scaled, onto, scaled_more, scaled_stop, units_more}
use Rattle.nz_lin.proofs.ComputationSequences.{handed_on}
use Rattle.nz_lin.proofs.form.multiplied_parts.Goals as goal

pub returns-in_err-coefficient-clause-scaled : goal.returns-in_err-coefficient-clause-scaled
returns-in_err-coefficient-clause-scaled c ns =
    let ps = c.args.parts.now in
    let i = c.loop-part.part-index in
    let p = c.part-item.result in
    let t = times c.args.side c.args.factor in
    let whole = parts_scaled t (parts_over ns ps) in
    let new = c.loop-part.new.items in
    let left : drop i ps ≡ p ∷ drop (i + 1) ps = drop_read ps i p (omega arith) c.part-item.is in
    handed_on (λ r. AreFormed ns whole r) c.from_residual.result (Wide c.in_err-coefficient.field-0.0) c.from_residual.ensures.1
    (scaled_stop ns t new p (drop (i + 1) ps) whole (subst (λ (l : List Part). IsSame (onto ns t new l) whole) left (c.loop-part.invariant.scaled ns)) (Wide _) c.in_err-coefficient.ensures.product)

pub loop-part-preserved : goal.loop-part-preserved
loop-part-preserved c =
    let ps = c.args.parts.now in
    let i = c.loop-part.part-index in
    let p = c.part-item.result in
    let t = times c.args.side c.args.factor in
    let new = c.loop-part.new.items in
    let q = c.in_ok-coefficient.coefficient in
    let rest = drop (i + 1) ps in
    let left : drop i ps ≡ p ∷ rest = drop_read ps i p (omega arith) c.part-item.is in
    record {
      scaled = λ ns.
          let whole = parts_scaled t (parts_over ns ps) in
          subst (λ (l : List Part). IsSame (onto ns t l rest) whole) (sym c.in_ok-put.ensures.put)
          (scaled_more ns t new p rest whole (subst (λ (l : List Part). IsSame (onto ns t new l) whole) left (c.loop-part.invariant.scaled ns)) q c.in_ok-coefficient.ensures.product);
      units = λ ns h.
          subst (λ (l : List Part). AreUnits ns (l ++ rest)) (sym c.in_ok-put.ensures.put)
          (units_more ns new p q rest (subst (λ (l : List Part). AreUnits ns (new ++ l)) left (c.loop-part.invariant.units ns h)));
    }

pub returns-clause-scaled : goal.returns-clause-scaled
returns-clause-scaled c ns =
    let ps = c.args.parts.now in
    let t = times c.args.side c.args.factor in
    let whole = parts_scaled t (parts_over ns ps) in
    let new = c.loop-part.new.items in
    all_scaled ns t new whole (subst (λ (l : List Part). IsSame (onto ns t new l) whole) (drop_all c.loop-part.part-index ps (omega arith)) (c.loop-part.invariant.scaled ns))

pub returns-clause-units : goal.returns-clause-units
returns-clause-units c ns h =
    let ps = c.args.parts.now in
    let new = c.loop-part.new.items in
    subst (AreUnits ns) (append-nil new) (subst (λ (l : List Part). AreUnits ns (new ++ l)) (drop_all c.loop-part.part-index ps (omega arith)) (c.loop-part.invariant.units ns h))
