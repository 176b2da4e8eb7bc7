-- One coefficient more is multiplied.
use Rattle.std.proofs.Common.{◌≡◌, Bool, true, false, List, [], ◌∷◌, ◌++◌, refl, sym, ap, subst, ◌∙◌, if◌then◌else◌}
use Rattle.std.proofs.lemmas.List.{append-nil, append_assoc, map-append}
use Rattle.nz_spec.specs.numbers.Computation.{Computation, turned_into, IsSame}
use Rattle.nz_spec.specs.terms.Form as spec
use Rattle.nz_spec.specs.terms.Form.{parts_scaled, with_part}
use Rattle.nz_fractions.specs.Fraction.{Fraction, first_wide}
use Rattle.nz_spec.specs.terms.Table.{Node, term_in}
use Rattle.nz_spec.specs.terms.Term.{Term, is_zero}
use Rattle.nz_term.specs.declared.stops.ArithmeticStop.{ArithmeticStop}
use Rattle.nz_lin.specs.declared.form.Part.{Part}
use Rattle.nz_term.specs.Stops.{IsStopAt}
use Rattle.nz_lin.specs.Forms.{AreUnits, part_over, parts_over, with_last}
use Rattle.nz_lin.specs.Comes.{IsDone}
use Rattle.nz_fractions.proofs.FirstOperations.{first_wide-none, no_operation}
use Rattle.nz_lin.proofs.ComputationSequences.{same_stop, stop_first}
use Rattle.nz_lin.proofs.Units.{changed, units_changed, units_without}

with_zero : (u : Term) (c : Fraction) (rs : List spec.Part) → is_zero c ≡ true → with_part u c rs ≡ rs
with_zero u c rs e = ap (λ (b : Bool). if b then rs else record { coefficient = c; unit = u } ∷ rs) e

with_other : (u : Term) (c : Fraction) (rs : List spec.Part) → is_zero c ≡ false → with_part u c rs ≡ record { coefficient = c; unit = u } ∷ rs
with_other u c rs e = ap (λ (b : Bool). if b then rs else record { coefficient = c; unit = u } ∷ rs) e

module _ (ns : List Node) (times : Fraction → Computation Fraction) where
  -- the parts so far, before those that are made of the rest
  abbrev pub onto : List Part → List Part → Computation (List spec.Part)
  onto new rest = turned_into (λ (rs : List spec.Part). parts_over ns new ++ rs) (parts_scaled times (parts_over ns rest))

  module _ (new : List Part) (p : Part) (rest : List Part) (whole : Computation (List spec.Part)) (h : IsSame (onto new (p ∷ rest)) whole) where
    pub scaled_stop : (s : ArithmeticStop) → IsStopAt (first_wide (times p.coefficient).operations) s → IsStopAt (first_wide whole.operations) s
    scaled_stop s stop =
        same_stop (onto new (p ∷ rest)) whole s h
        (stop_first (times p.coefficient) (λ c. turned_into (with_part (term_in ns p.unit) c) (parts_scaled times (parts_over ns rest))) s stop)

    module _ (c : Fraction) (done : IsDone (times p.coefficient) c) where
      later : first_wide (parts_scaled times (parts_over ns rest)).operations ≡ first_wide whole.operations
      later = sym (first_wide-none (times p.coefficient).operations (parts_scaled times (parts_over ns rest)).operations done.fits) ∙ h.stop

      made : parts_over ns new ++ with_part (term_in ns p.unit) c (parts_scaled times (parts_over ns rest)).result ≡ whole.result
      made = ap (λ (x : Fraction). parts_over ns new ++ with_part (term_in ns p.unit) x (parts_scaled times (parts_over ns rest)).result) done.result ∙ h.result

      gone : is_zero c ≡ true → IsSame (onto new rest) whole
      gone zero = record {
        result = ap (λ (rs : List spec.Part). parts_over ns new ++ rs) (sym (with_zero (term_in ns p.unit) c (parts_scaled times (parts_over ns rest)).result zero)) ∙ made;
        stop = later;
      }

      put : is_zero c ≡ false → IsSame (onto (new ++ changed p c ∷ []) rest) whole
      put other =
          let rs = (parts_scaled times (parts_over ns rest)).result in
          record {
            result =
                ap (λ (l : List spec.Part). l ++ rs) (map-append (part_over ns) new (changed p c ∷ []))
                ∙ append_assoc (parts_over ns new) (part_over ns (changed p c) ∷ []) rs
                ∙ ap (λ (l : List spec.Part). parts_over ns new ++ l) (sym (with_other (term_in ns p.unit) c rs other)) ∙ made;
            stop = later;
          }

      by_zero : (b : Bool) → is_zero c ≡ b → IsSame (onto (if b then new else new ++ changed p c ∷ []) rest) whole
      by_zero true e = gone e
      by_zero false e = put e

      pub scaled_more : IsSame (onto (with_last new (changed p c)) rest) whole
      scaled_more = by_zero (is_zero c) refl

  -- the end
  pub all_scaled : (new : List Part) (whole : Computation (List spec.Part)) → IsSame (onto new []) whole → IsDone whole (parts_over ns new)
  all_scaled new whole h = record { result = sym (append-nil (parts_over ns new)) ∙ h.result; fits = sym h.stop ∙ no_operation }

-- the units so far, and those that are left
units_put : (ns : List Node) (new : List Part) (p : Part) (c : Fraction) (rest : List Part) → AreUnits ns (new ++ p ∷ rest) → AreUnits ns ((new ++ changed p c ∷ []) ++ rest)
units_put ns new p c rest h = subst (AreUnits ns) (sym (append_assoc new (changed p c ∷ []) rest)) (units_changed ns new p c rest h)

units_by : (ns : List Node) (new : List Part) (p : Part) (c : Fraction) (rest : List Part) (b : Bool) → AreUnits ns (new ++ p ∷ rest) → AreUnits ns ((if b then new else new ++ changed p c ∷ []) ++ rest)
units_by ns new p c rest true h = units_without ns new p rest h
units_by ns new p c rest false h = units_put ns new p c rest h

pub units_more : (ns : List Node) (new : List Part) (p : Part) (c : Fraction) (rest : List Part) → AreUnits ns (new ++ p ∷ rest) → AreUnits ns (with_last new (changed p c) ++ rest)
units_more ns new p c rest h = units_by ns new p c rest (is_zero c) h
