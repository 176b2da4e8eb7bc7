-- The units of a form have their numbers among the forms with them.
use Rattle.std.proofs.Common.{◌≡◌, ℕ, suc, add-one, ◌+◌, ◌<◌, ◌≤◌, List, [], ◌∷◌, ◌++◌, length, Option, Some, None, refl, sym, ap, ◌∙◌, subst, arith}
use Rattle.std.specs.Prelude.{if◌then◌else◌, All, unwrap_or, is_some}
use Rattle.std.specs.List.{AllByRecursion}
use Rattle.std.proofs.lemmas.List.{append_assoc, length-map}
use Rattle.std.proofs.lemmas.List.Elements.{All-from_recursion}
use Rattle.nz_fractions.specs.Fraction.{Fraction}
use Rattle.nz_spec.specs.terms.FormOf.{TermHasItsNumber, number_in}
use Rattle.nz_spec.specs.terms.Table.{Node, term_in}
use Rattle.nz_spec.specs.simplex.Basis.{HasItsUnits, form_at}
use Rattle.nz_spec.specs.simplex.BasisMoves.{AreNumbered, JoinsKeepBasis}
use Rattle.nz_lin.specs.declared.form.Part.{Part}
use Rattle.nz_lin.specs.Forms.{AreInOrder, NamesUnit, parts_over}
use Rattle.nz_tab.specs.Joins.{number_by}
use Rattle.nz_tab.specs.Laws.{UnitsJoin}
use Rattle.nz_tab.specs.Tables.{forms_over}
use Rattle.nz_tab.specs.Units.{addends, new_units, unit_number, unit_of, with_units}
use Rattle.nz_tab.proofs.UnitForms.{number_found, number_stays, unit_listed}
use Rattle.nz_tab.proofs.JoinedUnits.{own_number, units_join, units_known, units_step}

-- the unit of a part has a number
abbrev pub HasNumber : List (List Part) → Part → Type 0
HasNumber gs p = (k : ℕ) × (unit_number gs p.unit ≡ Some k)

pub units_numbered : (ps : List Part) (fs : List (List Part)) → AreInOrder ps → AllByRecursion (HasNumber (with_units fs ps)) ps
units_numbered [] fs order = _
units_numbered (p ∷ ps) fs order = by_number (unit_number fs p.unit) refl (units_numbered ps)
  where
    by_number : (o : Option ℕ) → unit_number fs p.unit ≡ o → ((gs : List (List Part)) → AreInOrder ps → AllByRecursion (HasNumber (with_units gs ps)) ps)
        → AllByRecursion (HasNumber (with_units fs (p ∷ ps))) (p ∷ ps)
    by_number (Some k) e rest =
        subst (λ (l : List (List Part)). AllByRecursion (HasNumber l) (p ∷ ps)) (sym (units_known fs p ps k e))
        ((k, number_stays fs (new_units fs ps) p.unit k e), rest fs order.1)
    by_number None e rest =
        let gs = fs ++ unit_of p ∷ [] in
        subst (λ (l : List (List Part)). AllByRecursion (HasNumber l) (p ∷ ps)) (sym (units_step fs p ps e order.0))
        ((length fs, number_stays gs (new_units gs ps) p.unit (length fs) (own_number fs p e)), rest gs order.1)

-- ---- Over a table of terms

module _ (ns : List Node) (number : (i : ℕ) → i < length ns → number_in ns (term_in ns i) ≡ i) (gs : List (List Part)) where
  -- the number of a part's unit
  abbrev pub number_of : Part → ℕ
  number_of p = unwrap_or (unit_number gs p.unit) 0

  pub number_is : (p : Part) → NamesUnit ns p → number_by ns gs (term_in ns p.unit) ≡ number_of p
  number_is p names = ap (λ (i : ℕ). unwrap_or (unit_number gs i) 0) (number p.unit names.0)

  one_within : (p : Part) → HasNumber gs p → number_of p < length gs
  one_within p has = subst (λ (m : ℕ). m < length gs) (sym (ap (λ (o : Option ℕ). unwrap_or o 0) has.1)) (number_found ns gs p.unit has.0 has.1).0

  pub all_within : (ps : List Part) → AllByRecursion (HasNumber gs) ps → AllByRecursion (λ (p : Part). number_of p < length gs) ps
  all_within [] has = _
  all_within (p ∷ ps) has = (one_within p has.0, all_within ps has.1)

  pub are_numbered : (ps : List Part) → AllByRecursion (NamesUnit ns) ps → AllByRecursion (HasNumber gs) ps → AreNumbered (forms_over ns gs) (number_by ns gs) (parts_over ns ps)
  are_numbered [] names has = _
  are_numbered (p ∷ ps) names has =
      let found = number_found ns gs p.unit has.0.0 has.0.1 in
      let same : number_by ns gs (term_in ns p.unit) ≡ has.0.0 = number_is p names.0 ∙ ap (λ (o : Option ℕ). unwrap_or o 0) has.0.1 in
      ((omega (arith, same, found.0, length-map gs (parts_over ns)), ap (form_at (forms_over ns gs)) same ∙ found.1), are_numbered ps names.1 has.1)

  pub has_its_units : (ps : List Part) → AllByRecursion (HasNumber gs) ps → HasItsUnits (forms_over ns gs) (parts_over ns ps)
  has_its_units [] has = _
  has_its_units (p ∷ ps) has = (unit_listed ns gs p.unit has.0.0 has.0.1, has_its_units ps has.1)

-- ---- The law

pub units_have_joined : JoinsKeepBasis → TermHasItsNumber → UnitsJoin
units_have_joined law numbers = record {
  rows = λ ns fs f rows ps table all are basis are_rows.
      (units_join law ns (numbers ns table) ps fs f rows are.names are.in_order (record { basis = basis; are_rows = are_rows; units = all })).are_rows;
  numbers = λ ns fs ps table are. are_numbered ns (numbers ns table) (with_units fs ps) ps are.names (units_numbered ps fs are.in_order);
}

-- ---- Bounds

-- a number of a form is below their count
number_below : (fs : List (List Part)) (u k : ℕ) → unit_number fs u ≡ Some k → k < length fs
number_below fs u k e = (number_found [] fs u k e).0

-- the units that join, and the addends, by what number the first part's unit has
abbrev units_by : List (List Part) → Part → List Part → Option ℕ → List (List Part)
units_by fs p ps o = if is_some o then new_units fs ps else unit_of p ∷ new_units fs ps

abbrev addends_by : List (List Part) → Part → List Part → ℕ → Option ℕ → List (ℕ × Fraction)
addends_by fs p ps next o =
    elim o [
      | Some k ↦ (k, p.coefficient) ∷ addends fs next ps
      | None ↦ (next, p.coefficient) ∷ addends fs (suc next) ps
    ]

-- one addend more
pub addends_step : (fs : List (List Part)) (p : Part) (ps : List Part) (next later : ℕ) (o : Option ℕ) → o ≡ unit_number fs p.unit → later ≡ (if is_some o then next else next + 1) → (done : List (ℕ × Fraction))
    → (done ++ (unwrap_or o next, p.coefficient) ∷ []) ++ addends fs later ps ≡ done ++ addends fs next (p ∷ ps)
addends_step fs p ps next later (Some k) e g done =
    append_assoc done ((k, p.coefficient) ∷ []) (addends fs later ps)
    ∙ ap (λ (n : ℕ). done ++ (k, p.coefficient) ∷ addends fs n ps) g
    ∙ ap (λ (o : Option ℕ). done ++ addends_by fs p ps next o) e
addends_step fs p ps next later None e g done =
    append_assoc done ((next, p.coefficient) ∷ []) (addends fs later ps)
    ∙ ap (λ (n : ℕ). done ++ (next, p.coefficient) ∷ addends fs n ps) (g ∙ add-one next)
    ∙ ap (λ (o : Option ℕ). done ++ addends_by fs p ps next o) e

-- the numbers of a form's units are those of forms, or of units that join
pub addends_within : (fs : List (List Part)) (ps : List Part) (next : ℕ) → length fs ≤ next → AllByRecursion (λ (a : ℕ × Fraction). a.0 < next + length (new_units fs ps)) (addends fs next ps)
addends_within fs [] next past = _
addends_within fs (p ∷ ps) next past = by_number (unit_number fs p.unit) refl (addends_within fs ps)
  where
    by_number : (o : Option ℕ) → unit_number fs p.unit ≡ o
        → ((m : ℕ) → length fs ≤ m → AllByRecursion (λ (a : ℕ × Fraction). a.0 < m + length (new_units fs ps)) (addends fs m ps))
        → AllByRecursion (λ (a : ℕ × Fraction). a.0 < next + length (units_by fs p ps (unit_number fs p.unit))) (addends_by fs p ps next (unit_number fs p.unit))
    by_number (Some k) e rest =
        subst (λ (o : Option ℕ). AllByRecursion (λ (a : ℕ × Fraction). a.0 < next + length (units_by fs p ps o)) (addends_by fs p ps next o)) (sym e)
        (omega (arith, number_below fs p.unit k e, past), rest next past)
    by_number None e rest =
        let far : suc next + length (new_units fs ps) ≡ next + suc (length (new_units fs ps)) = omega arith in
        subst (λ (o : Option ℕ). AllByRecursion (λ (a : ℕ × Fraction). a.0 < next + length (units_by fs p ps o)) (addends_by fs p ps next o)) (sym e)
        (omega arith, subst (λ (m : ℕ). AllByRecursion (λ (a : ℕ × Fraction). a.0 < m) (addends fs (suc next) ps)) far (rest (suc next) (omega (arith, past))))

pub all_addends_within : (fs : List (List Part)) (ps : List Part) → All (λ (a : ℕ × Fraction). a.0 < length fs + length (new_units fs ps)) (addends fs (length fs) ps)
all_addends_within fs ps = All-from_recursion (λ (a : ℕ × Fraction). a.0 < length fs + length (new_units fs ps)) (addends fs (length fs) ps) (addends_within fs ps (length fs) (omega arith))
