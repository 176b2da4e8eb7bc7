-- Units join a basis, one after another, and the units of a form have their numbers then.
use Rattle.std.proofs.Common.{◌≡◌, ℕ, suc, ◌<◌, ◌≤◌, Bool, true, false, ◌⊎◌, inl, inr, List, [], ◌∷◌, ◌++◌, length, map, Option, Some, None, refl, sym, ap, ◌∙◌, subst, true≢false, arith}
use Rattle.std.specs.Prelude.{if◌then◌else◌, ◌&&◌, nat_lt, Contains, is_some, unwrap_or}
use Rattle.std.specs.List.{AllByRecursion}
use Rattle.std.proofs.Math.Path.{fun_ext}
use Rattle.std.proofs.lemmas.List.{append-nil, append_assoc, length-append, length-map, length_push, map_push}
use Rattle.nz_lists.proofs.Elements.{AllByRecursion-append}
use Rattle.nz_lists.proofs.Numbers.{below, not_below, below_or_past, below_same_or_past, equal-number, other-number, same_or_below}
use Rattle.nz_fractions.specs.Fraction.{Fraction}
use Rattle.nz_spec.specs.terms.Form as spec
use Rattle.nz_spec.specs.terms.FormOf.{number_in}
use Rattle.nz_spec.specs.terms.Table.{Node, term_in}
use Rattle.nz_spec.specs.simplex.Basis.{IsBasis, IsRow}
use Rattle.nz_spec.specs.simplex.BasisMoves.{AreRows, JoinsKeepBasis, Rows, with_nonbasic}
use Rattle.nz_lin.specs.declared.form.Part.{Part}
use Rattle.nz_lin.specs.Forms.{AreInOrder, AreUnits, NamesUnit, parts_over}
use Rattle.nz_tab.specs.Laws.{joined_to, unit_parts}
use Rattle.nz_tab.specs.Tables.{forms_over}
use Rattle.nz_tab.specs.Units.{addends, new_units, unit_number, unit_of, with_units}
use Rattle.nz_tab.proofs.UnitForms.{number_behind, number_stays, unit_unlisted}

-- a number and its coefficient before others, by whether the unit has a number
abbrev numbered_first : ℕ → Fraction → List (ℕ × Fraction) → List (ℕ × Fraction) → Option ℕ → List (ℕ × Fraction)
numbered_first next q known new o =
    elim o [
      | Some k ↦ (k, q) ∷ known
      | None ↦ (next, q) ∷ new
    ]

-- ---- Units apart

-- a unit other than the one that joins
other_behind : (fs : List (List Part)) (p : Part) (u : ℕ) → p.unit < u → unit_number fs u ≡ None → unit_number (fs ++ unit_of p ∷ []) u ≡ None
other_behind fs p u apart none =
    number_behind fs (unit_of p) u none
    ∙ ap (λ (b : Bool). if b && true then Some (length fs) else None) (other-number p.unit u (λ e. omega (arith, apart, e)))

module _ (fs : List (List Part)) (p : Part) where
  abbrev more : List (List Part)
  more = fs ++ unit_of p ∷ []

  number_same : (u : ℕ) → p.unit < u → (o : Option ℕ) → unit_number fs u ≡ o → unit_number more u ≡ unit_number fs u
  number_same u apart None e = other_behind fs p u apart e ∙ sym e
  number_same u apart (Some k) e = number_stays fs (unit_of p ∷ []) u k e ∙ sym e

  pub new_same : (ps : List Part) → AllByRecursion (λ (q : Part). p.unit < q.unit) ps → new_units more ps ≡ new_units fs ps
  new_same [] all = refl
  new_same (q ∷ ps) all =
      ap (λ (o : Option ℕ). if is_some o then new_units more ps else unit_of q ∷ new_units more ps) (number_same q.unit all.0 (unit_number fs q.unit) refl)
      ∙ ap (λ (l : List (List Part)). if is_some (unit_number fs q.unit) then l else unit_of q ∷ l) (new_same ps all.1)

  pub addends_same : (next : ℕ) (ps : List Part) → AllByRecursion (λ (q : Part). p.unit < q.unit) ps → addends more next ps ≡ addends fs next ps
  addends_same next [] all = refl
  addends_same next (q ∷ ps) all =
      ap (numbered_first next q.coefficient (addends more next ps) (addends more (suc next) ps)) (number_same q.unit all.0 (unit_number fs q.unit) refl)
      ∙ by_number (unit_number fs q.unit) (addends_same next ps all.1) (addends_same (suc next) ps all.1)
    where
      by_number : (o : Option ℕ) → addends more next ps ≡ addends fs next ps → addends more (suc next) ps ≡ addends fs (suc next) ps
          → numbered_first next q.coefficient (addends more next ps) (addends more (suc next) ps) o ≡ numbered_first next q.coefficient (addends fs next ps) (addends fs (suc next) ps) o
      by_number None e g = ap (λ (l : List (ℕ × Fraction)). (next, q.coefficient) ∷ l) g
      by_number (Some k) e g = ap (λ (l : List (ℕ × Fraction)). (k, q.coefficient) ∷ l) e

  -- the first part's unit joins, where it is new, and then those of the others
  pub units_step : (ps : List Part) → unit_number fs p.unit ≡ None → AllByRecursion (λ (q : Part). p.unit < q.unit) ps → with_units fs (p ∷ ps) ≡ with_units more ps
  units_step ps none all =
      ap (λ (o : Option ℕ). fs ++ (if is_some o then new_units fs ps else unit_of p ∷ new_units fs ps)) none
      ∙ sym (append_assoc fs (unit_of p ∷ []) (new_units fs ps))
      ∙ ap (λ (l : List (List Part)). more ++ l) (sym (new_same ps all))

  pub units_known : (ps : List Part) (k : ℕ) → unit_number fs p.unit ≡ Some k → with_units fs (p ∷ ps) ≡ with_units fs ps
  units_known ps k e = ap (λ (o : Option ℕ). fs ++ (if is_some o then new_units fs ps else unit_of p ∷ new_units fs ps)) e

  pub own_number : unit_number fs p.unit ≡ None → unit_number more p.unit ≡ Some (length fs)
  own_number none =
      number_behind fs (unit_of p) p.unit none
      ∙ ap (λ (b : Bool). if b && true then Some (length fs) else None) (equal-number p.unit p.unit refl)

-- ---- The numbers of a form's units

abbrev pub numbered : List (List Part) → List Part → List (ℕ × Fraction)
numbered fs ps = map (λ (p : Part). (unwrap_or (unit_number fs p.unit) 0, p.coefficient)) ps

pub addends_numbered : (ps : List Part) (fs : List (List Part)) → AreInOrder ps → addends fs (length fs) ps ≡ numbered (with_units fs ps) ps
addends_numbered [] fs order = refl
addends_numbered (p ∷ ps) fs order = by_number (unit_number fs p.unit) refl (addends_numbered ps)
  where
    by_number : (o : Option ℕ) → unit_number fs p.unit ≡ o → ((gs : List (List Part)) → AreInOrder ps → addends gs (length gs) ps ≡ numbered (with_units gs ps) ps)
        → addends fs (length fs) (p ∷ ps) ≡ numbered (with_units fs (p ∷ ps)) (p ∷ ps)
    by_number (Some k) e rest =
        ap (numbered_first (length fs) p.coefficient (addends fs (length fs) ps) (addends fs (suc (length fs)) ps)) e
        ∙ ap (λ (l : List (ℕ × Fraction)). (k, p.coefficient) ∷ l) (rest fs order.1)
        ∙ ap (λ (o : Option ℕ). (unwrap_or o 0, p.coefficient) ∷ numbered (with_units fs ps) ps) (sym (number_stays fs (new_units fs ps) p.unit k e))
        ∙ ap (λ (l : List (List Part)). numbered l (p ∷ ps)) (sym (units_known fs p ps k e))
    by_number None e rest =
        let gs = fs ++ unit_of p ∷ [] in
        let long : suc (length fs) ≡ length gs = omega (arith, length_push fs (unit_of p)) in
        ap (numbered_first (length fs) p.coefficient (addends fs (length fs) ps) (addends fs (suc (length fs)) ps)) e
        ∙ ap (λ (l : List (ℕ × Fraction)). (length fs, p.coefficient) ∷ l) (sym (addends_same fs p (suc (length fs)) ps order.0) ∙ ap (λ (n : ℕ). addends gs n ps) long ∙ rest gs order.1)
        ∙ ap (λ (o : Option ℕ). (unwrap_or o 0, p.coefficient) ∷ numbered (with_units gs ps) ps) (sym (number_stays gs (new_units gs ps) p.unit (length fs) (own_number fs p e)))
        ∙ ap (λ (l : List (List Part)). numbered l (p ∷ ps)) (sym (units_step fs p ps e order.0))

-- ---- A basis

module _ (law : JoinsKeepBasis) (ns : List Node) (number : (i : ℕ) → i < length ns → number_in ns (term_in ns i) ≡ i) where
  pub record Holds (fs : List (List Part)) (f : ℕ → Bool) (rows : Rows) : Type 0 where
    pub basis : IsBasis (forms_over ns fs) f
    pub are_rows : AreRows (forms_over ns fs) f rows
    pub units : AllByRecursion (AreUnits ns) fs

  over_long : (fs : List (List Part)) → length (forms_over ns fs) ≡ length fs
  over_long fs = length-map fs (parts_over ns)

  -- one unit joins
  module _ (fs : List (List Part)) (f : ℕ → Bool) (rows : Rows) (p : Part) (names : NamesUnit ns p) (none : unit_number fs p.unit ≡ None) (h : Holds fs f rows) where
    over_more : forms_over ns (fs ++ unit_of p ∷ []) ≡ forms_over ns fs ++ unit_parts ns p.unit ∷ []
    over_more = map_push (parts_over ns) fs (unit_of p)

    absent : Contains (forms_over ns fs) (unit_parts ns p.unit) → ⊥
    absent = unit_unlisted ns number fs h.units p.unit names.0 none

    abbrev g : ℕ → Bool
    g = with_nonbasic f (length (forms_over ns fs))

    old_row : (r : ℕ) → r < length (forms_over ns fs ++ unit_parts ns p.unit ∷ []) → g r ≡ false → IsRow (forms_over ns fs ++ unit_parts ns p.unit ∷ []) g r (rows r)
    old_row r inside b = by_place (same_or_below r (length (forms_over ns fs)) (omega (arith, length_push (forms_over ns fs) (unit_parts ns p.unit), inside)))
      where
        by_place : (r ≡ length (forms_over ns fs)) ⊎ (r < length (forms_over ns fs)) → IsRow (forms_over ns fs ++ unit_parts ns p.unit ∷ []) g r (rows r)
        by_place (inl e) = absurd (true≢false (sym (ap (λ (x : Bool). if x then true else f r) (equal-number r (length (forms_over ns fs)) e)) ∙ b))
        by_place (inr within) =
            let basic : f r ≡ false = ap (λ (x : Bool). if x then true else f r) (sym (other-number r (length (forms_over ns fs)) (λ e. omega (arith, e, within)))) ∙ b in
            law.stays_by_unit (forms_over ns fs) f (term_in ns p.unit) r (rows r) h.basis within (h.are_rows r within basic)

    pub unit_joins : Holds (fs ++ unit_of p ∷ []) (with_nonbasic f (length fs)) rows
    unit_joins = record {
      basis =
          subst (λ (n : ℕ). IsBasis (forms_over ns (fs ++ unit_of p ∷ [])) (with_nonbasic f n)) (over_long fs)
          (subst (λ (l : List (List spec.Part)). IsBasis l g) (sym over_more) (law.unit (forms_over ns fs) f (term_in ns p.unit) h.basis absent));
      are_rows =
          subst (λ (n : ℕ). AreRows (forms_over ns (fs ++ unit_of p ∷ [])) (with_nonbasic f n) rows) (over_long fs)
          (subst (λ (l : List (List spec.Part)). AreRows l g rows) (sym over_more) old_row);
      units = AllByRecursion-append (AreUnits ns) fs (unit_of p ∷ []) h.units (record { names = (names, _); in_order = (_, _) }, _);
    }

  joined_step : (f : ℕ → Bool) (n m : ℕ) → n < m → (k : ℕ) → joined_to (with_nonbasic f n) (suc n) m k ≡ joined_to f n m k
  joined_step f n m h k = by_place (below_same_or_past k n)
    where
      by_place : (k < n) ⊎ ((k ≡ n) ⊎ (n < k)) → joined_to (with_nonbasic f n) (suc n) m k ≡ joined_to f n m k
      by_place (inl e) =
          ap (λ (b : Bool). if b then with_nonbasic f n k else nat_lt k m) (below k (suc n) (omega (arith, e)))
          ∙ ap (λ (b : Bool). if b then true else f k) (other-number k n (λ q. omega (arith, q, e)))
          ∙ ap (λ (b : Bool). if b then f k else nat_lt k m) (sym (below k n e))
      by_place (inr (inl e)) =
          ap (λ (b : Bool). if b then with_nonbasic f n k else nat_lt k m) (below k (suc n) (omega (arith, e)))
          ∙ ap (λ (b : Bool). if b then true else f k) (equal-number k n e)
          ∙ sym (below k m (omega (arith, e, h)))
          ∙ ap (λ (b : Bool). if b then f k else nat_lt k m) (sym (not_below k n (omega (arith, e))))
      by_place (inr (inr e)) =
          ap (λ (b : Bool). if b then with_nonbasic f n k else nat_lt k m) (not_below k (suc n) (omega (arith, e)))
          ∙ ap (λ (b : Bool). if b then f k else nat_lt k m) (sym (not_below k n (omega (arith, e))))

  -- with no unit
  joined_none : (fs : List (List Part)) (f : ℕ → Bool) → IsBasis (forms_over ns fs) f → (k : ℕ) → f k ≡ joined_to f (length fs) (length fs) k
  joined_none fs f b k = by_place (below_or_past k (length fs)) (f k) refl
    where
      by_place : (k < length fs) ⊎ (length fs ≤ k) → (x : Bool) → f k ≡ x → f k ≡ joined_to f (length fs) (length fs) k
      by_place (inl e) x g = ap (λ (y : Bool). if y then f k else nat_lt k (length fs)) (sym (below k (length fs) e))
      by_place (inr e) true g = absurd (omega (arith, b.listed k g, over_long fs, e))
      by_place (inr e) false g = g ∙ sym (not_below k (length fs) e) ∙ ap (λ (y : Bool). if y then f k else nat_lt k (length fs)) (sym (not_below k (length fs) e))

  pub units_join : (ps : List Part) (fs : List (List Part)) (f : ℕ → Bool) (rows : Rows) → AllByRecursion (NamesUnit ns) ps → AreInOrder ps → Holds fs f rows
      → Holds (with_units fs ps) (joined_to f (length fs) (length (with_units fs ps))) rows
  units_join [] fs f rows names order h =
      subst (λ (l : List (List Part)). Holds l (joined_to f (length fs) (length l)) rows) (sym (append-nil fs))
      (subst (λ (g : ℕ → Bool). Holds fs g rows) (fun_ext (joined_none fs f h.basis)) h)
  units_join (p ∷ ps) fs f rows names order h = by_number (unit_number fs p.unit) refl (units_join ps)
    where
      by_number : (o : Option ℕ) → unit_number fs p.unit ≡ o
          → ((gs : List (List Part)) (g : ℕ → Bool) (rs : Rows) → AllByRecursion (NamesUnit ns) ps → AreInOrder ps → Holds gs g rs → Holds (with_units gs ps) (joined_to g (length gs) (length (with_units gs ps))) rs)
          → Holds (with_units fs (p ∷ ps)) (joined_to f (length fs) (length (with_units fs (p ∷ ps)))) rows
      by_number (Some k) e rest =
          subst (λ (l : List (List Part)). Holds l (joined_to f (length fs) (length l)) rows) (sym (units_known fs p ps k e))
          (rest fs f rows names.1 order.1 h)
      by_number None e rest =
          let gs = fs ++ unit_of p ∷ [] in
          let long : length gs ≡ suc (length fs) = omega (arith, length_push fs (unit_of p)) in
          let far : length fs < length (with_units gs ps) = omega (arith, long, length-append gs (new_units gs ps)) in
          subst (λ (l : List (List Part)). Holds l (joined_to f (length fs) (length l)) rows) (sym (units_step fs p ps e order.0))
          (subst (λ (g : ℕ → Bool). Holds (with_units gs ps) g rows) (fun_ext (joined_step f (length fs) (length (with_units gs ps)) far))
          (subst (λ (n : ℕ). Holds (with_units gs ps) (joined_to (with_nonbasic f (length fs)) n (length (with_units gs ps))) rows) long
          (rest gs (with_nonbasic f (length fs)) rows names.1 order.1 (unit_joins fs f rows p names.0 e h))))
