-- What joins leaves a tableau.
use Rattle.std.proofs.Common.{◌≡◌, ℕ, ◌+◌, ◌<◌, ◌≤◌, Bool, true, false, ◌⊎◌, inl, inr, List, [], ◌∷◌, ◌++◌, length, None, sym, ap, ◌∙◌, subst, true≢false, arith}
use Rattle.std.specs.Prelude.{if◌then◌else◌, nat_lt}
use Rattle.std.specs.List.{AllByRecursion}
use Rattle.std.proofs.Math.Path.{fun_ext}
use Rattle.std.proofs.lemmas.List.{get_or_past, length-map, length_push}
use Rattle.nz_lists.proofs.Numbers.{below_or_past, below_same_or_past, equal-number, other-number, below, not_below}
use Rattle.nz_spec.specs.terms.FormOf.{TermHasItsNumber, number_in}
use Rattle.nz_spec.specs.terms.Table.{Node, term_in}
use Rattle.nz_spec.specs.simplex.Basis.{IsBasis, IsRow}
use Rattle.nz_spec.specs.simplex.BasisMoves.{AreRows, JoinsKeepBasis, with_nonbasic}
use Rattle.nz_lin.specs.declared.form.Part.{Part}
use Rattle.nz_lin.specs.Forms.{AreUnits, parts_over}
use Rattle.nz_tab.specs.Laws.{joined_to}
use Rattle.nz_tab.specs.Rows.{Grid, is_nonbasic, rows_of}
use Rattle.nz_tab.specs.Sums.{IsWidened}
use Rattle.nz_tab.specs.Tables.{HasRows, IsTableau, forms_over}
use Rattle.nz_tab.specs.Units.{unit_number, unit_of}
use Rattle.nz_tab.proofs.JoinedUnits.{Holds, unit_joins}

-- ---- Fronts

pub front_all : {X : Type 0} (P : X → Type 0) (xs ys : List X) → AllByRecursion P (xs ++ ys) → AllByRecursion P xs
front_all P [] ys h = _
front_all P (x ∷ xs) ys h = (h.0, front_all P xs ys h.1)

pub back_all : {X : Type 0} (P : X → Type 0) (xs ys : List X) → AllByRecursion P (xs ++ ys) → AllByRecursion P ys
back_all P [] ys h = h
back_all P (x ∷ xs) ys h = back_all P xs ys h.1

-- ---- Units

pub nonbasic_then : (old mid : Grid) (units : ℕ) → IsWidened old mid units → (k : ℕ) → is_nonbasic mid k ≡ joined_to (is_nonbasic old) (length old.marks) (length old.marks + units) k
nonbasic_then old mid units w k = by_place (three k (length old.marks) (length old.marks + units) (omega arith))
  where
    three : (k n m : ℕ) → n ≤ m → (k < n) ⊎ (((n ≤ k) × (k < m)) ⊎ (m ≤ k))
    three k n m h = grind (arith, h)

    by_place : (k < length old.marks) ⊎ (((length old.marks ≤ k) × (k < length old.marks + units)) ⊎ (length old.marks + units ≤ k)) → is_nonbasic mid k ≡ joined_to (is_nonbasic old) (length old.marks) (length old.marks + units) k
    by_place (inl e) = w.before k e ∙ ap (λ (b : Bool). if b then is_nonbasic old k else nat_lt k (length old.marks + units)) (sym (below k (length old.marks) e))
    by_place (inr (inl e)) =
        w.behind k e.0 e.1
        ∙ sym (below k (length old.marks + units) e.1)
        ∙ ap (λ (b : Bool). if b then is_nonbasic old k else nat_lt k (length old.marks + units)) (sym (not_below k (length old.marks) e.0))
    by_place (inr (inr e)) =
        get_or_past mid.marks k false (omega (arith, w.count, e))
        ∙ sym (not_below k (length old.marks + units) e)
        ∙ ap (λ (b : Bool). if b then is_nonbasic old k else nat_lt k (length old.marks + units)) (sym (not_below k (length old.marks) (omega (arith, e))))

module _ (law : JoinsKeepBasis) (ns : List Node) (number : (i : ℕ) → i < length ns → number_in ns (term_in ns i) ≡ i) where
  -- the rows of a wider grid are those of the forms with the units
  pub widened_holds : (old mid : Grid) (fs : List (List Part)) (units : ℕ) → IsWidened old mid units → length fs ≡ length old.marks + units
      → Holds law ns number fs (joined_to (is_nonbasic old) (length old.marks) (length old.marks + units)) (rows_of old) → HasRows ns (record { forms = fs; grid = mid })
  widened_holds old mid fs units w count h =
      let same : joined_to (is_nonbasic old) (length old.marks) (length old.marks + units) ≡ is_nonbasic mid = fun_ext (λ k. sym (nonbasic_then old mid units w k)) in
      record { basis = subst (IsBasis (forms_over ns fs)) same h.basis; rows = rows }
    where
      rows : AreRows (forms_over ns fs) (is_nonbasic mid) (rows_of mid)
      rows r inside b = by_place (below_or_past r (length old.marks))
        where
          by_place : (r < length old.marks) ⊎ (length old.marks ≤ r) → IsRow (forms_over ns fs) (is_nonbasic mid) r (rows_of mid r)
          by_place (inr far) = absurd (true≢false (sym (w.behind r far (omega (arith, inside, count, length-map fs (parts_over ns)))) ∙ b))
          by_place (inl e) =
              let same : joined_to (is_nonbasic old) (length old.marks) (length old.marks + units) ≡ is_nonbasic mid = fun_ext (λ k. sym (nonbasic_then old mid units w k)) in
              subst (IsRow (forms_over ns fs) (is_nonbasic mid) r) (sym (w.rows r e))
              (subst (λ (f : ℕ → Bool). IsRow (forms_over ns fs) f r (rows_of old r)) same (h.are_rows r inside (nonbasic_again ∙ b)))
            where
              nonbasic_again : joined_to (is_nonbasic old) (length old.marks) (length old.marks + units) r ≡ is_nonbasic mid r
              nonbasic_again = sym (nonbasic_then old mid units w r)

-- one form more that is nonbasic
one_more : (f : ℕ → Bool) (n : ℕ) → ((m : ℕ) → n ≤ m → f m ≡ false) → (k : ℕ) → with_nonbasic f n k ≡ joined_to f n (n + 1) k
one_more f n past k = by_place (below_same_or_past k n)
  where
    by_place : (k < n) ⊎ ((k ≡ n) ⊎ (n < k)) → with_nonbasic f n k ≡ joined_to f n (n + 1) k
    by_place (inl e) =
        ap (λ (b : Bool). if b then true else f k) (other-number k n (λ q. omega (arith, q, e)))
        ∙ ap (λ (b : Bool). if b then f k else nat_lt k (n + 1)) (sym (below k n e))
    by_place (inr (inl e)) =
        ap (λ (b : Bool). if b then true else f k) (equal-number k n e)
        ∙ sym (below k (n + 1) (omega (arith, e)))
        ∙ ap (λ (b : Bool). if b then f k else nat_lt k (n + 1)) (sym (not_below k n (omega (arith, e))))
    by_place (inr (inr e)) =
        ap (λ (b : Bool). if b then true else f k) (other-number k n (λ q. omega (arith, q, e)))
        ∙ past k (omega (arith, e))
        ∙ sym (not_below k (n + 1) (omega (arith, e)))
        ∙ ap (λ (b : Bool). if b then f k else nat_lt k (n + 1)) (sym (not_below k n (omega (arith, e))))

-- a unit that joins
pub unit_tableau : JoinsKeepBasis → TermHasItsNumber → (forms : List (List Part)) (old mid : Grid) (p : Part) → length old.marks ≡ length forms → unit_number forms p.unit ≡ None → IsWidened old mid 1
    → IsTableau (record { forms = forms; grid = old }) → IsTableau (record { forms = forms ++ unit_of p ∷ []; grid = mid })
unit_tableau law numbers forms old mid p count none w is ns table all =
    let number = numbers ns table in
    let front = front_all (AreUnits ns) forms (unit_of p ∷ []) all in
    let has = is ns table front in
    let names = (back_all (AreUnits ns) forms (unit_of p ∷ []) all).0.names.0 in
    let h : Holds law ns number forms (is_nonbasic old) (rows_of old) = record { basis = has.basis; are_rows = has.rows; units = front } in
    widened_holds law ns number old mid (forms ++ unit_of p ∷ []) 1 w (length_push forms (unit_of p) ∙ ap (λ (n : ℕ). n + 1) (sym count))
    (subst (λ (f : ℕ → Bool). Holds law ns number (forms ++ unit_of p ∷ []) f (rows_of old)) (fun_ext same)
    (unit_joins law ns number forms (is_nonbasic old) (rows_of old) p names none h))
  where
    same : (k : ℕ) → with_nonbasic (is_nonbasic old) (length forms) k ≡ joined_to (is_nonbasic old) (length old.marks) (length old.marks + 1) k
    same k = ap (λ (n : ℕ). with_nonbasic (is_nonbasic old) n k) (sym count) ∙ one_more (is_nonbasic old) (length old.marks) (λ m e. get_or_past old.marks m false e) k
