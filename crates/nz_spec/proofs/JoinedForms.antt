-- Units and forms that join the forms of a simplex: which forms are there then, that they have a basis, and that none stands twice.
use Rattle.std.proofs.Common.{◌≡◌, ℕ, suc, Bool, true, false, ◌⊎◌, inl, inr, List, [], ◌∷◌, ◌++◌, Contains, slice_get, Some, None, refl, sym, ap, ◌∙◌, subst, true≢false, map}
use Rattle.std.specs.Prelude.{fold, is_some, if◌then◌else◌}
use Rattle.std.specs.List.{list_any}
use Rattle.std.proofs.lemmas.List.Elements.{Contains-append_left, Contains-push, Contains-push_cases}
use Rattle.std.proofs.lemmas.List.Folds.{Any-from_list_any, list_any-from_Any}
use Rattle.nz_lists.proofs.Members.{has_cases, has_first, has_more, has_none}
use Rattle.nz_spec.specs.terms.Term.{Term}
use Rattle.nz_spec.specs.terms.Form.{Part, unit_form, negated_part}
use Rattle.nz_spec.specs.clauses.Literal.{are_same_parts}
use Rattle.nz_spec.specs.simplex.Basis.{HasItsUnits, IsBasis}
use Rattle.nz_spec.specs.simplex.Bland.{is_nonbasic, Position, lower_side, upper_side}
use Rattle.nz_spec.specs.simplex.PositionMoves.{with_unit, with_form}
use Rattle.nz_spec.specs.simplex.LiteralBounds.{is_unit_alone, is_unit_form, with_new_unit, joined, bounded_from}
use Rattle.nz_spec.proofs.Literals.{same_parts, one_parts}
use Rattle.nz_spec.proofs.BasisJoins.{joins_keep_basis}
use Rattle.nz_spec.proofs.PositionMovesKeep.{unit-tests}
use Rattle.nz_spec.proofs.LegalWork.{once_more, has_at}

-- ---- Units and forms that join

-- whether a unit is one of the forms
abbrev has_unit : List (List Part) → Term → Bool
has_unit fs u = list_any (λ f. is_unit_alone f u) fs

unit-found : (fs : List (List Part)) (u : Term) → Contains fs (unit_form u).parts → has_unit fs u ≡ true
unit-found fs u h = list_any-from_Any (λ f. is_unit_alone f u) fs (h.0, (unit_form u).parts, h.1, h.2, one_parts (unit_form u).parts)

unit-there : (fs : List (List Part)) (u : Term) → has_unit fs u ≡ true → Contains fs (unit_form u).parts
unit-there fs u e =
    let found = Any-from_list_any (λ f. is_unit_alone f u) fs e in
    subst (Contains fs) (same_parts found.1 (unit_form u).parts found.4) (found.0, found.2, found.3)

new-unit-there : (p : Position) (r : Part) → Contains (with_new_unit p r).forms (unit_form r.unit).parts
new-unit-there p r = by_test (has_unit p.forms r.unit) refl
  where
    by_test : (a : Bool) → has_unit p.forms r.unit ≡ a → Contains (if a then p else with_unit p r.unit).forms (unit_form r.unit).parts
    by_test true e = unit-there p.forms r.unit e
    by_test false e = Contains-push p.forms (unit_form r.unit).parts

new-unit-keeps : (p : Position) (r : Part) (f : List Part) → Contains p.forms f → Contains (with_new_unit p r).forms f
new-unit-keeps p r f h = by_test (has_unit p.forms r.unit)
  where
    by_test : (a : Bool) → Contains (if a then p else with_unit p r.unit).forms f
    by_test true = h
    by_test false = Contains-append_left p.forms ((unit_form r.unit).parts ∷ []) f h

units-keep : (p : Position) (rs : List Part) (f : List Part) → Contains p.forms f → Contains (fold with_new_unit p rs).forms f
units-keep p [] f h = h
units-keep p (r ∷ rs) f h = units-keep (with_new_unit p r) rs f (new-unit-keeps p r f h)

pub units-there : (p : Position) (rs : List Part) → HasItsUnits (fold with_new_unit p rs).forms rs
units-there p [] = tt
units-there p (r ∷ rs) = (units-keep (with_new_unit p r) rs (unit_form r.unit).parts (new-unit-there p r), units-there (with_new_unit p r) rs)

-- which forms there are doesn't rest on the point
unit-forms : (p q : Position) (r : Part) → p.forms ≡ q.forms → (with_new_unit p r).forms ≡ (with_new_unit q r).forms
unit-forms p q r same = by_tests (has_unit p.forms r.unit) (has_unit q.forms r.unit) (ap (λ (fs : List (List Part)). has_unit fs r.unit) same)
  where
    by_tests : (a b : Bool) → a ≡ b → (if a then p else with_unit p r.unit).forms ≡ (if b then q else with_unit q r.unit).forms
    by_tests true true e = same
    by_tests true false e = absurd (true≢false e)
    by_tests false true e = absurd (true≢false (sym e))
    by_tests false false e = ap (λ (fs : List (List Part)). fs ++ (unit_form r.unit).parts ∷ []) same

units-forms : (p q : Position) (rs : List Part) → p.forms ≡ q.forms → (fold with_new_unit p rs).forms ≡ (fold with_new_unit q rs).forms
units-forms p q [] same = same
units-forms p q (r ∷ rs) same = units-forms (with_new_unit p r) (with_new_unit q r) rs (unit-forms p q r same)

pub joined-forms : (p q : Position) (f : List Part) → p.forms ≡ q.forms → (joined p f).forms ≡ (joined q f).forms
joined-forms p q f same = by_test (is_unit_form f)
  where
    by_test : (a : Bool) → (if a then fold with_new_unit p f else with_form (fold with_new_unit p f) f).forms
        ≡ (if a then fold with_new_unit q f else with_form (fold with_new_unit q f) f).forms
    by_test true = units-forms p q f same
    by_test false = ap (λ (fs : List (List Part)). fs ++ f ∷ []) (units-forms p q f same)

-- ---- Which forms are new

new-unit-cases : (p : Position) (r : Part) (f : List Part) → Contains (with_new_unit p r).forms f → Contains p.forms f ⊎ (f ≡ (unit_form r.unit).parts)
new-unit-cases p r f has = by_test (has_unit p.forms r.unit) has
  where
    by_test : (a : Bool) → Contains (if a then p else with_unit p r.unit).forms f → Contains p.forms f ⊎ (f ≡ (unit_form r.unit).parts)
    by_test true h = inl h
    by_test false h = elim (Contains-push_cases p.forms (unit_form r.unit).parts f h) [ inl before ↦ inl before | inr last ↦ inr (sym last) ]

units-cases : (p : Position) (rs : List Part) (f : List Part) → Contains (fold with_new_unit p rs).forms f → Contains p.forms f ⊎ ((u : Term) × (f ≡ (unit_form u).parts))
units-cases p [] f has = inl has
units-cases p (r ∷ rs) f has =
    elim (units-cases (with_new_unit p r) rs f has) [
      | inl there ↦ elim (new-unit-cases p r f there) [ inl before ↦ inl before | inr is ↦ inr (r.unit, is) ]
      | inr unit ↦ inr unit
    ]

-- a form that is there, or with the other signs, has a number
some_none : {A : Type 0} {x : A} → Some x ≡ None → ⊥
some_none e = true≢false (ap is_some e)

there-bounded : (k : ℕ) (fs : List (List Part)) (f : List Part) → Contains fs f → bounded_from k fs f ≡ None → ⊥
there-bounded k [] f has e = has_none f has
there-bounded k (g ∷ fs) f has e =
    by_tests (are_same_parts g f) (are_same_parts g (map negated_part f)) refl (there-bounded (suc k) fs f) (has_cases g f fs has) e
  where
    by_tests : (a b : Bool) → are_same_parts g f ≡ a → (Contains fs f → bounded_from (suc k) fs f ≡ None → ⊥) → (g ≡ f) ⊎ Contains fs f
        → (if a then Some (k, upper_side) else if b then Some (k, lower_side) else bounded_from (suc k) fs f) ≡ None → ⊥
    by_tests true b test behind place h = some_none h
    by_tests false true test behind place h = some_none h
    by_tests false false test behind (inl is) h = true≢false (sym (ap (λ (x : List Part). are_same_parts x f) is ∙ one_parts f) ∙ test)
    by_tests false false test behind (inr later) h = behind later h

unit-is-unit : (u : Term) → is_unit_form (unit_form u).parts ≡ true
unit-is-unit u = one_parts (unit_form u).parts

-- ---- A basis in which no form stands twice

abbrev AreOne : List Part → List Part → Type 0
AreOne f g = (f ≡ g) × (f ≡ [] → ⊥)

one-back : (f g : List Part) → AreOne f g → AreOne g f
one-back f g (e, some) = (sym e, λ none. some (e ∙ none))

abbrev pub FormsStandOnce : List (List Part) → Type 0
FormsStandOnce fs = (i j : ℕ) (f : List Part) → slice_get fs i ≡ Some f → slice_get fs j ≡ Some f → (f ≡ [] → ⊥) → i ≡ j

once-push : (fs : List (List Part)) (f : List Part) → (Contains fs f → ⊥) → FormsStandOnce fs → FormsStandOnce (fs ++ f ∷ [])
once-push fs f new once i j g at_i at_j some =
    once_more AreOne one-back fs f (λ k l x y at_k at_l same. once k l x at_k (at_l ∙ ap Some (sym same.0)) same.1)
    (λ k x at same. new (has_at fs k f x at same.0)) i j g g at_i at_j (refl, some)

pub record IsBased (p : Position) : Type 0 where
  pub basis : IsBasis p.forms (is_nonbasic p.point)
  pub once : FormsStandOnce p.forms

unit-based : (p : Position) (u : Term) → (Contains p.forms (unit_form u).parts → ⊥) → IsBased p → IsBased (with_unit p u)
unit-based p u new h = record {
  basis =
      subst (λ (test : ℕ → Bool). IsBasis (p.forms ++ (unit_form u).parts ∷ []) test) (unit-tests p u)
      (joins_keep_basis.unit p.forms (is_nonbasic p.point) u h.basis new);
  once = once-push p.forms (unit_form u).parts new h.once;
}

new-unit-based : (p : Position) (r : Part) → IsBased p → IsBased (with_new_unit p r)
new-unit-based p r h = by_test (has_unit p.forms r.unit) refl
  where
    by_test : (a : Bool) → has_unit p.forms r.unit ≡ a → IsBased (if a then p else with_unit p r.unit)
    by_test true e = h
    by_test false e = unit-based p r.unit (λ has. true≢false (sym (unit-found p.forms r.unit has) ∙ e)) h

units-based : (p : Position) (rs : List Part) → IsBased p → IsBased (fold with_new_unit p rs)
units-based p [] h = h
units-based p (r ∷ rs) h = units-based (with_new_unit p r) rs (new-unit-based p r h)

pub joined-based : (p : Position) (f : List Part) → bounded_from 0 p.forms f ≡ None → IsBased p → IsBased (joined p f)
joined-based p f new h = by_test (is_unit_form f) refl
  where
    by_test : (a : Bool) → is_unit_form f ≡ a → IsBased (if a then fold with_new_unit p f else with_form (fold with_new_unit p f) f)
    by_test true e = units-based p f h
    by_test false e =
        let q = fold with_new_unit p f in
        let based = units-based p f h in
        let fresh : Contains q.forms f → ⊥ = λ has. elim (units-cases p f f has) [
          | inl there ↦ there-bounded 0 p.forms f there new
          | inr unit ↦ true≢false (sym (ap is_unit_form unit.1 ∙ unit-is-unit unit.0) ∙ e)
        ] in
        record { basis = joins_keep_basis.form q.forms (is_nonbasic q.point) f based.basis (units-there p f); once = once-push q.forms f fresh based.once }

-- ---- What each form of the list is

module _ (P : List Part → Type 0) where
  new-unit-all : (p : Position) (r : Part) → P (unit_form r.unit).parts → ((f : List Part) → Contains p.forms f → P f) → (f : List Part) → Contains (with_new_unit p r).forms f → P f
  new-unit-all p r unit all f has = elim (new-unit-cases p r f has) [ inl before ↦ all f before | inr is ↦ subst P (sym is) unit ]

  units-all : (p : Position) (rs : List Part) → ((r : Part) → Contains rs r → P (unit_form r.unit).parts) → ((f : List Part) → Contains p.forms f → P f)
      → (f : List Part) → Contains (fold with_new_unit p rs).forms f → P f
  units-all p [] units all = all
  units-all p (r ∷ rs) units all =
      units-all (with_new_unit p r) rs (λ o has. units o (has_more r o rs has)) (new-unit-all p r (units r (has_first r rs)) all)

  pub joined-all : (p : Position) (f : List Part) → P f → ((r : Part) → Contains f r → P (unit_form r.unit).parts) → ((g : List Part) → Contains p.forms g → P g)
      → (g : List Part) → Contains (joined p f).forms g → P g
  joined-all p f own units all = by_test (is_unit_form f)
    where
      by_test : (a : Bool) → (g : List Part) → Contains (if a then fold with_new_unit p f else with_form (fold with_new_unit p f) f).forms g → P g
      by_test true g has = units-all p f units all g has
      by_test false g has =
          elim (Contains-push_cases (fold with_new_unit p f).forms f g has) [ inl before ↦ units-all p f units all g before | inr last ↦ subst P last own ]
