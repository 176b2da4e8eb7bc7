-- Nonbasic forms without bounds settle at 0.
use Rattle.std.proofs.Common.{◌≡◌, ℕ, zero, suc, arith, ◌<◌, ◌⊎◌, inl, inr, Bool, true, false, List, [], ◌∷◌, ◌++◌, length, Option, Some, None, refl, sym, ap, ◌∙◌, subst, true≢false}
use Rattle.std.specs.Prelude.{◌==◌, ◌≢◌, ◌||◌, option_map, slice_index_or, unwrap_or, is_some, if◌then◌else◌}
use Rattle.std.proofs.lemmas.List.{length-map}
use Rattle.nz_lists.proofs.Numbers.{equal-number, same_or_other, same-number}
use Rattle.nz_fractions.specs.Fraction.{Fraction}
use Rattle.nz_spec.specs.numbers.Infinitesimal.{Infinitesimal}
use Rattle.nz_spec.specs.laws.InfinitesimalMoves.{InfinitesimalsMove}
use Rattle.nz_spec.specs.simplex.Basis.{NonbasicFormIsItself}
use Rattle.nz_spec.specs.simplex.Bland as bland
use Rattle.nz_spec.specs.simplex.Bland.{IsOutside, NonbasicFormsFit, PositionsHaveValues, SumMoves, bound_on, lower_side, upper_side, zero_infinitesimal}
use Rattle.nz_spec.specs.terms.Table.{Node}
use Rattle.nz_tab.specs.Tables.{IsTableau, Table}
use Rattle.nz_trail.specs.Bounds.{TrailState}
use Rattle.nz_trail.specs.declared.limits.Side.TheVariants.{Lower, Upper}
use Rattle.nz_simplex.specs.Choices.{IsFollowed}
use Rattle.nz_simplex.specs.Checks.{IsRenewed}
use Rattle.nz_simplex.specs.Moves.{IsSettled, is_among}
use Rattle.nz_simplex.specs.Standing.{Held, standing}
use Rattle.nz_simplex.specs.State.{State, nonbasic_in, value_in, IsOver, IsSound, position_over}
use Rattle.nz_simplex.specs.Stored.{state_of}
use Rattle.nz_simplex.specs.Tabled.{marks_in, rows_in}
use Rattle.nz_simplex.proofs.NonbasicMoves.{basis_there, known_there, over_before, point_stays, right_there, value_moved, value_stays}
use Rattle.nz_simplex.proofs.StoredStates.{Soundly}

-- ---- One form

module _ {S : Type 0} (stands_for : S → Infinitesimal) (tab : Table) (trail : TrailState S) (old new : List (Option S)) (why : List (ℕ × Fraction)) (v : ℕ) (target : S)
    (moved : slice_index_or new v None ≡ Some target)
    (stays : (k : ℕ) → k ≢ v → slice_index_or (marks_in tab) k false ≡ true → slice_index_or new k None ≡ slice_index_or old k None)
    (sound : IsSound (state_of stands_for tab trail old why)) (nonbasic : nonbasic_in (state_of stands_for tab trail old why) v ≡ true) where
  abbrev here : State
  here = state_of stands_for tab trail old why

  abbrev there : State
  there = state_of stands_for tab trail new why

  pub settled_one : stands_for target ≡ zero_infinitesimal → IsSettled here there (v ∷ [])
  settled_one at_zero = record { forms = refl; marks = refl; asserted = refl; why = refl; point = point }
    where
      point : (k : ℕ) → nonbasic_in here k ≡ true → value_in there k ≡ (if is_among k (v ∷ []) then Some zero_infinitesimal else value_in here k)
      point k e = by_test (k == v) refl
        where
          by_test : (b : Bool) → (k == v) ≡ b → value_in there k ≡ (if b || false then Some zero_infinitesimal else value_in here k)
          by_test true t =
              ap (value_in there) (same-number k v t)
              ∙ value_moved stands_for tab trail trail old new why v target moved stays sound nonbasic
              ∙ ap Some at_zero
          by_test false t =
              value_stays stands_for tab trail trail old new why v target moved stays sound nonbasic k (λ (same : k ≡ v). true≢false (sym (equal-number k v same) ∙ t)) e

  module _ (lower : standing here.asserted v Lower ≡ None) (upper : standing here.asserted v Upper ≡ None) where
    no_bound : (ns : List Node) (side : bland.Side) → bound_on side (position_over ns there) v ≡ None
    no_bound ns lower_side = ap (option_map (λ (b : Held). b.value)) lower
    no_bound ns upper_side = ap (option_map (λ (b : Held). b.value)) upper

    same_bound : (ns : List Node) (side : bland.Side) (k : ℕ) → bound_on side (position_over ns there) k ≡ bound_on side (position_over ns here) k
    same_bound ns lower_side k = refl
    same_bound ns upper_side k = refl

    fit_there : (ns : List Node) → IsOver ns there → NonbasicFormsFit (position_over ns there)
    fit_there ns over side k bound e stands out = by_case (same_or_other k v)
      where
        by_case : (k ≡ v) ⊎ (k ≢ v) → ⊥
        by_case (inl same) =
            let none : None ≡ Some bound = sym (no_bound ns side) ∙ ap (bound_on side (position_over ns there)) (sym same) ∙ stands in
            absurd (cc)
        by_case (inr other) =
            let point = point_stays stands_for tab trail trail old new why v target moved stays sound nonbasic k other in
            (sound.ready ns (over_before stands_for tab trail trail old new why v target moved stays sound nonbasic ns over)).fit side k bound
            (ap is_some (sym point) ∙ e)
            (sym (same_bound ns side k) ∙ stands)
            (subst (λ (o : Option Infinitesimal). IsOutside side bound (unwrap_or o zero_infinitesimal)) point out)

    pub sound_settled : SumMoves → PositionsHaveValues → InfinitesimalsMove → NonbasicFormIsItself → IsTableau tab → length new ≡ length tab.forms
        → ((k : ℕ) → k < length tab.forms → slice_index_or (marks_in tab) k false ≡ false
        → IsFollowed stands_for (slice_index_or old v None) target (rows_in tab k v) (slice_index_or old k None) (slice_index_or new k None))
        → IsSound there
    sound_settled sums values infinitesimals itself tableau long follows = record {
      marked = sound.marked;
      valued = length-map new (option_map stands_for) ∙ long;
      known = known_there stands_for tab trail trail old new why v target moved stays sound nonbasic;
      ready = λ ns over.
          let ready = sound.ready ns (over_before stands_for tab trail trail old new why v target moved stays sound nonbasic ns over) in
          record {
            basis = basis_there stands_for tab trail trail old new why v target moved stays sound nonbasic ns over;
            listed = λ side k bound e. ready.listed side k bound (sym (same_bound ns side k) ∙ e);
            fit = fit_there ns over;
            consistent = ready.consistent;
          };
      right = λ ns k x over e.
          right_there stands_for tab trail trail old new why v target moved stays sound nonbasic sums values infinitesimals itself tableau long follows ns over k x e;
    }

pub settled_shown : {S : Type 0} (stands_for : S → Infinitesimal) (tab : Table) (trail : TrailState S) (old now new : List (Option S)) (why : List (ℕ × Fraction)) (seen : State) (v : ℕ) (target : S)
    → state_of stands_for tab trail old why ≡ seen → IsSound (state_of stands_for tab trail old why) → nonbasic_in seen v ≡ true → standing seen.asserted v Lower ≡ None → standing seen.asserted v Upper ≡ None
    → stands_for target ≡ zero_infinitesimal → SumMoves → PositionsHaveValues → InfinitesimalsMove → NonbasicFormIsItself → IsTableau tab → now ≡ old → length new ≡ length now
    → slice_index_or new v None ≡ Some target
    → ((k : ℕ) → k ≢ v → slice_index_or (marks_in tab) k false ≡ true → slice_index_or new k None ≡ slice_index_or now k None)
    → ((k : ℕ) → k < length tab.forms → slice_index_or (marks_in tab) k false ≡ false
    → IsFollowed stands_for (slice_index_or now v None) target (rows_in tab k v) (slice_index_or now k None) (slice_index_or new k None))
    → Soundly (λ s. IsSettled seen s (v ∷ [])) (state_of stands_for tab trail new why)
settled_shown {S} stands_for tab trail old now new why seen v target view sound nonbasic lower upper at_zero sums values infinitesimals itself tableau is_now long moved stays follows =
    let here : State = state_of stands_for tab trail old why in
    let marked : nonbasic_in here v ≡ true = ap (λ (s : State). nonbasic_in s v) view ∙ nonbasic in
    let stays_here : (k : ℕ) → k ≢ v → slice_index_or (marks_in tab) k false ≡ true → slice_index_or new k None ≡ slice_index_or old k None =
    subst (λ (vs : List (Option S)). (k : ℕ) → k ≢ v → slice_index_or (marks_in tab) k false ≡ true → slice_index_or new k None ≡ slice_index_or vs k None) is_now stays in
    let follows_here : (k : ℕ) → k < length tab.forms → slice_index_or (marks_in tab) k false ≡ false
    → IsFollowed stands_for (slice_index_or old v None) target (rows_in tab k v) (slice_index_or old k None) (slice_index_or new k None) =
    subst
    (λ (vs : List (Option S)). (k : ℕ) → k < length tab.forms → slice_index_or (marks_in tab) k false ≡ false
    → IsFollowed stands_for (slice_index_or vs v None) target (rows_in tab k v) (slice_index_or vs k None) (slice_index_or new k None))
    is_now follows in
    record {
      shown = subst (λ (s : State). IsSettled s (state_of stands_for tab trail new why) (v ∷ [])) view (settled_one stands_for tab trail old new why v target moved stays_here sound marked at_zero);
      sound =
          sound_settled stands_for tab trail old new why v target moved stays_here sound marked
          (ap (λ (s : State). standing s.asserted v Lower) view ∙ lower)
          (ap (λ (s : State). standing s.asserted v Upper) view ∙ upper)
          sums values infinitesimals itself tableau
          (long ∙ ap length is_now ∙ sym (length-map old (option_map stands_for)) ∙ sound.valued)
          follows_here;
    }

-- what is marked is in the list
pub marked_inside : (marks : List Bool) (k : ℕ) → slice_index_or marks k false ≡ true → k < length marks
marked_inside [] k e = absurd (true≢false (sym e))
marked_inside (m ∷ ms) zero e = omega arith
marked_inside (m ∷ ms) (suc k) e = let rest = marked_inside ms k e in omega (arith, rest)

-- ---- One form after another

pub settled_none : (s : State) → IsSettled s s []
settled_none s = record { forms = refl; marks = refl; asserted = refl; why = refl; point = λ k e. refl }

among_last : (k v : ℕ) (vs : List ℕ) → is_among k (vs ++ v ∷ []) ≡ (is_among k vs || is_among k (v ∷ []))
among_last k v [] = refl
among_last k v (w ∷ ws) = by_test (k == w) (among_last k v ws)
  where
    by_test : (b : Bool) → is_among k (ws ++ v ∷ []) ≡ (is_among k ws || is_among k (v ∷ [])) → (b || is_among k (ws ++ v ∷ [])) ≡ ((b || is_among k ws) || is_among k (v ∷ []))
    by_test true h = refl
    by_test false h = h

pub settled_more : (s t u : State) (vs : List ℕ) (v : ℕ) → IsSettled s t vs → IsSettled t u (v ∷ []) → IsSettled s u (vs ++ v ∷ [])
settled_more s t u vs v h g = record {
  forms = g.forms ∙ h.forms;
  marks = g.marks ∙ h.marks;
  asserted = g.asserted ∙ h.asserted;
  why = g.why ∙ h.why;
  point = λ k e.
      g.point k (ap (λ (ms : List Bool). slice_index_or ms k false) h.marks ∙ e)
      ∙ by_tests k (is_among k vs) (is_among k (v ∷ [])) (h.point k e)
      ∙ ap (λ (b : Bool). if b then Some zero_infinitesimal else value_in s k) (sym (among_last k v vs));
}
  where
    by_tests : (k : ℕ) (b c : Bool) → value_in t k ≡ (if b then Some zero_infinitesimal else value_in s k)
        → (if c then Some zero_infinitesimal else value_in t k) ≡ (if b || c then Some zero_infinitesimal else value_in s k)
    by_tests k true true e = refl
    by_tests k true false e = e
    by_tests k false true e = refl
    by_tests k false false e = e

-- what renewal leaves of it
pub settled_renewed : (s t u : State) (vs : List ℕ) → IsSettled s t vs → IsRenewed t u → IsSettled s u vs
settled_renewed s t u vs h g = record {
  forms = ap (λ (w : State). w.forms) g.rest ∙ h.forms;
  marks = marks ∙ h.marks;
  asserted = ap (λ (w : State). w.asserted) g.rest ∙ h.asserted;
  why = ap (λ (w : State). w.why) g.rest ∙ h.why;
  point = λ k e. same k (ap (λ (ms : List Bool). slice_index_or ms k false) h.marks ∙ e) ∙ h.point k e;
}
  where
    marks : u.marks ≡ t.marks
    marks = ap (λ (w : State). w.marks) g.rest

    same : (k : ℕ) → nonbasic_in t k ≡ true → value_in u k ≡ value_in t k
    same k e =
        sym (ap (λ (b : Bool). if b then value_in u k else None) (ap (λ (ms : List Bool). slice_index_or ms k false) marks ∙ e))
        ∙ g.point k
        ∙ ap (λ (b : Bool). if b then value_in t k else None) e
