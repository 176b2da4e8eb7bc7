-- The value of a basic form is known from now on, and nothing else changes.
use Rattle.std.proofs.Common.{◌≡◌, ℕ, ◌<◌, Bool, true, false, List, length, map, Option, Some, None, refl, sym, ap, ◌∙◌, subst, true≢false}
use Rattle.std.specs.Prelude.{◌==◌, ◌≢◌, IsSome, is_some, option_map, unwrap_or, set, if◌then◌else◌}
use Rattle.std.proofs.Math.Path.{fun_ext}
use Rattle.std.proofs.lemmas.List.{length-map, length-set, get_or-set_same, get_or-set_other}
use Rattle.nz_lists.proofs.Places.{slice_index_or-map}
use Rattle.nz_lists.proofs.Numbers.{equal-number, same-number}
use Rattle.nz_fractions.specs.Fraction.{Fraction}
use Rattle.nz_spec.specs.numbers.Infinitesimal.{Infinitesimal}
use Rattle.nz_spec.specs.simplex.Bland.{Point, Position, HasValue}
use Rattle.nz_spec.specs.simplex.PositionMoves.{IsReadyToCheck}
use Rattle.nz_spec.specs.terms.Table.{Node}
use Rattle.nz_tab.specs.Tables.{Table}
use Rattle.nz_trail.specs.Bounds.{TrailState}
use Rattle.nz_simplex.specs.Checks.{IsRenewed}
use Rattle.nz_simplex.specs.State.{State, nonbasic_in, value_in, point_in, IsOver, IsSound, position_over}
use Rattle.nz_simplex.specs.Stored.{state_of}

module _ {S : Type 0} (stands_for : S → Infinitesimal) (tab : Table) (trail : TrailState S) (values : List (Option S)) (why : List (ℕ × Fraction)) (var : ℕ) (x : S)
    (sound : IsSound (state_of stands_for tab trail values why)) (inside : var < length values) (basic : nonbasic_in (state_of stands_for tab trail values why) var ≡ false)
    (unknown : value_in (state_of stands_for tab trail values why) var ≡ None)
    (right : (ns : List Node) → IsOver ns (state_of stands_for tab trail values why) → HasValue (position_over ns (state_of stands_for tab trail values why)) var (stands_for x)) where
  abbrev here : State
  here = state_of stands_for tab trail values why

  abbrev there : State
  there = state_of stands_for tab trail (set values var (Some x)) why

  same_other : (k : ℕ) → k ≢ var → value_in there k ≡ value_in here k
  same_other k other =
      slice_index_or-map (option_map stands_for) (set values var (Some x)) k None
      ∙ ap (option_map stands_for) (get_or-set_other values var k (Some x) None other)
      ∙ sym (slice_index_or-map (option_map stands_for) values k None)

  same_var : value_in there var ≡ Some (stands_for x)
  same_var =
      slice_index_or-map (option_map stands_for) (set values var (Some x)) var None
      ∙ ap (option_map stands_for) (get_or-set_same values var (Some x) None inside)

  apart : (k : ℕ) → nonbasic_in here k ≡ true → k ≢ var
  apart k e same = true≢false (sym e ∙ ap (nonbasic_in here) same ∙ basic)

  point_at : (k : ℕ) → point_in there k ≡ point_in here k
  point_at k = by_test (nonbasic_in here k) refl
    where
      by_test : (b : Bool) → nonbasic_in here k ≡ b → (if b then value_in there k else None) ≡ (if b then value_in here k else None)
      by_test true e = same_other k (apart k e)
      by_test false e = refl

  position_same : (ns : List Node) → position_over ns there ≡ position_over ns here
  position_same ns =
      ap (λ (p : Point). let q : Position = record { forms = (position_over ns here).forms; point = p; lower = (position_over ns here).lower; upper = (position_over ns here).upper } in q)
      (fun_ext point_at)

  again : (ns : List Node) → IsOver ns there → IsOver ns here
  again ns over = record { table = over.table; units = over.units }

  value_right : (ns : List Node) (k : ℕ) (y : Infinitesimal) → IsOver ns there → value_in there k ≡ Some y → HasValue (position_over ns there) k y
  value_right ns k y over e = subst (λ (p : Position). HasValue p k y) (sym (position_same ns)) (by_test (k == var) refl)
    where
      by_test : (b : Bool) → (k == var) ≡ b → HasValue (position_over ns here) k y
      by_test true t =
          let same = same-number k var t in
          let value : stands_for x ≡ y = ap (λ (o : Option Infinitesimal). unwrap_or o y) (sym same_var ∙ ap (value_in there) (sym same) ∙ e) in
          subst (λ (n : ℕ). HasValue (position_over ns here) n y) (sym same)
          (subst (λ (v : Infinitesimal). HasValue (position_over ns here) var v) value (right ns (again ns over)))
      by_test false t = sound.right ns k y (again ns over) (sym (same_other k (λ same. true≢false (sym (equal-number k var same) ∙ t))) ∙ e)

  pub sound_renewed : IsSound there
  sound_renewed = record {
    marked = sound.marked;
    valued =
        length-map (set values var (Some x)) (option_map stands_for)
        ∙ length-set values var (Some x)
        ∙ sym (length-map values (option_map stands_for))
        ∙ sound.valued;
    known = λ k e. subst (λ (o : Option Infinitesimal). IsSome o) (sym (same_other k (apart k e))) (sound.known k e);
    ready = λ ns over. subst (λ (p : Position). IsReadyToCheck p) (sym (position_same ns)) (sound.ready ns (again ns over));
    right = value_right;
  }

  pub renewed : IsRenewed here there
  renewed = record {
    values = map (option_map stands_for) (set values var (Some x));
    rest = refl;
    point = point_at;
    kept = kept_value;
  }
    where
      kept_value : (k : ℕ) (y : Infinitesimal) → value_in here k ≡ Some y → value_in there k ≡ Some y
      kept_value k y e = by_test (k == var) refl
        where
          by_test : (b : Bool) → (k == var) ≡ b → value_in there k ≡ Some y
          by_test true t =
              let same = same-number k var t in
              let none : None ≡ Some y = sym unknown ∙ ap (value_in here) (sym same) ∙ e in
              absurd (cc)
          by_test false t = same_other k (λ same. true≢false (sym (equal-number k var same) ∙ t)) ∙ e

-- ---- By what is shown of the simplex

pub none_known : (o : Option Infinitesimal) → (IsSome o → ⊥) → o ≡ None
none_known None n = refl
none_known (Some x) n = absurd (n refl)

-- a form without a value is basic
pub basic_form : (s : State) → IsSound s → (k : ℕ) → (IsSome (value_in s k) → ⊥) → nonbasic_in s k ≡ false
basic_form s sound k n = by_test (nonbasic_in s k) refl
  where
    by_test : (b : Bool) → nonbasic_in s k ≡ b → b ≡ false
    by_test true e = absurd (n (sound.known k e))
    by_test false e = refl

-- what holds when the value of a form is known
pub record IsRenewedAt (old new : State) (var : ℕ) : Type 0 where
  pub sound : IsSound new
  pub renewed : IsRenewed old new
  pub valued : IsSome (value_in new var)

pub renewed_at : {S : Type 0} (stands_for : S → Infinitesimal) (tab : Table) (trail : TrailState S) (values : List (Option S)) (why : List (ℕ × Fraction)) (var : ℕ) (x : S) (seen : State)
    → state_of stands_for tab trail values why ≡ seen → IsSound (state_of stands_for tab trail values why) → var < length seen.forms → (IsSome (value_in seen var) → ⊥)
    → ((ns : List Node) → IsOver ns seen → HasValue (position_over ns seen) var (stands_for x))
    → IsRenewedAt seen (state_of stands_for tab trail (set values var (Some x)) why) var
renewed_at {S} stands_for tab trail values why var x seen view sound listed unknown right =
    let here : State = state_of stands_for tab trail values why in
    let none : value_in here var ≡ None = ap (λ (s : State). value_in s var) view ∙ none_known (value_in seen var) unknown in
    let unknown_here : IsSome (value_in here var) → ⊥ = λ some. true≢false (sym some ∙ ap is_some none) in
    let basic : nonbasic_in here var ≡ false = basic_form here sound var unknown_here in
    let inside : var < length values =
    subst (λ (m : ℕ). var < m) (sym sound.valued ∙ length-map values (option_map stands_for)) (subst (λ (s : State). var < length s.forms) (sym view) listed) in
    let right_here : (ns : List Node) → IsOver ns here → HasValue (position_over ns here) var (stands_for x) =
    subst (λ (s : State). (ns : List Node) → IsOver ns s → HasValue (position_over ns s) var (stands_for x)) (sym view) right in
    record {
      sound = sound_renewed stands_for tab trail values why var x sound inside basic none right_here;
      renewed = subst (λ (s : State). IsRenewed s (state_of stands_for tab trail (set values var (Some x)) why)) view (renewed stands_for tab trail values why var x sound inside basic none right_here);
      valued =
          subst (λ (o : Option Infinitesimal). IsSome o) (sym (same_var stands_for tab trail values why var x sound inside basic none right_here))
          refl;
    }

-- ---- One renewal after another

pub renewed_itself : (s : State) → IsRenewed s s
renewed_itself s = record { values = s.values; rest = refl; point = λ k. refl; kept = λ k x e. e }

pub renewed_position : (ns : List Node) {s t : State} → IsRenewed s t → position_over ns t ≡ position_over ns s
renewed_position ns {s} {t} h =
    ap (λ (u : State). let q : Position = record { forms = (position_over ns u).forms; point = point_in t; lower = (position_over ns u).lower; upper = (position_over ns u).upper } in q) h.rest
    ∙ ap (λ (p : Point). let q : Position = record { forms = (position_over ns s).forms; point = p; lower = (position_over ns s).lower; upper = (position_over ns s).upper } in q)
    (fun_ext h.point)

pub renewed_forms : {s t : State} → IsRenewed s t → t.forms ≡ s.forms
renewed_forms h = ap (λ (u : State). u.forms) h.rest
