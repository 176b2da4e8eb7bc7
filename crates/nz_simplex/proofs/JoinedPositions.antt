-- The position when forms have joined: with their units, one after another, and then with the form.
use Rattle.std.proofs.Common.{◌≡◌, ℕ, suc, ◌+◌, ◌<◌, ◌≤◌, ◌⊎◌, inl, inr, Bool, true, false, List, [], ◌∷◌, ◌++◌, length, map, take, Option, Some, None, refl, sym, ap, ap₂, ◌∙◌, true≢false, arith, append_assoc, length-append}
use Rattle.std.specs.Prelude.{is_some, nat_lt, slice_index_or, if◌then◌else◌}
use Rattle.std.proofs.Math.Path.{fun_ext}
use Rattle.std.proofs.lemmas.List.{append-nil, get_or_past, length-map, length_push, map-append}
use Rattle.nz_lists.proofs.Numbers.{below, below_or_past, not_below, equal-number, other-number}
use Rattle.nz_fractions.specs.Fraction.{Fraction}
use Rattle.nz_spec.specs.numbers.Infinitesimal.{Infinitesimal}
use Rattle.nz_spec.specs.simplex.Bland.{Point, Position, zero_infinitesimal}
use Rattle.nz_spec.specs.terms.Form as spec
use Rattle.nz_spec.specs.terms.Form.{unit_form}
use Rattle.nz_spec.specs.simplex.PositionMoves.{with_form, with_unit}
use Rattle.nz_spec.specs.terms.Table.{Node}
use Rattle.nz_spec.specs.terms.Term.{Term}
use Rattle.nz_lin.specs.declared.form.Part.{Part}
use Rattle.nz_lin.specs.Forms.{parts_over}
use Rattle.nz_tab.specs.Tables.{Table}
use Rattle.nz_tab.specs.Units.{is_unit_form, new_units, unit_number, unit_of, with_units}
use Rattle.nz_trail.specs.Bounds.{TrailState}
use Rattle.nz_simplex.specs.Moves.{joined_over, unit_terms, with_all_units}
use Rattle.nz_simplex.specs.State.{State, value_in, point_in, IsSound, position_over}
use Rattle.nz_simplex.specs.Stored.{state_of}
use Rattle.nz_simplex.specs.Tabled.{marks_in}
use Rattle.nz_simplex.proofs.JoinedForms.{IsTabJoined, point_new, point_old}

-- ---- Units

abbrev parts_of : Term → List spec.Part
parts_of u = (unit_form u).parts

-- the point with so many units more
abbrev point_with : Position → ℕ → Point
point_with p m k = if nat_lt k (length p.forms) then p.point k else if nat_lt k (length p.forms + m) then Some zero_infinitesimal else p.point k

abbrev units_at : Position → List Term → Position
units_at p us = record p { forms = p.forms ++ map parts_of us; point = point_with p (length us) }

no_more : (p : Position) → p ≡ units_at p []
no_more p =
    ap (λ (fs : List (List spec.Part)). let q : Position = record { forms = fs; point = p.point; lower = p.lower; upper = p.upper } in q) (sym (append-nil p.forms))
    ∙ ap (λ (x : Point). let q : Position = record { forms = p.forms ++ []; point = x; lower = p.lower; upper = p.upper } in q) (fun_ext (λ k. either k (nat_lt k (length p.forms)) (nat_lt k (length p.forms + 0)) refl refl))
  where
    either : (k : ℕ) (b c : Bool) → nat_lt k (length p.forms) ≡ b → nat_lt k (length p.forms + 0) ≡ c → p.point k ≡ (if b then p.point k else if c then Some zero_infinitesimal else p.point k)
    either k true c e f = refl
    either k false false e f = refl
    either k false true e f = absurd (apart (below_or_past k (length p.forms)))
      where
        apart : (k < length p.forms) ⊎ (length p.forms ≤ k) → ⊥
        apart (inl h) = true≢false (sym (below k (length p.forms) h) ∙ e)
        apart (inr h) = true≢false (sym f ∙ not_below k (length p.forms + 0) (omega (arith, h)))

-- one unit first
one_first : (p : Position) (u : Term) (us : List Term) → units_at (with_unit p u) us ≡ units_at p (u ∷ us)
one_first p u us =
    ap (λ (fs : List (List spec.Part)). let q : Position = record { forms = fs; point = point_with (with_unit p u) (length us); lower = p.lower; upper = p.upper } in q) (append_assoc p.forms (parts_of u ∷ []) (map parts_of us))
    ∙ ap (λ (x : Point). let q : Position = record { forms = p.forms ++ parts_of u ∷ map parts_of us; point = x; lower = p.lower; upper = p.upper } in q) (fun_ext (λ k. same k (place k (length p.forms))))
  where
    place : (k n : ℕ) → (k < n) ⊎ ((k ≡ n) ⊎ (suc n ≤ k))
    place k n = grind arith

    count : length (p.forms ++ parts_of u ∷ []) ≡ length p.forms + 1
    count = length_push p.forms (parts_of u)

    same : (k : ℕ) → (k < length p.forms) ⊎ ((k ≡ length p.forms) ⊎ (suc (length p.forms) ≤ k)) → point_with (with_unit p u) (length us) k ≡ point_with p (suc (length us)) k
    same k (inl h) =
        ap (λ (b : Bool). if b then (with_unit p u).point k else if nat_lt k (length (p.forms ++ parts_of u ∷ []) + length us) then Some zero_infinitesimal else (with_unit p u).point k)
        (below k (length (p.forms ++ parts_of u ∷ [])) (omega (arith, h, count)))
        ∙ ap (λ (b : Bool). if b then Some zero_infinitesimal else p.point k) (other-number k (length p.forms) (omega (arith, h)))
        ∙ sym (ap (λ (b : Bool). if b then p.point k else if nat_lt k (length p.forms + suc (length us)) then Some zero_infinitesimal else p.point k) (below k (length p.forms) h))
    same k (inr (inl e)) =
        ap (λ (b : Bool). if b then (with_unit p u).point k else if nat_lt k (length (p.forms ++ parts_of u ∷ []) + length us) then Some zero_infinitesimal else (with_unit p u).point k)
        (below k (length (p.forms ++ parts_of u ∷ [])) (omega (arith, e, count)))
        ∙ ap (λ (b : Bool). if b then Some zero_infinitesimal else p.point k) (equal-number k (length p.forms) e)
        ∙ sym
        (ap (λ (b : Bool). if b then p.point k else if nat_lt k (length p.forms + suc (length us)) then Some zero_infinitesimal else p.point k) (not_below k (length p.forms) (omega (arith, e)))
        ∙ ap (λ (b : Bool). if b then Some zero_infinitesimal else p.point k) (below k (length p.forms + suc (length us)) (omega (arith, e))))
    same k (inr (inr h)) =
        ap (λ (b : Bool). if b then (with_unit p u).point k else if nat_lt k (length (p.forms ++ parts_of u ∷ []) + length us) then Some zero_infinitesimal else (with_unit p u).point k)
        (not_below k (length (p.forms ++ parts_of u ∷ [])) (omega (arith, h, count)))
        ∙ ap₂ (λ (b c : Bool). if b then Some zero_infinitesimal else if c then Some zero_infinitesimal else p.point k) sums (other-number k (length p.forms) (omega (arith, h)))
        ∙ sym (ap (λ (b : Bool). if b then p.point k else if nat_lt k (length p.forms + suc (length us)) then Some zero_infinitesimal else p.point k) (not_below k (length p.forms) (omega (arith, h))))
      where
        more : length (p.forms ++ parts_of u ∷ []) + length us ≡ length p.forms + suc (length us)
        more = omega (arith, count)

        sums : nat_lt k (length (p.forms ++ parts_of u ∷ []) + length us) ≡ nat_lt k (length p.forms + suc (length us))
        sums = ap (nat_lt k) more

pub units_joined : (p : Position) (us : List Term) → with_all_units p us ≡ units_at p us
units_joined p [] = no_more p
units_joined p (u ∷ us) = units_joined (with_unit p u) us ∙ one_first p u us

-- ---- The units of a form

module _ (ns : List Node) where
  -- the forms of units are those of their terms
  pub unit_parts : (fs : List (List Part)) (f : List Part) → map parts_of (unit_terms ns (new_units fs f)) ≡ map (parts_over ns) (new_units fs f)
  unit_parts fs [] = refl
  unit_parts fs (p ∷ ps) = by_test (is_some (unit_number fs p.unit)) (unit_parts fs ps)
    where
      by_test : (b : Bool) → map parts_of (unit_terms ns (new_units fs ps)) ≡ map (parts_over ns) (new_units fs ps)
          → map parts_of (unit_terms ns (if b then new_units fs ps else unit_of p ∷ new_units fs ps)) ≡ map (parts_over ns) (if b then new_units fs ps else unit_of p ∷ new_units fs ps)
      by_test true h = h
      by_test false h = ap (λ (l : List (List spec.Part)). parts_over ns (unit_of p) ∷ l) h

  pub unit_count : (fs : List (List Part)) (f : List Part) → length (unit_terms ns (new_units fs f)) ≡ length (new_units fs f)
  unit_count fs f =
      sym (length-map (unit_terms ns (new_units fs f)) parts_of)
      ∙ ap length (unit_parts fs f)
      ∙ length-map (new_units fs f) (parts_over ns)

-- ---- The position

module _ {S : Type 0} (stands_for : S → Infinitesimal) (origin : S) (zero_is : stands_for origin ≡ zero_infinitesimal) (old_tab new_tab : Table) (trail : TrailState S) (old new : List (Option S)) (why : List (ℕ × Fraction)) (f : List Part)
    (joined : IsTabJoined old_tab new_tab f) (long : length new ≡ length new_tab.forms) (front : take (length old) new ≡ old)
    (fresh : (k : ℕ) → length old ≤ k → k < length new_tab.forms → slice_index_or new k None ≡ (if slice_index_or (marks_in new_tab) k false then Some origin else None))
    (sound : IsSound (state_of stands_for old_tab trail old why)) (ns : List Node) where
  abbrev here : State
  here = state_of stands_for old_tab trail old why

  abbrev there : State
  there = state_of stands_for new_tab trail new why

  abbrev before : Position
  before = position_over ns here

  abbrev terms : List Term
  terms = unit_terms ns (new_units old_tab.forms f)

  before_count : length before.forms ≡ length old_tab.forms
  before_count = length-map old_tab.forms (parts_over ns)

  past_none : (k : ℕ) → length old_tab.forms ≤ k → point_in here k ≡ None
  past_none k h = ap (λ (b : Bool). if b then value_in here k else None) (get_or_past (marks_in old_tab) k false (omega (arith, h, sound.marked)))

  point_there : (k : ℕ) → point_in there k ≡ point_with before (length terms) k
  point_there k = by_place (below_or_past k (length old_tab.forms))
    where
      units : length before.forms + length terms ≡ length (with_units old_tab.forms f)
      units =
          let count = unit_count ns old_tab.forms f in
          omega (arith, before_count, count, length-append old_tab.forms (new_units old_tab.forms f))

      by_place : (k < length old_tab.forms) ⊎ (length old_tab.forms ≤ k) → point_in there k ≡ point_with before (length terms) k
      by_place (inl h) =
          point_old stands_for origin zero_is old_tab new_tab trail old new why f joined long front fresh sound k h
          ∙ sym (ap (λ (b : Bool). if b then point_in here k else if nat_lt k (length before.forms + length terms) then Some zero_infinitesimal else point_in here k)
          (below k (length before.forms) (omega (arith, h, before_count))))
      by_place (inr h) =
          point_new stands_for origin zero_is old_tab new_tab trail old new why f joined long front fresh sound k h
          ∙ ap (λ (n : ℕ). if nat_lt k n then Some zero_infinitesimal else None) (sym units)
          ∙ ap (λ (o : Option Infinitesimal). if nat_lt k (length before.forms + length terms) then Some zero_infinitesimal else o) (sym (past_none k h))
          ∙ sym (ap (λ (b : Bool). if b then point_in here k else if nat_lt k (length before.forms + length terms) then Some zero_infinitesimal else point_in here k)
          (not_below k (length before.forms) (omega (arith, h, before_count))))

  forms_units : map (parts_over ns) (with_units old_tab.forms f) ≡ before.forms ++ map parts_of terms
  forms_units =
      map-append (parts_over ns) old_tab.forms (new_units old_tab.forms f)
      ∙ ap (λ (l : List (List spec.Part)). before.forms ++ l) (sym (unit_parts ns old_tab.forms f))

  pub joined_position : position_over ns there ≡ joined_over ns here f
  joined_position =
      ap (λ (fs : List (List Part)). let q : Position = record { forms = map (parts_over ns) fs; point = point_in there; lower = before.lower; upper = before.upper } in q) joined.forms
      ∙ ap (λ (x : Point). let q : Position = record { forms = map (parts_over ns) (if is_unit_form f then with_units old_tab.forms f else with_units old_tab.forms f ++ f ∷ []); point = x; lower = before.lower; upper = before.upper } in q) (fun_ext point_there)
      ∙ by_test (is_unit_form f)
    where
      by_test : (b : Bool) → (let q : Position = record { forms = map (parts_over ns) (if b then with_units old_tab.forms f else with_units old_tab.forms f ++ f ∷ []); point = point_with before (length terms); lower = before.lower; upper = before.upper } in q)
          ≡ (if b then with_all_units before terms else with_form (with_all_units before terms) (parts_over ns f))
      by_test true =
          ap (λ (fs : List (List spec.Part)). let q : Position = record { forms = fs; point = point_with before (length terms); lower = before.lower; upper = before.upper } in q) forms_units
          ∙ sym (units_joined before terms)
      by_test false =
          ap (λ (fs : List (List spec.Part)). let q : Position = record { forms = fs; point = point_with before (length terms); lower = before.lower; upper = before.upper } in q)
          (map-append (parts_over ns) (with_units old_tab.forms f) (f ∷ []) ∙ ap (λ (l : List (List spec.Part)). l ++ parts_over ns f ∷ []) forms_units)
          ∙ sym (ap (λ (p : Position). with_form p (parts_over ns f)) (units_joined before terms))
