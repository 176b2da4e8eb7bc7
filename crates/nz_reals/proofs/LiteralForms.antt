-- What a literal says of the forms, as the definitions find it: the first form that is its sum, or the sum with the other signs.
use Rattle.std.proofs.Common.{◌≡◌, ℕ, zero, suc, ◌+◌, ◌<◌, ◌⊎◌, inl, inr, Bool, true, false, List, [], ◌∷◌, map, length, Option, Some, None, refl, sym, ap, ◌∙◌, subst, true≢false, arith, pos}
use Rattle.std.proofs.lemmas.Bool.{false_from_ne_true}
use Rattle.std.specs.Prelude.{Contains, option_map, slice_get, slice_index_or, if◌then◌else◌}
use Rattle.std.specs.List.{AllByRecursion}
use Rattle.std.proofs.lemmas.List.{length-map}
use Rattle.std.proofs.lemmas.Option.{get_or_from_slice_get, slice_get-get_or, slice_get_within}
use Rattle.nz_lists.proofs.Members.{at_of, has_first, has_more}
use Rattle.nz_lists.proofs.Places.{slice_index_or-map}
use Rattle.nz_fractions.specs.Fraction.{Fraction, fraction_lt, neg_ℚ, whole}
use Rattle.nz_fractions.proofs.Identities.{neg-back}
use Rattle.nz_spec.specs.simplex.Bland.{at_least_bound, at_most_bound, Side, lower_side, upper_side}
use Rattle.nz_spec.specs.terms.Form as spec
use Rattle.nz_spec.specs.terms.Form.{negated_part}
use Rattle.nz_spec.specs.clauses.Literal.{StandOnce, TellsLiterals, are_same_parts, is_at_most}
use Rattle.nz_spec.specs.simplex.LiteralBounds.{FormBound, bound_on_side, bound_said, bounded_from, sum_bound}
use Rattle.nz_spec.specs.terms.Table.{Node, HasOneNumberEach}
use Rattle.nz_lin.specs.declared.bound.Bound.{Bound}
use Rattle.nz_lin.specs.declared.form.Part.{Part}
use Rattle.nz_lin.specs.Forms.{AreUnits, negated, parts_over}
use Rattle.nz_trail.specs.declared.limits.Side.TheVariants as trail
use Rattle.nz_log.specs.declared.lits.Lit.{Lit}
use Rattle.nz_log.specs.Atoms.{with_sign}
use Rattle.nz_simplex.specs.Standing.{half}
use Rattle.nz_simplex.specs.State as simplex
use Rattle.nz_simplex.specs.State.{State}
use Rattle.nz_reals.specs.Known.{Known, SideBound, form_bound, no_of, said_at, said_by, said_on, yes_of}
use Rattle.nz_reals.specs.Stands.{IsKnown, IsOver}
use Rattle.nz_reals.specs.State.{Theory, known_at, literal_over}
use Rattle.nz_reals.specs.Stored.{AreForms}
use Rattle.nz_reals.specs.Sums.{IsFormSum, is_turned, turned_sum}
use Rattle.nz_reals.proofs.AtomBounds.{literal_of_known}
use Rattle.nz_reals.proofs.Sums.{neg_below, one_sum, over_negated, parts_back, sums_same, sums_told}

-- ---- The first that is found

abbrev at_form : List (List spec.Part) → ℕ → List spec.Part
at_form fs i = slice_index_or fs i []

-- neither the sum nor that with the other signs
abbrev IsOther : List spec.Part → List spec.Part → Type 0
IsOther f ps = (are_same_parts f ps ≡ false) × (are_same_parts f (map negated_part ps) ≡ false)

abbrev IsFoundOn : List spec.Part → List spec.Part → Side → Type 0
IsFoundOn f ps upper_side = are_same_parts f ps ≡ true
IsFoundOn f ps lower_side = (are_same_parts f ps ≡ false) × (are_same_parts f (map negated_part ps) ≡ true)

here_first : (k : ℕ) (f : List spec.Part) (fs : List (List spec.Part)) (ps : List spec.Part) (side : Side) → IsFoundOn f ps side → bounded_from k (f ∷ fs) ps ≡ Some (k, side)
here_first k f fs ps upper_side same =
    ap (λ (b : Bool). if b then Some (k, upper_side) else if are_same_parts f (map negated_part ps) then Some (k, lower_side) else bounded_from (suc k) fs ps) same
here_first k f fs ps lower_side (other, same) =
    ap (λ (b : Bool). if b then Some (k, upper_side) else if are_same_parts f (map negated_part ps) then Some (k, lower_side) else bounded_from (suc k) fs ps) other
    ∙ ap (λ (b : Bool). if b then Some (k, lower_side) else bounded_from (suc k) fs ps) same

passed : (k : ℕ) (f : List spec.Part) (fs : List (List spec.Part)) (ps : List spec.Part) → IsOther f ps → bounded_from k (f ∷ fs) ps ≡ bounded_from (suc k) fs ps
passed k f fs ps (other, negated_other) =
    ap (λ (b : Bool). if b then Some (k, upper_side) else if are_same_parts f (map negated_part ps) then Some (k, lower_side) else bounded_from (suc k) fs ps) other
    ∙ ap (λ (b : Bool). if b then Some (k, lower_side) else bounded_from (suc k) fs ps) negated_other

pub found_from : (fs : List (List spec.Part)) (k v : ℕ) (ps : List spec.Part) (side : Side) → v < length fs → ((i : ℕ) → i < v → IsOther (at_form fs i) ps) → IsFoundOn (at_form fs v) ps side
    → bounded_from k fs ps ≡ Some (k + v, side)
found_from [] k v ps side less other found = absurd (omega (arith, less))
found_from (f ∷ fs) k zero ps side less other found = here_first k f fs ps side found ∙ ap (λ (n : ℕ). let x : Option (ℕ × Side) = Some (n, side) in x) (omega arith)
found_from (f ∷ fs) k (suc v) ps side less other found =
    passed k f fs ps (other 0 (omega arith))
    ∙ found_from fs (suc k) v ps side (omega (arith, less)) (λ i h. other (suc i) (omega (arith, h))) found
    ∙ ap (λ (n : ℕ). let x : Option (ℕ × Side) = Some (n, side) in x) (omega arith)

-- ---- Forms and their negatives

module _ (ns : List Node) (one : HasOneNumberEach ns) (tells : TellsLiterals) where
  -- the first coefficients are above 0, so the one isn't the other's negative, but for the empty sum
  not_negated : (f g : List Part) → IsFormSum f → IsFormSum g → parts_over ns f ≡ map negated_part (parts_over ns g) → parts_over ns f ≡ parts_over ns g
  not_negated f [] s u e = e
  not_negated [] (q ∷ qs) s u e = absurd cc
  not_negated (p ∷ ps) (q ∷ qs) s u e =
      let first : p.coefficient ≡ neg_ℚ q.coefficient = first_of (parts_over ns (p ∷ ps)) (map negated_part (parts_over ns (q ∷ qs))) e in
      absurd (true≢false (sym (neg_below q.coefficient u.straight u.nonzero.0) ∙ ap (λ (c : Fraction). fraction_lt c (whole (pos 0))) (sym first) ∙ s.straight))
    where
      head : List spec.Part → Fraction
      head [] = whole (pos 0)
      head (x ∷ xs) = x.coefficient

      first_of : (xs ys : List spec.Part) → xs ≡ ys → head xs ≡ head ys
      first_of xs ys h = ap head h

  -- a sum that is none of these forms isn't found among them
  pub not_found : (k : ℕ) (fs : List (List Part)) (f : List Part) → AllByRecursion (AreUnits ns) fs → AllByRecursion IsFormSum fs → AreUnits ns f → IsFormSum f → (Contains fs f → ⊥)
      → bounded_from k (map (parts_over ns) fs) (parts_over ns f) ≡ None
  not_found k [] f units sums own sum none = refl
  not_found k (g ∷ gs) f units sums own sum none =
      passed k (parts_over ns g) (map (parts_over ns) gs) (parts_over ns f) (
        false_from_ne_true (are_same_parts (parts_over ns g) (parts_over ns f)) (λ t. other (sums_told tells (parts_over ns g) (parts_over ns f) t)),
        false_from_ne_true (are_same_parts (parts_over ns g) (map negated_part (parts_over ns f)))
            (λ t. other (not_negated g f sums.0 sum (sums_told tells (parts_over ns g) (map negated_part (parts_over ns f)) t))),
      )
      ∙ not_found (suc k) gs f units.1 sums.1 own sum (λ has. none (has_more g f gs has))
    where
      other : parts_over ns g ≡ parts_over ns f → ⊥
      other e = none (subst (Contains (g ∷ gs)) (one_sum ns one g f units.0.names own.names e) (has_first g gs))

  module _ (fs : List (List Part)) (units : AllByRecursion (AreUnits ns) fs) (sums : AllByRecursion IsFormSum fs) (single : StandOnce fs) where
    abbrev over : List (List spec.Part)
    over = map (parts_over ns) fs

    over_at : (i : ℕ) (f : List Part) → slice_get fs i ≡ Some f → at_form over i ≡ parts_over ns f
    over_at i f at = slice_index_or-map (parts_over ns) fs i [] ∙ ap (parts_over ns) (get_or_from_slice_get fs i f [] at)

    module _ (v : ℕ) (f : List Part) (at : slice_get fs v ≡ Some f) where
      -- another form is neither this sum nor its negative
      apart : (i : ℕ) → i < v → (at_form over i ≡ parts_over ns f → ⊥) × (at_form over i ≡ map negated_part (parts_over ns f) → ⊥)
      apart i less =
          let inside = slice_get_within fs v f at in
          let g = slice_index_or fs i [] in
          let there : slice_get fs i ≡ Some g = slice_get-get_or fs i [] (omega (arith, less, inside)) in
          let same : parts_over ns g ≡ parts_over ns f → ⊥ = λ e.
          let equal : g ≡ f = one_sum ns one g f (at_of (AreUnits ns) fs units i g there).names (at_of (AreUnits ns) fs units v f at).names e in
          let number = single i v g there (at ∙ ap Some (sym equal)) in
          omega (arith, less, number)
          in (
            λ e. same (sym (over_at i g there) ∙ e),
            λ e. same (not_negated g f (at_of IsFormSum fs sums i g there) (at_of IsFormSum fs sums v f at) (sym (over_at i g there) ∙ e)),
          )

      others : (ps : List spec.Part) → (ps ≡ parts_over ns f) ⊎ (ps ≡ map negated_part (parts_over ns f)) → (i : ℕ) → i < v → IsOther (at_form over i) ps
      others ps (inl is) i less =
          let no = apart i less in (
            false_from_ne_true (are_same_parts (at_form over i) ps) (λ t. no.0 (sums_told tells (at_form over i) ps t ∙ is)),
            false_from_ne_true (are_same_parts (at_form over i) (map negated_part ps)) (λ t. no.1 (sums_told tells (at_form over i) (map negated_part ps) t ∙ ap (map negated_part) is)),
          )
      others ps (inr is) i less =
          let no = apart i less in (
            false_from_ne_true (are_same_parts (at_form over i) ps) (λ t. no.1 (sums_told tells (at_form over i) ps t ∙ is)),
            false_from_ne_true (are_same_parts (at_form over i) (map negated_part ps)) (λ t. no.0 (sums_told tells (at_form over i) (map negated_part ps) t ∙ ap (map negated_part) is ∙ parts_back (parts_over ns f))),
          )

      inside : v < length over
      inside = let h = slice_get_within fs v f at in omega (arith, h, length-map fs (parts_over ns))

      found_upper : (ps : List spec.Part) → ps ≡ parts_over ns f → bounded_from 0 over ps ≡ Some (v, upper_side)
      found_upper ps is =
          found_from over 0 v ps upper_side inside (others ps (inl is)) (ap (λ (x : List spec.Part). are_same_parts x ps) (over_at v f at ∙ sym is) ∙ sums_same tells ps)
          ∙ ap (λ (n : ℕ). let x : Option (ℕ × Side) = Some (n, upper_side) in x) (omega arith)

      -- of a sum with units
      found_lower : (ps : List spec.Part) → ps ≡ map negated_part (parts_over ns f) → (parts_over ns f ≡ map negated_part (parts_over ns f) → ⊥) → bounded_from 0 over ps ≡ Some (v, lower_side)
      found_lower ps is differs =
          found_from over 0 v ps lower_side inside (others ps (inr is)) (
            false_from_ne_true (are_same_parts (at_form over v) ps) (λ t. differs (sym (over_at v f at) ∙ sums_told tells (at_form over v) ps t ∙ is)),
            ap (λ (x : List spec.Part). are_same_parts x (map negated_part ps)) (over_at v f at ∙ sym (ap (map negated_part) is ∙ parts_back (parts_over ns f))) ∙ sums_same tells (map negated_part ps),
          )
          ∙ ap (λ (n : ℕ). let x : Option (ℕ × Side) = Some (n, lower_side) in x) (omega arith)

      -- ---- What a literal says

      abbrev said : Side → Bool → Fraction → FormBound
      said side strict b = record { form = v; side = side; bound = bound_on_side side strict b }

      of_upper : (ps : List spec.Part) (strict : Bool) (b : Fraction) → ps ≡ parts_over ns f → sum_bound over ps strict b ≡ Some (said upper_side strict b)
      of_upper ps strict b is = ap (option_map (λ (k : ℕ × Side). let x : FormBound = record { form = k.0; side = k.1; bound = bound_on_side k.1 strict b } in x)) (found_upper ps is)

      of_lower : (ps : List spec.Part) (strict : Bool) (b : Fraction) → ps ≡ map negated_part (parts_over ns f) → (parts_over ns f ≡ map negated_part (parts_over ns f) → ⊥)
          → sum_bound over ps strict b ≡ Some (said lower_side strict b)
      of_lower ps strict b is differs =
          ap (option_map (λ (k : ℕ × Side). let x : FormBound = record { form = k.0; side = k.1; bound = bound_on_side k.1 strict b } in x)) (found_lower ps is differs)

      -- what is known, where the form is the sum or the sum with the other signs
      abbrev as_said : SideBound → Option FormBound
      as_said s = Some (record { form = v; side = half s.side; bound = s.value })

      yes_said : (ps : List Part) (b : Fraction) → f ≡ turned_sum ps → (is_turned ps ≡ true → parts_over ns f ≡ map negated_part (parts_over ns f) → ⊥)
          → bound_said over (is_at_most (parts_over ns ps) b) ≡ as_said (yes_of ps b)
      yes_said ps b is differs = by_test (is_turned ps) refl is
        where
          yes_by : Bool → SideBound
          yes_by t = if t then said_on trail.Lower (at_least_bound false (neg_ℚ b)) else said_on trail.Upper (at_most_bound false b)

          by_test : (t : Bool) → is_turned ps ≡ t → f ≡ (if t then map negated ps else ps) → bound_said over (is_at_most (parts_over ns ps) b) ≡ as_said (yes_by t)
          by_test true e same =
              of_lower (parts_over ns ps) false b (sym (parts_back (parts_over ns ps)) ∙ ap (map negated_part) (sym (ap (parts_over ns) same ∙ over_negated ns ps))) (differs e)
          by_test false e same = of_upper (parts_over ns ps) false b (sym (ap (parts_over ns) same))

      no_said : (ps : List Part) (b : Fraction) → f ≡ turned_sum ps → ((p : Part) (rest : List Part) → ps ≡ p ∷ rest → parts_over ns f ≡ map negated_part (parts_over ns f) → ⊥)
          → bound_said over (with_sign false (is_at_most (parts_over ns ps) b)) ≡ as_said (no_of ps b)
      no_said [] b is differs = of_upper [] true (neg_ℚ b) (sym (ap (parts_over ns) is))
      no_said (p ∷ rest) b is differs = by_test (is_turned (p ∷ rest)) is
        where
          no_by : Bool → SideBound
          no_by t = if t then said_on trail.Upper (at_most_bound true (neg_ℚ b)) else said_on trail.Lower (at_least_bound true b)

          by_test : (t : Bool) → f ≡ (if t then map negated (p ∷ rest) else p ∷ rest) → bound_said over (with_sign false (is_at_most (parts_over ns (p ∷ rest)) b)) ≡ as_said (no_by t)
          by_test true same = of_upper (map negated_part (parts_over ns (p ∷ rest))) true (neg_ℚ b) (sym (ap (parts_over ns) same ∙ over_negated ns (p ∷ rest)))
          by_test false same =
              of_lower (map negated_part (parts_over ns (p ∷ rest))) true (neg_ℚ b) (ap (map negated_part) (sym (ap (parts_over ns) same))) (differs p rest refl)
              ∙ ap (λ (q : Fraction). as_said (said_on trail.Lower (at_least_bound true q))) (neg-back b)

  -- a sum with units isn't its own negative
  pub differs_from : (f : List Part) → IsFormSum f → (f ≡ [] → ⊥) → parts_over ns f ≡ map negated_part (parts_over ns f) → ⊥
  differs_from [] s some e = some refl
  differs_from (p ∷ ps) s some e = absurd (true≢false (sym (neg_below p.coefficient s.straight s.nonzero.0) ∙ ap (λ (c : Fraction). fraction_lt c (whole (pos 0))) (sym (ap head e)) ∙ s.straight))
    where
      head : List spec.Part → Fraction
      head [] = whole (pos 0)
      head (x ∷ xs) = x.coefficient

turned_empty : (ps : List Part) → turned_sum ps ≡ [] → ps ≡ []
turned_empty [] e = refl
turned_empty (p ∷ ps) e = by_test (is_turned (p ∷ ps)) e
  where
    by_test : (t : Bool) → (if t then map negated (p ∷ ps) else p ∷ ps) ≡ [] → p ∷ ps ≡ []
    by_test true f = absurd cc
    by_test false f = absurd cc

-- over a table of the forms, that the sum of a form, or that with the other signs, is at most a number says a bound of the form, and so does its negation
pub said_of_form : (ns : List Node) (x : State) (v : ℕ) (ps : List Part) (b : Fraction) (sign : Bool) → HasOneNumberEach ns → TellsLiterals → simplex.IsOver ns x → AreForms x → slice_get x.forms v ≡ Some (turned_sum ps)
    → bound_said (map (parts_over ns) x.forms) (with_sign sign (is_at_most (parts_over ns ps) b)) ≡ Some (let y = said_at ps b sign in record { form = v; side = half y.side; bound = y.value })
said_of_form ns x v ps b sign one tells over forms at = by_sign sign
  where
    f : List Part
    f = turned_sum ps

    sum : IsFormSum f
    sum = at_of IsFormSum x.forms forms.sums v f at

    by_sign : (sign : Bool) → bound_said (map (parts_over ns) x.forms) (with_sign sign (is_at_most (parts_over ns ps) b)) ≡ Some (let y = said_at ps b sign in record { form = v; side = half y.side; bound = y.value })
    by_sign true = yes_said ns one tells x.forms over.units forms.sums forms.once v f at ps b refl (λ turned. differs_from ns one tells f sum (λ none. empty (turned_empty ps none) turned))
      where
        empty : ps ≡ [] → is_turned ps ≡ true → ⊥
        empty none turned = true≢false (sym turned ∙ ap is_turned none)
    by_sign false = no_said ns one tells x.forms over.units forms.sums forms.once v f at ps b refl (λ p rest some. differs_from ns one tells f sum (λ none. clash p rest some (turned_empty ps none)))
      where
        clash : (p : Part) (rest : List Part) → ps ≡ p ∷ rest → ps ≡ [] → ⊥
        clash p rest some none = cc

-- over a table of the forms, a literal on what is known says the bound that is known
pub said_bound : (ns : List Node) (t : Theory) (l : Lit) (b : Bound) (k : Known) → HasOneNumberEach ns → TellsLiterals → IsOver t ns → AreForms t.simplex → known_at t l.atom ≡ Some k → IsKnown t b k
    → bound_said (map (parts_over ns) t.simplex.forms) (literal_over ns t l) ≡ Some (form_bound k l.sign)
said_bound ns t l b k one tells over forms knows is =
    ap (bound_said (map (parts_over ns) t.simplex.forms)) (literal_of_known ns t l b k knows is)
    ∙ said_of_form ns t.simplex k.form b.sides.parts b.sides.offset l.sign one tells over forms is.form
    ∙ ap (λ (x : SideBound). let y : Option FormBound = Some (record { form = k.form; side = half x.side; bound = x.value }) in y) (said l.sign)
  where
    said : (sign : Bool) → said_at b.sides.parts b.sides.offset sign ≡ said_by k sign
    said true = sym is.says.yes
    said false = sym is.says.no
