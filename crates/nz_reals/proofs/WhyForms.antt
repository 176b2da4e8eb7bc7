-- The bounds that a clash rests on are of different forms, so their literals differ.
use Rattle.std.proofs.Common.{◌≡◌, ℕ, zero, suc, ◌<◌, ◌≤◌, ◌⊎◌, inl, inr, Bool, true, false, List, [], ◌∷◌, ◌++◌, map, length, Option, Some, None, refl, sym, ap, ◌∙◌, subst, true≢false, arith, append-nil}
use Rattle.std.specs.Prelude.{Contains, flat_map, option_map, if◌then◌else◌}
use Rattle.std.proofs.lemmas.List.{flat_map_more, map-append}
use Rattle.std.proofs.lemmas.List.Elements.{Contains-push_cases}
use Rattle.std.proofs.lemmas.Option.{get_or_from_slice_get, slice_get-map}
use Rattle.nz_lists.proofs.Members.{each_of, has_found, has_none}
use Rattle.nz_lists.proofs.Once.{push_once}
use Rattle.nz_fractions.specs.Fraction.{Fraction}
use Rattle.nz_fractions.proofs.Signs.{above_told, below_told}
use Rattle.nz_spec.specs.clauses.Farkas as farkas
use Rattle.nz_spec.specs.clauses.Literal.{Literal, StandOnce, TellsLiterals}
use Rattle.nz_spec.specs.numbers.Infinitesimal.{Infinitesimal}
use Rattle.nz_spec.specs.simplex.BasisMoves.{numbers}
use Rattle.nz_spec.specs.simplex.Bland as bland
use Rattle.nz_spec.specs.simplex.Bland.{bound_on}
use Rattle.nz_spec.specs.simplex.LiteralBounds.{FormBound, bound_said}
use Rattle.nz_spec.specs.terms.Form.{Part}
use Rattle.nz_spec.specs.terms.Table.{HasOneNumberEach, Node}
use Rattle.nz_spec.specs.terms.Term.{is_zero}
use Rattle.nz_lin.specs.Forms.{parts_over}
use Rattle.nz_trail.specs.Bounds.{other_side}
use Rattle.nz_trail.specs.declared.limits.Side.{Side}
use Rattle.nz_trail.specs.declared.limits.Side.TheVariants.{Lower, Upper}
use Rattle.nz_log.specs.declared.atoms.Atom.{Atom}
use Rattle.nz_log.specs.declared.lits.Lit.{Lit}
use Rattle.nz_simplex.specs.Checks.{IsRefuted, holding_side, multiplier}
use Rattle.nz_simplex.specs.Choices.{is_below_zero, size_of}
use Rattle.nz_simplex.specs.Standing.{Held, half, reason_in}
use Rattle.nz_simplex.specs.State.{IsSound, State, nonbasic_in, position_over}
use Rattle.nz_reals.specs.declared.reals.MarkedLiteral.{MarkedLiteral}
use Rattle.nz_reals.specs.Known.{Known, form_bound, said_by}
use Rattle.nz_reals.specs.Stands.{IsOf, IsOver}
use Rattle.nz_reals.specs.State.{Theory, known_at, lit_at, literal_over}
use Rattle.nz_reals.specs.Stored.{AreForms, AreTolds, IsBacked}
use Rattle.nz_reals.specs.Tells.{AreOnTwoSides, multiple_at, multiples_over}
use Rattle.nz_reals.proofs.LiteralForms.{said_bound}
use Rattle.nz_reals.proofs.TheoryPositions.{nonbasic_is}
use Rattle.nz_reals.proofs.Whys.{half_other, reason_among, side_bound}

-- ---- Lists that have each element once

-- where images differ, so does what has them
pub once_by_image : {X Y : Type 0} (f : X → Y) (xs : List X) → StandOnce (map f xs) → StandOnce xs
once_by_image f xs once i j x at to = once i j (f x) (slice_get-map f xs i ∙ ap (option_map f) at) (slice_get-map f xs j ∙ ap (option_map f) to)

first_once : {X : Type 0} (x : X) (xs : List X) → (Contains xs x → ⊥) → StandOnce xs → StandOnce (x ∷ xs)
first_once x xs new once zero zero y at to = refl
first_once x xs new once zero (suc j) y at to =
    let same : y ≡ x = cc in
    absurd (new (subst (Contains xs) same (has_found xs j y to)))
first_once x xs new once (suc i) zero y at to =
    let same : y ≡ x = cc in
    absurd (new (subst (Contains xs) same (has_found xs i y at)))
first_once x xs new once (suc i) (suc j) y at to = ap suc (once i j y at to)

-- Lists of at most one element each, of which each tells the number that it is of: those of rising numbers tell each number once.
module _ {W : Type 0} (f : ℕ → List W) (form : W → ℕ) (test : ℕ → Bool) (count : ℕ)
    (fits : (k : ℕ) → k < count → test k ≡ true → (f k ≡ []) ⊎ ((w : W) × (f k ≡ w ∷ []) × (form w ≡ k))) where
  pub record IsRising (n : ℕ) (xs : List ℕ) : Type 0 where
    pub below : (x : ℕ) → Contains xs x → (x < n) × (test x ≡ true)
    pub once : StandOnce xs

  rising_more : (n : ℕ) (xs : List ℕ) → IsRising n xs → IsRising (suc n) xs
  rising_more n xs h = record { below = λ x has. let b = h.below x has in let less = b.0 in (omega (arith, less), b.1); once = h.once }

  abbrev listing : ℕ → List ℕ
  listing n = map form (flat_map f (numbers n test))

  one_joined : (n : ℕ) → map form (flat_map f (numbers n test ++ n ∷ [])) ≡ listing n ++ map form (f n)
  one_joined n = ap (map form) (sym (flat_map_more f [] (numbers n test) n)) ∙ map-append form (flat_map f (numbers n test)) (f n)

  by_fit : (n : ℕ) → test n ≡ true → (f n ≡ []) ⊎ ((w : W) × (f n ≡ w ∷ []) × (form w ≡ n)) → IsRising n (listing n) → IsRising (suc n) (map form (flat_map f (numbers n test ++ n ∷ [])))
  by_fit n passes (inl none) r =
      subst (IsRising (suc n)) (sym (one_joined n ∙ ap (λ ws. listing n ++ map form ws) none ∙ append-nil (listing n))) (rising_more n (listing n) r)
  by_fit n passes (inr one) r =
      subst (IsRising (suc n)) (sym (one_joined n ∙ ap (λ ws. listing n ++ map form ws) one.1 ∙ ap (λ (k : ℕ). listing n ++ k ∷ []) one.2))
      (record {
        below = λ x has. elim (Contains-push_cases (listing n) n x has) [
          | inl was ↦ let b = r.below x was in let less = b.0 in (omega (arith, less), b.1)
          | inr same ↦ (omega (arith, same), ap test (sym same) ∙ passes)
        ];
        once = push_once (listing n) n (λ has. let b = r.below n has in let less = b.0 in omega (arith, less)) r.once;
      })

  pub rising : (n : ℕ) → n ≤ count → IsRising n (listing n)
  rising zero h = record { below = λ x has. absurd (has_none x has); once = λ i j x at to. absurd cc }
  rising (suc n) h = by_test (test n) refl (rising n (omega (arith, h)))
    where
      by_test : (b : Bool) → test n ≡ b → IsRising n (listing n) → IsRising (suc n) (map form (flat_map f (if b then numbers n test ++ n ∷ [] else numbers n test)))
      by_test true e r = by_fit n e (fits n (omega (arith, h)) e) r
      by_test false e r = rising_more n (listing n) r

-- ---- The reasons of a clash

module _ (ns : List Node) (s : State) (r : IsRefuted ns s) (sound : IsSound s) (form : ℕ → ℕ) (of : (b : Held) → Contains s.asserted b → form b.reason ≡ b.var) where
  held_form : (side : Side) (v : ℕ) (x : Infinitesimal) → bound_on (half side) (position_over ns s) v ≡ Some x → form (reason_in s.asserted side v) ≡ v
  held_form side v x e =
      let b = reason_among s.asserted v side x (sym (side_bound ns s side v) ∙ e) in
      ap form b.2 ∙ of b.0 b.1 ∙ b.3

  -- what is told of a nonbasic form that has a coefficient
  abbrev own : ℕ → ℕ × Fraction
  own k = (reason_in s.asserted (holding_side r.side (r.row k)) k, size_of (r.row k))

  one_fits : (k : ℕ) → k < length s.forms → nonbasic_in s k ≡ true → (multiplier s.asserted r.side r.row k ≡ []) ⊎ ((w : ℕ × Fraction) × (multiplier s.asserted r.side r.row k ≡ w ∷ []) × (form w.0 ≡ k))
  one_fits k less nonbasic = by_zero (is_zero (r.row k)) refl
    where
      by_sign : is_zero (r.row k) ≡ false → (b : Bool) → is_below_zero (r.row k) ≡ b → form (reason_in s.asserted (if b then r.side else other_side r.side) k) ≡ k
      by_sign nonzero true e = held_form r.side k (r.bounds k) (r.refutes.below_zero k (below_told (r.row k) e))
      by_sign nonzero false e =
          held_form (other_side r.side) k (r.bounds k)
          (subst (λ (h : bland.Side). bound_on h (position_over ns s) k ≡ Some (r.bounds k)) (half_other r.side) (r.refutes.above_zero k (above_told (r.row k) nonzero e)))

      by_zero : (z : Bool) → is_zero (r.row k) ≡ z → ((if z then [] else own k ∷ []) ≡ []) ⊎ ((w : ℕ × Fraction) × ((if z then [] else own k ∷ []) ≡ w ∷ []) × (form w.0 ≡ k))
      by_zero true e = inl refl
      by_zero false e = inr (own k, refl, by_sign e (is_below_zero (r.row k)) refl)

  abbrev others : List ℕ
  others = map (λ (w : ℕ × Fraction). form w.0) (flat_map (multiplier s.asserted r.side r.row) (numbers (length s.forms) (nonbasic_in s)))

  pub why_once : StandOnce (map (λ (w : ℕ × Fraction). form w.0) s.why)
  why_once =
      subst (λ (ws : List (ℕ × Fraction)). StandOnce (map (λ (w : ℕ × Fraction). form w.0) ws)) (sym r.why)
      (first_once (form (reason_in s.asserted r.side r.broken)) others (λ has. fresh (subst (Contains others) first has)) all.once)
    where
      all : IsRising (multiplier s.asserted r.side r.row) (λ (w : ℕ × Fraction). form w.0) (nonbasic_in s) (length s.forms) one_fits (length s.forms) others
      all = rising (multiplier s.asserted r.side r.row) (λ (w : ℕ × Fraction). form w.0) (nonbasic_in s) (length s.forms) one_fits (length s.forms) (omega arith)

      first : form (reason_in s.asserted r.side r.broken) ≡ r.broken
      first = held_form r.side r.broken r.bound r.refutes.bounded

      fresh : Contains others r.broken → ⊥
      fresh has = let b = all.below r.broken has in true≢false (sym b.1 ∙ sym (nonbasic_is s sound r.broken) ∙ r.basic)

-- ---- Their literals

module _ (t : Theory) (ns : List Node) (atoms : List Atom) (ids : List ℕ) (of : IsOf t atoms ids) (over : IsOver t ns) (forms : AreForms t.simplex) (one : HasOneNumberEach ns) (tells : TellsLiterals) where
  abbrev fs : List (List Part)
  fs = map (parts_over ns) t.simplex.forms

  -- the form of which a literal says a bound
  abbrev form_said : Literal → ℕ
  form_said l = elim (bound_said fs l) [ None ↦ 0 | Some b ↦ b.form ]

  abbrev side_said : Literal → bland.Side
  side_said l = elim (bound_said fs l) [ None ↦ bland.lower_side | Some b ↦ b.side ]

  says : (l : Lit) (k : Known) → known_at t l.atom ≡ Some k → bound_said fs (literal_over ns t l) ≡ Some (form_bound k l.sign)
  says l k knows = let b = of.right l.atom k knows in said_bound ns t l b.0 k one tells over forms knows b.2

  form_backed : AreTolds t → (b : Held) → Contains t.simplex.asserted b → form_said (literal_over ns t (lit_at t b.reason)) ≡ b.var
  form_backed tolds b has =
      let k = each_of (IsBacked t) t.simplex.asserted tolds.backed b has in
      let there : lit_at t b.reason ≡ k.told.literal = ap (λ (y : MarkedLiteral). y.literal) (get_or_from_slice_get t.told b.reason k.told (record { literal = record { atom = 0; sign = false }; mark = 0 }) k.at) in
      ap (λ (l : Lit). form_said (literal_over ns t l)) there
      ∙ ap (λ (o : Option FormBound). elim o [ None ↦ 0 | Some x ↦ x.form ]) (says k.told.literal k.known k.knows)
      ∙ sym k.form

  forms_said : (ws : List (ℕ × Fraction))
      → map form_said (map (λ (m : farkas.Multiple). m.literal) (multiples_over ns t (map (multiple_at t) ws))) ≡ map (λ (w : ℕ × Fraction). form_said (literal_over ns t (lit_at t w.0))) ws
  forms_said [] = refl
  forms_said (w ∷ ws) = ap (λ (ks : List ℕ). form_said (literal_over ns t (lit_at t w.0)) ∷ ks) (forms_said ws)

  -- those of a clash that a check finds
  pub why_apart : AreTolds t → IsSound t.simplex → IsRefuted ns t.simplex → StandOnce (map (λ (m : farkas.Multiple). m.literal) (multiples_over ns t (map (multiple_at t) t.simplex.why)))
  why_apart tolds sound refuted =
      once_by_image form_said (map (λ (m : farkas.Multiple). m.literal) (multiples_over ns t (map (multiple_at t) t.simplex.why)))
      (subst StandOnce (sym (forms_said t.simplex.why))
      (why_once ns t.simplex refuted sound (λ (r : ℕ). form_said (literal_over ns t (lit_at t r))) (form_backed tolds)))

  -- those of two bounds of different sides
  pub sides_apart : (l other : Lit) → AreOnTwoSides t l other → literal_over ns t l ≡ literal_over ns t other → ⊥
  sides_apart l other two same =
      let first : side_said (literal_over ns t l) ≡ half (said_by two.first l.sign).side =
      ap (λ (o : Option FormBound). elim o [ None ↦ bland.lower_side | Some x ↦ x.side ]) (says l two.first two.knows) in
      let second : side_said (literal_over ns t other) ≡ half (said_by two.second other.sign).side =
      ap (λ (o : Option FormBound). elim o [ None ↦ bland.lower_side | Some x ↦ x.side ]) (says other two.second two.knows_other) in
      never (said_by two.first l.sign).side (sym first ∙ ap side_said same ∙ second ∙ ap half two.sides)
    where
      never : (side : Side) → half side ≡ half (other_side side) → ⊥
      never Lower e = absurd cc
      never Upper e = absurd cc
