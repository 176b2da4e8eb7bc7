-- What units are worth where a theory is feasible: it meets the bounds that were told, and gives constants their numbers.
use Rattle.std.proofs.Common.{◌≡◌, inl, inr, ℕ, ◌<◌, Bool, true, false, true≢false, List, [], ◌∷◌, length, map, Option, Some, None, pos, refl, sym, ap, subst, ◌∙◌, arith}
use Rattle.std.specs.Prelude.{◌==◌, Contains, IsSome, slice_get, unwrap_or, if◌then◌else◌}
use Rattle.std.specs.List.{AllByRecursion}
use Rattle.std.proofs.lemmas.List.{get_or-map, length-map}
use Rattle.std.proofs.lemmas.Option.{get_or_from_slice_get, same_Some, slice_get-get_or, slice_get_within}
use Rattle.nz_lists.proofs.Members.{at_of, by_each, has_cases, has_found, has_more, has_none, map_has}
use Rattle.nz_lists.proofs.Numbers.{equal-number, same-number}
use Rattle.nz_fractions.specs.Fraction.{Fraction, whole, ◌=ℚ◌, ◌≤ℚ◌, ◌<ℚ◌, ◌+ℚ◌, ◌*ℚ◌, neg_ℚ}
use Rattle.nz_fractions.proofs.Laws.{=ℚ_refl}
use Rattle.nz_spec.specs.simplex.Basis.{Valuation, worth, form_at, HasItsUnits}
use Rattle.nz_spec.specs.simplex.BasisMoves.{AreNumbered}
use Rattle.nz_spec.specs.simplex.Bland.{Point, Position, HasBasis}
use Rattle.nz_spec.specs.search.Decide.{IsValueOf}
use Rattle.nz_spec.specs.clauses.Met.{IsMet}
use Rattle.nz_spec.specs.clauses.Farkas.{bound_of}
use Rattle.nz_spec.specs.terms.Form as spec
use Rattle.nz_spec.specs.terms.Form.{unit_form, negated_part}
use Rattle.nz_spec.specs.terms.FormOf.{number_in, TermHasItsNumber}
use Rattle.nz_spec.specs.numbers.Infinitesimal.{Infinitesimal, at}
use Rattle.nz_spec.specs.clauses.Literal.{Literal, is_at_most, TellsLiterals}
use Rattle.nz_spec.specs.simplex.LiteralBounds.{FormBound, bound_said, position_under}
use Rattle.nz_spec.specs.simplex.PositionMoves.{IsReadyToCheck}
use Rattle.nz_spec.specs.terms.Table.{Node, OneNumber, term_in, listed_value}
use Rattle.nz_spec.specs.terms.Term as terms
use Rattle.nz_spec.specs.terms.Term.{Constant, constant, Head, Term, Value, number, number_of, default_value, real_sort, IsOfSort, ValueFits}
use Rattle.nz_spec.specs.laws.ToldBounds.{AreWithinAt, ChosenFractionsKeepBounds, ToldBoundsAreMet}
use Rattle.nz_lin.specs.declared.bound.Bound.{Bound}
use Rattle.nz_lin.specs.declared.form.Part.{Part}
use Rattle.nz_lin.specs.Forms.{AreUnits, NamesUnit, negated, parts_over}
use Rattle.nz_tab.specs.Laws.{UnitsAreForms}
use Rattle.nz_tab.specs.Units.{is_form_of, unit_number}
use Rattle.nz_log.specs.declared.atoms.Atom.{Atom}
use Rattle.nz_log.specs.declared.atoms.Atom.TheVariants.{AtMost}
use Rattle.nz_log.specs.declared.lits.Lit.{Lit}
use Rattle.nz_log.specs.Atoms.{literal_in, with_sign}
use Rattle.nz_simplex.specs.Checks as checks
use Rattle.nz_simplex.specs.State.{IsSound, position_over}
use Rattle.nz_reals.specs.Chosen.{AddsValues, HasWorths}
use Rattle.nz_reals.specs.Constants.{IsConstant, IsRealConstant, is_marked}
use Rattle.nz_reals.specs.Stands.{IsAt, IsFeasible, IsKnown, IsOf, IsOver}
use Rattle.nz_reals.specs.State.{Theory, literal_over, sum_at, told_lits}
use Rattle.nz_reals.specs.Stored.{AreForms}
use Rattle.nz_reals.specs.Sums.{is_turned, turned_sum}
use Rattle.nz_reals.proofs.LiteralForms.{said_bound}
use Rattle.nz_reals.proofs.ConstantValues.{one_form}
use Rattle.nz_reals.proofs.Contradictions.{some_known}
use Rattle.nz_reals.proofs.KnownAtoms.{is_known}
use Rattle.nz_reals.proofs.AtomBounds.{literal_is, literal_of_known}
use Rattle.nz_reals.proofs.TheoryPositions.{position_is}
use Rattle.nz_reals.proofs.Sums.{over_negated}

-- ---- Values that are listed

-- a value that is listed stands there
listed_there : (ps : List (ℕ × Value)) (i : ℕ) (v : Value) → listed_value ps i ≡ Some v → Contains ps (i, v)
listed_there [] i v e = absurd cc
listed_there (p ∷ ps) i v e = by_test (p.0 == i) refl e (listed_there ps i v)
  where
    by_test : (b : Bool) → (p.0 == i) ≡ b → (if b then Some p.1 else listed_value ps i) ≡ Some v → (listed_value ps i ≡ Some v → Contains ps (i, v)) → Contains (p ∷ ps) (i, v)
    by_test true t f rest =
        let first = same-number p.0 i t in
        let value = same_Some p.1 v f in
        (0, omega arith, λ j. (first j, value j))
    by_test false t f rest = has_more p (i, v) ps (rest f)

-- and one that stands there has its number listed
listed_some : (ps : List (ℕ × Value)) (i : ℕ) (v : Value) → Contains ps (i, v) → listed_value ps i ≡ None → ⊥
listed_some [] i v c e = has_none (i, v) c
listed_some (p ∷ ps) i v c e = by_test (p.0 == i) refl e (listed_some ps i v)
  where
    by_test : (b : Bool) → (p.0 == i) ≡ b → (if b then Some p.1 else listed_value ps i) ≡ None → (Contains ps (i, v) → listed_value ps i ≡ None → ⊥) → ⊥
    by_test true t f rest = absurd cc
    by_test false t f rest =
        elim (has_cases p (i, v) ps c) [
          | inl same ↦ true≢false (sym (equal-number p.0 i (ap (λ (x : ℕ × Value). x.0) same)) ∙ t)
          | inr more ↦ rest more f
        ]

-- ---- A feasible theory

module _ (met : ToldBoundsAreMet) (keep : ChosenFractionsKeepBounds) (numbers : TermHasItsNumber) (tells : TellsLiterals) (one : OneNumber) (units : UnitsAreForms) (t : Theory) (ns : List Node)
    (over : IsOver t ns) (forms : AreForms t.simplex) (sound : IsSound t.simplex) (feasible : IsFeasible t) (marks : List Bool) (old new : List (ℕ × Value)) (adds : AddsValues t ns marks (position_over ns t.simplex) old new) where
  abbrev here : Position
  here = position_over ns t.simplex

  abbrev fs : List (List Part)
  fs = t.simplex.forms

  abbrev y : ℕ → Infinitesimal
  y = adds.values

  abbrev e : Fraction
  e = adds.fraction

  ready : IsReadyToCheck here
  ready = sound.ready ns over

  free : checks.IsFeasible ns t.simplex
  free = feasible ns over

  all_forms : length here.forms ≡ length fs
  all_forms = length-map fs (parts_over ns)

  above : whole (pos 0) <ℚ e
  above = keep.above_zero here e ready.basis free.within ready.fit adds.chosen

  within : AreWithinAt here y e
  within = keep.within here y e ready.basis adds.chosen adds.has adds.numbers (free.meets y (λ k below. adds.has k (omega (arith, below, all_forms))))

  -- ---- What units are worth

  abbrev place : Term → Option ℕ
  place u = unit_number fs (number_in ns u)

  abbrev form_number : Term → ℕ
  form_number u = unwrap_or (place u) 0

  abbrev worth_of : Valuation
  worth_of u = elim (place u) [ None ↦ whole (pos 0) | Some k ↦ at (y k) e ]

  abbrev by_form : Valuation
  by_form u = at (y (form_number u)) e

  -- the unit of a part is a form
  record IsPlaced (p : spec.Part) : Type 0 where
    some : IsSome (place p.unit)
    below : form_number p.unit < length here.forms
    form : form_at here.forms (form_number p.unit) ≡ (unit_form p.unit).parts

  same_value : (o : Option ℕ) → IsSome o → at (y (unwrap_or o 0)) e ≡ elim o [ None ↦ whole (pos 0) | Some k ↦ at (y k) e ]
  same_value None h = absurd (true≢false (sym h))
  same_value (Some k) h = refl

  same_worth : (ps : List spec.Part) → AllByRecursion IsPlaced ps → worth by_form ps ≡ worth worth_of ps
  same_worth [] h = refl
  same_worth (p ∷ ps) h =
      let first = same_value (place p.unit) h.0.some in
      let rest = same_worth ps h.1 in
      λ i. p.coefficient *ℚ first i +ℚ rest i

  -- ---- Units of forms

  unit_placed : (u : ℕ) → u < length ns → Contains here.forms (unit_form (term_in ns u)).parts → (c : Fraction) → IsPlaced (record { coefficient = c; unit = term_in ns u })
  unit_placed u inside there c = by_number (unit_number fs u) refl
    where
      number_is : number_in ns (term_in ns u) ≡ u
      number_is = numbers ns over.table u inside

      by_number : (o : Option ℕ) → unit_number fs u ≡ o → IsPlaced (record { coefficient = c; unit = term_in ns u })
      by_number None is = absurd (units.missing ns fs u over.table over.units inside is there)
      by_number (Some k) is =
          let found = units.numbered ns fs u k is in
          let own : place (term_in ns u) ≡ Some k = ap (unit_number fs) number_is ∙ is in
          let number_k : form_number (term_in ns u) ≡ k = ap (λ (o : Option ℕ). unwrap_or o 0) own in
          let low = found.0 in
          record {
            some = subst (λ (o : Option ℕ). IsSome o) (sym own) refl;
            below = omega (arith, number_k, low, all_forms);
            form = ap (form_at here.forms) number_k ∙ found.1;
          }

  each_placed : (ps : List Part) → AllByRecursion (NamesUnit ns) ps → HasItsUnits here.forms (parts_over ns ps) → AllByRecursion IsPlaced (parts_over ns ps)
  each_placed [] names have = tt
  each_placed (p ∷ ps) names have = (unit_placed p.unit names.0.0 have.0 p.coefficient, each_placed ps names.1 have.1)

  form_placed : (k : ℕ) (g : List Part) → slice_get fs k ≡ Some g → AllByRecursion IsPlaced (parts_over ns g)
  form_placed k g is =
      let own = at_of (AreUnits ns) fs over.units k g is in
      let below = slice_get_within fs k g is in
      let form : form_at here.forms k ≡ parts_over ns g = get_or-map (parts_over ns) fs k [] [] below ∙ ap (parts_over ns) (get_or_from_slice_get fs k g [] is) in
      each_placed g own.names (subst (HasItsUnits here.forms) form (ready.basis.units k))

  -- whatever the signs
  other_part : (p : spec.Part) → IsPlaced p → IsPlaced (negated_part p)
  other_part p h = record { some = h.some; below = h.below; form = h.form }

  own_part : (p : spec.Part) → IsPlaced (negated_part p) → IsPlaced p
  own_part p h = record { some = h.some; below = h.below; form = h.form }

  negated_placed : (ps : List spec.Part) → AllByRecursion IsPlaced ps → AllByRecursion IsPlaced (map negated_part ps)
  negated_placed [] h = tt
  negated_placed (p ∷ ps) h = (other_part p h.0, negated_placed ps h.1)

  placed_back : (ps : List spec.Part) → AllByRecursion IsPlaced (map negated_part ps) → AllByRecursion IsPlaced ps
  placed_back [] h = tt
  placed_back (p ∷ ps) h = (own_part p h.0, placed_back ps h.1)

  turned_back : (ps : List Part) → AllByRecursion IsPlaced (parts_over ns (turned_sum ps)) → AllByRecursion IsPlaced (parts_over ns ps)
  turned_back ps h = by_test (is_turned ps) h
    where
      by_test : (b : Bool) → AllByRecursion IsPlaced (parts_over ns (if b then map negated ps else ps)) → AllByRecursion IsPlaced (parts_over ns ps)
      by_test true k = placed_back (parts_over ns ps) (subst (AllByRecursion IsPlaced) (over_negated ns ps) k)
      by_test false k = k

  numbered : (ps : List spec.Part) → AllByRecursion IsPlaced ps → AreNumbered here.forms form_number ps
  numbered [] h = tt
  numbered (p ∷ ps) h = ((h.0.below, h.0.form), numbered ps h.1)

  signed_numbered : (ps : List spec.Part) (b : Fraction) (sign : Bool) → AllByRecursion IsPlaced ps → AreNumbered here.forms form_number (bound_of (with_sign sign (is_at_most ps b))).parts
  signed_numbered ps b true h = numbered ps h
  signed_numbered ps b false h = numbered (map negated_part ps) (negated_placed ps h)

  module _ (truths : Term → Option Bool) where
    signed_met : (ps : List spec.Part) (b : Fraction) (sign : Bool) → AllByRecursion IsPlaced ps → IsMet truths by_form (with_sign sign (is_at_most ps b)) → IsMet truths worth_of (with_sign sign (is_at_most ps b))
    signed_met ps b true h k = subst (λ (q : Fraction). q ≤ℚ b) (same_worth ps h) k
    signed_met ps b false h k = subst (λ (q : Fraction). q <ℚ neg_ℚ b) (same_worth (map negated_part ps) (negated_placed ps h)) k

    -- ---- Bounds that were told

    -- a literal that was told is met
    told_met : (atoms : List Atom) (ids : List ℕ) (gs : List (List spec.Part)) (ls : List Literal) (x : Point) → IsOf t atoms ids → IsAt t ns gs ls x → (l : Lit)
        → Contains (told_lits t) l → Contains ids l.atom → (b : Bound) → slice_get atoms l.atom ≡ Some (AtMost b) → IsMet truths worth_of (literal_in ns atoms l)
    told_met atoms ids gs ls x of stands l told among b is =
        let k = some_known t l.atom (is_known t atoms ids l.atom b of among is) in
        let own = of.right l.atom k.0 k.1 in
        let c = own.0 in
        let known : IsKnown t c k.0 = own.2 in
        let ps = parts_over ns c.sides.parts in
        let L = literal_over ns t l in
        let same : L ≡ with_sign l.sign (is_at_most ps c.sides.offset) = literal_of_known ns t l c k.0 k.1 known in
        let position : position_under gs x ls ≡ here = position_is t ns gs ls x stands in
        let said : IsSome (bound_said gs L) =
        subst (λ (hs : List (List spec.Part)). IsSome (bound_said hs L)) (sym stands.forms)
        (subst (λ (o : Option FormBound). IsSome o) (sym (said_bound ns t l c k.0 (one ns over.table) tells over forms k.1 known)) refl) in
        let listed : Contains ls L = subst (λ (ms : List Literal). Contains ms L) (sym stands.literals) (map_has (literal_over ns t) (told_lits t) l told) in
        let placed : AllByRecursion IsPlaced ps = turned_back c.sides.parts (form_placed k.0.form (turned_sum c.sides.parts) known.form) in
        let numbered_here : AreNumbered gs form_number (bound_of L).parts =
        subst (λ (hs : List (List spec.Part)). AreNumbered hs form_number (bound_of L).parts) (sym stands.forms)
        (subst (λ (m : Literal). AreNumbered here.forms form_number (bound_of m).parts) (sym same) (signed_numbered ps c.sides.offset l.sign placed)) in
        let held : IsMet truths by_form L =
        met truths gs x ls y e form_number L (subst HasBasis (sym position) ready.basis) (subst (λ (p : Position). AreWithinAt p y e) (sym position) within) above listed said numbered_here in
        subst (IsMet truths worth_of) (sym same ∙ literal_is ns t atoms ids l k.0 of k.1)
        (signed_met ps c.sides.offset l.sign placed (subst (IsMet truths by_form) same held))

  -- ---- Constants

  module _ (i : ℕ) (c : Constant) (node : Node) (marked : is_marked marks i ≡ true) (there : slice_get ns i ≡ Some node) (head : node.head ≡ constant c) (real : c.sort ≡ real_sort) where
    inside : i < length ns
    inside = slice_get_within ns i node there

    -- the form of its number is that of a unit alone
    found_form : (k : ℕ) → unit_number fs i ≡ Some k → (k < length fs) × (is_form_of i (sum_at t k) ≡ true)
    found_form k is =
        let found = units.numbered ns fs i k is in
        let low = found.0 in
        let own = at_of (AreUnits ns) fs over.units k (sum_at t k) (slice_get-get_or fs k [] low) in
        (low, units.told ns i (sum_at t k) over.table inside own (sym (get_or-map (parts_over ns) fs k [] [] low) ∙ found.1))

    is_constant : (k : ℕ) → unit_number fs i ≡ Some k → IsConstant t ns marks i k
    is_constant k is = let f = found_form k is in record { listed = f.0; alone = f.1; of = record { name = c; node = node; at = there; head = head; real = real }; marked = marked }

    -- a unit that is a form alone has a number
    unlisted : (k : ℕ) → IsConstant t ns marks i k → unit_number fs i ≡ None → ⊥
    unlisted k h is =
        units.missing ns fs i over.table over.units inside is
        (subst (Contains here.forms) (units.form ns i (sum_at t k) h.alone) (map_has (parts_over ns) fs (sum_at t k) (has_found fs k (sum_at t k) (slice_get-get_or fs k [] h.listed))))

    one_place : (k m : ℕ) → IsConstant t ns marks i k → unit_number fs i ≡ Some m → m ≡ k
    one_place k m h is = let f = found_form m is in one_form t ns over forms units m k i f.0 h.listed f.1 h.alone

    -- the value that is listed with it is what it is worth; without one, it is worth the default
    constant_worth : number_of (unwrap_or (listed_value adds.added i) (default_value c.sort)) =ℚ worth_of (term_in ns i)
    constant_worth = by_listed (listed_value adds.added i) refl (unit_number fs i) refl
      where
        worth_at : (o : Option ℕ) → unit_number fs i ≡ o → worth_of (term_in ns i) ≡ elim o [ None ↦ whole (pos 0) | Some k ↦ at (y k) e ]
        worth_at o is =
            ap (λ (n : ℕ). elim (unit_number fs n) [ None ↦ whole (pos 0) | Some k ↦ at (y k) e ]) (numbers ns over.table i inside)
            ∙ ap (λ (x : Option ℕ). elim x [ None ↦ whole (pos 0) | Some k ↦ at (y k) e ]) is

        by_listed : (v : Option Value) → listed_value adds.added i ≡ v → (o : Option ℕ) → unit_number fs i ≡ o → number_of (unwrap_or v (default_value c.sort)) =ℚ worth_of (term_in ns i)
        by_listed None none None is =
            subst (λ (q : Fraction). number_of (default_value c.sort) =ℚ q) (sym (worth_at None is)) (subst (λ (s : terms.Sort). number_of (default_value s) =ℚ whole (pos 0)) (sym real) (=ℚ_refl (whole (pos 0))))
        by_listed None none (Some k) is = let v = adds.right.all i k (is_constant k is) in absurd (listed_some adds.added i v.0 v.1 none)
        by_listed (Some v) some None is = let r = adds.right.right i v (listed_there adds.added i v some) in absurd (unlisted r.0 r.1 is)
        by_listed (Some v) some (Some m) is =
            let r = adds.right.right i v (listed_there adds.added i v some) in
            let k : ℕ = r.0 in
            let q : Fraction = r.2.0 in
            let value : number_of v ≡ q = ap number_of r.2.1 in
            let same : m ≡ k = one_place k m r.1 is in
            subst (λ (p : Fraction). p =ℚ worth_of (term_in ns i)) (sym value)
            (subst (λ (p : Fraction). q =ℚ p) (ap (λ (n : ℕ). at (y n) e) (sym same) ∙ sym (worth_at (Some m) is)) r.2.2)

  -- ---- What is added

  value_real : (s : terms.Sort) (v : Value) (q : Fraction) → s ≡ real_sort → v ≡ number q → IsOfSort s v
  value_real s v q real is = subst (λ (x : Value). IsOfSort s x) (sym is) (subst (λ (x : terms.Sort). IsOfSort x (number q)) (sym real) tt)

  -- each value is that of a constant
  number_value : (x : ℕ × Value) → Contains adds.added x → IsValueOf ns x
  number_value x has =
      let r = adds.right.right x.0 x.1 has in
      let k : IsRealConstant ns x.0 = r.1.of in
      let own : k.node ≡ record { head = constant k.name; kids = k.node.kids } = ap (λ (h : Head). let n : Node = record { head = h; kids = k.node.kids } in n) k.head in
      record {
        of = k.name;
        kids = k.node.kids;
        node = k.at ∙ ap Some own;
        sort = value_real k.name.sort x.1 r.2.0 k.real r.2.1;
        fits = subst ValueFits (sym r.2.1) r.2.3;
      }

  pub has_worths : HasWorths t ns marks old new
  has_worths = record {
    added = adds.added;
    joined = adds.joined;
    values = by_each (IsValueOf ns) adds.added number_value;
    worths = worth_of;
    met = told_met;
    constants = λ i node c marked there head real. constant_worth i c node marked there head real;
  }
