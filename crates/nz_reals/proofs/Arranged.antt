-- Units and sums that join before a search.
use Rattle.std.proofs.Common.{◌≡◌, ◌⊎◌, inl, inr, ℕ, ◌<◌, ◌≤◌, Bool, true, false, List, [], ◌∷◌, map, length, Option, Some, None, refl, sym, ap, ◌∙◌, subst, true≢false, if◌then◌else◌, arith}
use Rattle.std.specs.Prelude.{All, Contains, option_map, pos, slice_get, slice_index_or}
use Rattle.std.specs.List.{AllByRecursion}
use Rattle.std.proofs.lemmas.List.Elements.{All-contains, All-from_recursion}
use Rattle.std.proofs.lemmas.Option.{slice_get-map}
use Rattle.nz_lists.proofs.Elements.{AllByRecursion-append, AllByRecursion-weaker}
use Rattle.nz_lists.proofs.Members.{at_of, by_each, each_of, map_from, map_has}
use Rattle.nz_lists.proofs.Numbers.{below_or_past}
use Rattle.nz_fractions.specs.Fraction.{Fraction, neg_ℚ, whole}
use Rattle.nz_fractions.proofs.Identities.{neg-back}
use Rattle.nz_spec.specs.simplex.Bland.{Position, zero_infinitesimal}
use Rattle.nz_spec.specs.clauses.Farkas.{bound_of}
use Rattle.nz_spec.specs.terms.Form as spec
use Rattle.nz_spec.specs.terms.Form.{Numbering, as_written, unit_form}
use Rattle.nz_spec.specs.numbers.Infinitesimal.{Infinitesimal}
use Rattle.nz_spec.specs.clauses.LinearLiteral.{parts_of}
use Rattle.nz_spec.specs.search.Atoms.{IsTabled}
use Rattle.nz_spec.specs.search.Beginnings.{IsKnownForm, of_bound, IsKnownPlace, at_zero, at_bound}
use Rattle.nz_spec.specs.clauses.Literal.{Literal, SayTheSame, StandOnce, TellsLiterals, is_at_most, is_below, negation_of, term_literal}
use Rattle.nz_spec.specs.simplex.LiteralBounds.{FormBound, turned}
use Rattle.nz_spec.specs.simplex.PositionMoves.{with_form, with_unit}
use Rattle.nz_spec.specs.terms.Table.{HasOneNumberEach, IsTable, Node, OneNumber, term_in}
use Rattle.nz_spec.specs.terms.Term.{Term}
use Rattle.nz_spec.specs.clauses.Units.{times_unit}
use Rattle.nz_lin.specs.declared.bound.Bound.{Bound}
use Rattle.nz_lin.specs.declared.form.Part.{Part}
use Rattle.nz_lin.specs.Forms.{AreUnits, NamesUnit, Numbered, form_over, negated, part_over, parts_over}
use Rattle.nz_tab.specs.Units.{is_unit_form, new_units, unit_of}
use Rattle.nz_log.specs.declared.atoms.Atom.{Atom}
use Rattle.nz_log.specs.declared.atoms.Atom.TheVariants.{AtMost}
use Rattle.nz_log.specs.Atoms.{AreAtoms, IsLitIn, atom_in, literal_in, with_sign}
use Rattle.nz_simplex.specs.Moves.{IsJoined, KnowsNonbasicAlone, joined_over, unit_terms, with_all_units}
use Rattle.nz_simplex.specs.Standing.{half}
use Rattle.nz_simplex.specs.State.{IsSound, State, nonbasic_in, point_in, position_over, value_in}
use Rattle.nz_reals.specs.Arranging.{AreAtomsIn, HasJoined, HasMoved, HasTurned, IsArranged, IsAtZero, IsBoundAmong, IsFormOfBound, IsSumAmong, IsTabledAtom, MayArrange, MayHaveJoined, MayHaveStood, StandsAmong}
use Rattle.nz_reals.specs.Joins.{AddsForm, MayAddSum}
use Rattle.nz_reals.specs.Known.{said_at}
use Rattle.nz_reals.specs.Stands.{IsOver}
use Rattle.nz_reals.specs.Starts.{MayRestart}
use Rattle.nz_reals.specs.State.{Theory}
use Rattle.nz_reals.specs.Stored.{AreForms, FindsForms, IsStored}
use Rattle.nz_reals.specs.Sums.{AreNonzero, is_turned, turned_sum, zero_bound}
use Rattle.nz_reals.proofs.AddedAtoms.{normal_at}
use Rattle.nz_reals.proofs.LiteralForms.{said_of_form}
use Rattle.nz_reals.proofs.JoinedForms.{adds_form, forms_then, then_cases, then_kept, tolds_then, unit_sum, unit_units, units_from}
use Rattle.nz_reals.proofs.RefutationClauses.{own_units}
use Rattle.nz_reals.proofs.AtomBounds.{bound_in_log}
use Rattle.nz_reals.proofs.Sums.{literal_parts, one_sum, parts_back, turned_form, turned_over, turned_units}

-- ---- Units that join a position

all_units : (P : List spec.Part → Type 0) (s : Position) (us : List Term) → AllByRecursion P s.forms → AllByRecursion (λ (u : Term). P (unit_form u).parts) us → AllByRecursion P (with_all_units s us).forms
all_units P s [] h k = h
all_units P s (u ∷ us) h k = all_units P (with_unit s u) us (AllByRecursion-append P s.forms ((unit_form u).parts ∷ []) h (k.0, tt)) k.1

-- the terms of units
terms_of_units : (Q : Term → Type 0) (ns : List Node) (fs : List (List Part)) → AllByRecursion (λ (f : List Part). (p : Part) × (f ≡ unit_of p) × Q (term_in ns p.unit)) fs → AllByRecursion Q (unit_terms ns fs)
terms_of_units Q ns [] h = tt
terms_of_units Q ns ([] ∷ fs) h = terms_of_units Q ns fs h.1
terms_of_units Q ns ((p ∷ ps) ∷ fs) h =
    let q : Part = h.0.0 in
    let is : p ∷ ps ≡ unit_of q = h.0.1 in
    let first : p ≡ record { unit = q.unit; sort = q.sort; coefficient = whole (pos 1) } = cc in
    let unit : p.unit ≡ q.unit = ap (λ (r : Part). r.unit) first in
    (subst (λ (u : ℕ). Q (term_in ns u)) (sym unit) h.0.2, terms_of_units Q ns fs h.1)

-- the position when the units of a form have joined
abbrev with_new_units : List Node → State → List Part → Position
with_new_units ns s f = with_all_units (position_over ns s) (unit_terms ns (new_units s.forms f))

-- ---- A bound among atoms

parts_told : (l : Literal) → parts_of l ≡ (bound_of l).parts
parts_told (term_literal t sign) = refl
parts_told (is_at_most ps b) = refl
parts_told (is_below ps b) = refl

module _ (all : List Atom) (ids : List ℕ) (b : Bound) (among : IsBoundAmong all ids b) where
  -- over a table
  module _ (ns : List Node) (within : AreAtomsIn ns all ids) where
    bound_units : AreUnits ns b.sides.parts
    bound_units =
        own_units ns all (record { atom = among.id; sign = true }) b among.at
        (All-contains (λ (id : ℕ). IsLitIn ns all (record { atom = id; sign = true })) ids among.id within among.listed)

    abbrev says : Literal
    says = literal_in ns all (record { atom = among.id; sign = true })

    says_parts : parts_of says ≡ parts_over ns b.sides.parts
    says_parts =
        parts_told says
        ∙ ap (λ (o : Option Atom). (bound_of (elim o [ None ↦ term_literal (term_in ns 0) true | Some a ↦ with_sign true (atom_in ns a) ])).parts) among.at
        ∙ literal_parts ns b

    form_units : (f : List Part) → IsFormOfBound b f → AreUnits ns f
    form_units f (inl is) = subst (AreUnits ns) (sym is) (turned_units ns b.sides.parts bound_units)
    form_units f (inr unit) = subst (AreUnits ns) (sym unit.2) (unit_units ns unit.0 (each_of (NamesUnit ns) b.sides.parts bound_units.names unit.0 unit.1))

    sum_among : (f : List Part) → IsFormOfBound b f → IsSumAmong ns all ids (parts_over ns f)
    sum_among f (inl is) = record { bound = b; among = among; is = inl (ap (parts_over ns) is ∙ turned_over ns b.sides.parts ∙ ap turned (sym says_parts)) }
    sum_among f (inr unit) = record {
      bound = b;
      among = among;
      is = inr (part_over ns unit.0, subst (λ (ps : List spec.Part). Contains ps (part_over ns unit.0)) (sym says_parts) (map_has (part_over ns) b.sides.parts unit.0 unit.1), ap (parts_over ns) unit.2);
    }

    -- the units of a form that joins
    has_unit : (f : List Part) → IsFormOfBound b f → (p : Part) → Contains f p → (q : Part) × Contains b.sides.parts q × (q.unit ≡ p.unit)
    has_unit f (inl is) p has = by_test (is_turned b.sides.parts) (subst (λ (g : List Part). Contains g p) is has)
      where
        by_test : (t : Bool) → Contains (if t then map negated b.sides.parts else b.sides.parts) p → (q : Part) × Contains b.sides.parts q × (q.unit ≡ p.unit)
        by_test false h = (p, h, refl)
        by_test true h = let q = map_from negated b.sides.parts p h in (q.0, q.1, ap (λ (r : Part). r.unit) q.2)
    has_unit f (inr unit) p has =
        let one : Contains (unit_of unit.0) p = subst (λ (g : List Part). Contains g p) unit.2 has in
        let unit_is : unit.0.unit ≡ p.unit = each_of (λ (r : Part). unit.0.unit ≡ r.unit) (unit_of unit.0) (refl, tt) p one in
        (unit.0, unit.1, unit_is)

    unit_among : (p : Part) → ((q : Part) × Contains b.sides.parts q × (q.unit ≡ p.unit)) → IsSumAmong ns all ids (unit_form (term_in ns p.unit)).parts
    unit_among p has =
        let q = has.0 in
        subst (λ (u : ℕ). IsSumAmong ns all ids (unit_form (term_in ns u)).parts) has.2 (sum_among (unit_of q) (inr (q, has.1, refl)))

    units_among : (fs : List (List Part)) (f : List Part) → IsFormOfBound b f → AllByRecursion (λ (u : Term). IsSumAmong ns all ids (unit_form u).parts) (unit_terms ns (new_units fs f))
    units_among fs f is =
        terms_of_units (λ (u : Term). IsSumAmong ns all ids (unit_form u).parts) ns (new_units fs f)
        (by_each (λ (x : List Part). (p : Part) × (x ≡ unit_of p) × IsSumAmong ns all ids (unit_form (term_in ns p.unit)).parts) (new_units fs f)
        (λ x has. let u = units_from fs f x has in (u.part, u.is, unit_among u.part (has_unit f is u.part u.of))))

    -- the position when it has joined
    sums_then : (s : State) (f : List Part) → IsFormOfBound b f → AllByRecursion (IsSumAmong ns all ids) (map (parts_over ns) s.forms) → AllByRecursion (IsSumAmong ns all ids) (joined_over ns s f).forms
    sums_then s f is sums = by_test (is_unit_form f)
      where
        with_these : AllByRecursion (IsSumAmong ns all ids) (with_new_units ns s f).forms
        with_these = all_units (IsSumAmong ns all ids) (position_over ns s) (unit_terms ns (new_units s.forms f)) sums (units_among s.forms f is)

        by_test : (t : Bool) → AllByRecursion (IsSumAmong ns all ids) (if t then with_new_units ns s f else with_form (with_new_units ns s f) (parts_over ns f)).forms
        by_test true = with_these
        by_test false = AllByRecursion-append (IsSumAmong ns all ids) (with_new_units ns s f).forms (parts_over ns f ∷ []) with_these (sum_among f is, tt)

-- ---- Forms over a table

map_found : {X Y : Type 0} (f : X → Y) (xs : List X) (i : ℕ) (y : Y) → slice_get (map f xs) i ≡ Some y → (x : X) × (slice_get xs i ≡ Some x) × (f x ≡ y)
map_found {X} {Y} f xs i y at = by_case (slice_get xs i) refl (sym (slice_get-map f xs i) ∙ at)
  where
    by_case : (o : Option X) → slice_get xs i ≡ o → option_map f o ≡ Some y → (x : X) × (slice_get xs i ≡ Some x) × (f x ≡ y)
    by_case None e h = absurd cc
    by_case (Some x) e h = (x, e, cc)

-- what stands once does so over the table
pub forms_once : (ns : List Node) → HasOneNumberEach ns → (fs : List (List Part)) → AllByRecursion (AreUnits ns) fs → StandOnce fs → StandOnce (map (parts_over ns) fs)
forms_once ns one fs units once i j f at to =
    let g = map_found (parts_over ns) fs i f at in
    let h = map_found (parts_over ns) fs j f to in
    let same : g.0 ≡ h.0 = one_sum ns one g.0 h.0 (at_of (AreUnits ns) fs units i g.0 g.1).names (at_of (AreUnits ns) fs units j h.0 h.1).names (g.2 ∙ sym h.2) in
    once i j h.0 (g.1 ∙ ap Some same) h.1

-- ---- A theory

module _ (all : List Atom) (ids : List ℕ) where
  -- what moves stands as it may
  stands_then : (fs gs : List (List Part)) → ((k : ℕ) (f : List Part) → slice_get fs k ≡ Some f → slice_get gs k ≡ Some f) → (k : ℕ) (v : Infinitesimal) → StandsAmong all ids fs k v → StandsAmong all ids gs k v
  stands_then fs gs kept k v (inl zero) = inl zero
  stands_then fs gs kept k v (inr b) = inr (record { bound = b.bound; among = b.among; form = kept k (turned_sum b.bound.sides.parts) b.form; sign = b.sign; value = b.value })

  places_then : (t u : Theory) (moved : ℕ → Infinitesimal → Type 0) → HasMoved t u moved → ((k : ℕ) (v : Infinitesimal) → moved k v → StandsAmong all ids u.simplex.forms k v)
      → ((k : ℕ) (v : Infinitesimal) → point_in t.simplex k ≡ Some v → StandsAmong all ids t.simplex.forms k v) → (k : ℕ) (v : Infinitesimal) → point_in u.simplex k ≡ Some v → StandsAmong all ids u.simplex.forms k v
  places_then t u moved m may places k v at = by_case (m.points k v at)
    where
      by_case : moved k v ⊎ (point_in t.simplex k ≡ Some v) → StandsAmong all ids u.simplex.forms k v
      by_case (inl h) = may k v h
      by_case (inr was) = stands_then t.simplex.forms u.simplex.forms m.kept k v (places k v was)

  -- what joins keeps it so
  pub arranged_more : (may : MayArrange all ids) (b : Bound) (among : IsBoundAmong all ids b) (f : List Part) → IsFormOfBound b f → (t u : Theory) → IsArranged all ids t → MayHaveJoined t u f → IsArranged all ids u
  arranged_more may b among f is t u h (inl same) = subst (IsArranged all ids) (sym same) h
  arranged_more may b among f is t u h (inr joined) = record {
    over = λ ns table within. joined.over ns (form_units all ids b among ns within f is) (h.over ns table within);
    sums = λ ns table within.
        subst (λ (p : Position). AllByRecursion (IsSumAmong ns all ids) p.forms) (sym (joined.position ns (h.over ns table within) (form_units all ids b among ns within f is)))
        (sums_then all ids b among ns within t.simplex f is (h.sums ns table within));
    places = places_then t u IsAtZero joined.moves (λ k v zero. inl zero) h.places;
    unbounded = joined.moves.unbounded h.unbounded;
    unknown = joined.moves.unknown h.unknown;
  }

  -- so does what moves to where it may stand
  arranged_turned : (t u : Theory) (moved : ℕ → Infinitesimal → Type 0) → ((k : ℕ) (v : Infinitesimal) → moved k v → StandsAmong all ids u.simplex.forms k v) → IsArranged all ids t → HasTurned t u moved → IsArranged all ids u
  arranged_turned t u moved may h turned = record {
    over = λ ns table within. let over = h.over ns table within in record { table = over.table; units = subst (λ (fs : List (List Part)). AllByRecursion (AreUnits ns) fs) (sym turned.forms) over.units };
    sums = λ ns table within. subst (λ (fs : List (List Part)). AllByRecursion (IsSumAmong ns all ids) (map (parts_over ns) fs)) (sym turned.forms) (h.sums ns table within);
    places = places_then t u moved turned.moves may h.places;
    unbounded = turned.moves.unbounded h.unbounded;
    unknown = turned.moves.unknown h.unknown;
  }

  pub arranged_stood : (t u : Theory) (b : Bound) → IsBoundAmong all ids b → (k : ℕ) (v : Infinitesimal) (sign : Bool) → slice_get t.simplex.forms k ≡ Some (turned_sum b.sides.parts) → v ≡ (said_at b.sides.parts b.sides.offset sign).value
      → IsArranged all ids t → MayHaveStood t u k v → IsArranged all ids u
  arranged_stood t u b among k v sign form value h (inl same) = subst (IsArranged all ids) (sym same) h
  arranged_stood t u b among k v sign form value h (inr turned) =
      arranged_turned t u (λ j w. (j ≡ k) × (w ≡ v))
      (λ j w moved. inr (record { bound = b; among = among; form = turned.moves.kept j (turned_sum b.sides.parts) (ap (slice_get t.simplex.forms) moved.0 ∙ form); sign = sign; value = moved.1 ∙ value }))
      h turned

  -- where there is no form yet
  pub arranged_first : (t : Theory) → length t.simplex.forms ≡ 0 → length t.simplex.asserted ≡ 0 → IsSound t.simplex → IsArranged all ids t
  arranged_first t none free sound = record {
    over = λ ns table within. record { table = table; units = subst (λ (fs : List (List Part)). AllByRecursion (AreUnits ns) fs) (sym no_forms) tt };
    sums = λ ns table within. subst (λ (fs : List (List Part)). AllByRecursion (IsSumAmong ns all ids) (map (parts_over ns) fs)) (sym no_forms) tt;
    places = λ k v at. absurd (none_stands k v at);
    unbounded = empty_list t.simplex.asserted free;
    unknown = λ k basic. no_value k;
  }
    where
      empty_list : {A : Type 0} (xs : List A) → length xs ≡ 0 → xs ≡ []
      empty_list [] e = refl
      empty_list (x ∷ xs) e = absurd (omega (arith, e))

      no_forms : t.simplex.forms ≡ []
      no_forms = empty_list t.simplex.forms none

      no_values : t.simplex.values ≡ []
      no_values = empty_list t.simplex.values (sound.valued ∙ none)

      no_value : (k : ℕ) → value_in t.simplex k ≡ None
      no_value k = ap (λ (vs : List (Option Infinitesimal)). slice_index_or vs k None) no_values

      none_stands : (k : ℕ) (v : Infinitesimal) → point_in t.simplex k ≡ Some v → ⊥
      none_stands k v at = by_mark (nonbasic_in t.simplex k) at
        where
          by_mark : (b : Bool) → (if b then value_in t.simplex k else None) ≡ Some v → ⊥
          by_mark true e = absurd (none_some (sym (no_value k) ∙ e))
            where
              none_some : None ≡ Some v → ⊥
              none_some h = absurd cc
          by_mark false e = absurd cc

  -- what may join
  pub may_add_form : MayArrange all ids → (b : Bound) → IsBoundAmong all ids b → (t : Theory) → IsArranged all ids t → (s : Bound) → ((ns : List Node) → IsTable ns → AreUnits ns b.sides.parts → s ≡ zero_bound (turned_sum b.sides.parts))
      → MayAddSum t s.sides.parts × (s.sides.parts ≡ turned_sum b.sides.parts)
  may_add_form may b among t h s zeroed =
      let units = bound_units all ids b among may.table may.within in
      let is = ap (λ (x : Bound). x.sides.parts) (zeroed may.table may.is_table units) in
      let nonzero = All-contains (λ (id : ℕ). (c : Bound) → slice_get all id ≡ Some (AtMost c) → AreNonzero c.sides.parts) ids among.id may.nonzero among.listed b among.at in (
        subst (MayAddSum t) (sym is) (record { table = may.table; over = h.over may.table may.is_table may.within; units = turned_units may.table b.sides.parts units; sum = turned_form b.sides.parts nonzero }),
        is,
      )

  pub may_add_unit : MayArrange all ids → (b : Bound) → IsBoundAmong all ids b → (t : Theory) → IsArranged all ids t → (p : Part) → Contains b.sides.parts p → MayAddSum t (unit_of p)
  may_add_unit may b among t h p has =
      let units = bound_units all ids b among may.table may.within in
      record { table = may.table; over = h.over may.table may.is_table may.within; units = unit_units may.table p (each_of (NamesUnit may.table) b.sides.parts units.names p has); sum = unit_sum p }

  -- it says what it says
  signed_itself : (ps : List spec.Part) (b : Fraction) (sign : Bool) → SayTheSame (with_sign sign (is_at_most ps b)) (with_sign sign (is_at_most ps b))
  signed_itself ps b true = (as_written refl, refl)
  signed_itself ps b false = (as_written refl, refl)

  -- a bound that is tabled is so with either sign
  tabled_with : (number : Numbering) (ts : List Term) (ps : List spec.Part) (b : Fraction) (sign : Bool) → IsTabled number ts (is_at_most ps b) → IsTabled number ts (with_sign sign (is_at_most ps b))
  tabled_with number ts ps b true h = h
  tabled_with number ts ps b false h = record { term = h.term; listed = h.listed; row = h.row; tabled = h.tabled; linear = refl; has = by_case h.has }
    where
      back : negation_of (negation_of (is_at_most ps b)) ≡ is_at_most ps b
      back = ap (λ (qs : List spec.Part). is_at_most qs (neg_ℚ (neg_ℚ b))) (parts_back ps) ∙ ap (is_at_most ps) (neg-back b)

      by_case : Contains h.row.result (is_at_most ps b) ⊎ Contains h.row.result (negation_of (is_at_most ps b)) → Contains h.row.result (negation_of (is_at_most ps b)) ⊎ Contains h.row.result (negation_of (negation_of (is_at_most ps b)))
      by_case (inl has) = inr (subst (Contains h.row.result) (sym back) has)
      by_case (inr has) = inl has

  -- and at the end
  pub arranged_restarts : (t u : Theory) → IsArranged all ids u → IsSound u.simplex → AreForms u.simplex → AreAtoms all → OneNumber → TellsLiterals → (ns : List Node) (ts : List Term) → AreAtomsIn ns all ids → All (IsTabledAtom ns ts all) ids → IsOver t ns → MayRestart u ns ts
  arranged_restarts t u h sound forms atoms one tells ns ts within tabled over =
      let here = h.over ns over.table within in
      record {
        known =
            All-from_recursion (λ (f : List spec.Part). (f ≡ []) ⊎ IsKnownForm ts [] f) (map (parts_over ns) u.simplex.forms)
            (AllByRecursion-weaker (IsSumAmong ns all ids) (λ (f : List spec.Part). (f ≡ []) ⊎ IsKnownForm ts [] f)
            (λ f s.
            let known = All-contains (IsTabledAtom ns ts all) ids s.among.id tabled s.among.listed s.bound s.among.at in
            inr (of_bound known.0 (literal_in ns all (record { atom = s.among.id; sign = true })) known.1 s.is))
            (map (parts_over ns) u.simplex.forms) (h.sums ns over.table within));
        once = λ i j f at to some. forms_once ns (one ns over.table) u.simplex.forms here.units forms.once i j f at to;
        basis = (sound.ready ns here).basis;
        places = λ k v at. by_place k v (h.places k v at);
      }
    where
      by_place : (k : ℕ) (v : Infinitesimal) → StandsAmong all ids u.simplex.forms k v → IsKnownPlace ts (map (parts_over ns) u.simplex.forms) k v
      by_place k v (inl zero) = at_zero zero
      by_place k v (inr b) =
          let ps = b.bound.sides.parts in
          let q = b.bound.sides.offset in
          let y = said_at ps q b.sign in
          let says : literal_in ns all (record { atom = b.among.id; sign = true }) ≡ is_at_most (parts_over ns ps) q =
          bound_in_log ns all (record { atom = b.among.id; sign = true }) b.bound b.among.at (normal_at all b.among.id b.bound atoms b.among.at)
          in
          let known = All-contains (IsTabledAtom ns ts all) ids b.among.id tabled b.among.listed b.bound b.among.at in
          let l = with_sign b.sign (is_at_most (parts_over ns ps) q) in
          at_bound known.0 l (half y.side)
          (record {
            plain = l;
            tabled = tabled_with known.0 ts (parts_over ns ps) q b.sign (subst (IsTabled known.0 ts) says known.1);
            written = l;
            same = signed_itself (parts_over ns ps) q b.sign;
            is_tight = false;
            is = refl;
          })
          (said_of_form ns u.simplex k ps q b.sign (one ns over.table) tells (h.over ns over.table within) forms b.form
          ∙ ap (λ (x : Infinitesimal). let o : Option FormBound = Some (record { form = k; side = half y.side; bound = x }) in o) (sym b.value))

-- ---- How forms move when one joins

module _ (old new : State) (f : List Part) (v : ℕ) (joined : IsJoined old new f v) where
  past_old : (k : ℕ) → length old.forms ≤ k → k < length old.forms → ⊥
  past_old k h less = absurd (omega (arith, h, less))

  -- a form that is new has a value where it is nonbasic, which is 0
  new_value : (k : ℕ) → length old.forms ≤ k → value_in new k ≡ (if nonbasic_in new k then Some zero_infinitesimal else None)
  new_value k h = joined.new_values k (past_old k h) ∙ ap (λ (b : Bool). if b then Some zero_infinitesimal else None) (sym (joined.new_marks k (past_old k h)))

  unknown_then : KnowsNonbasicAlone old → KnowsNonbasicAlone new
  unknown_then unknown k basic = by_place (below_or_past k (length old.forms))
    where
      by_place : (k < length old.forms) ⊎ (length old.forms ≤ k) → value_in new k ≡ None
      by_place (inl h) = joined.old_values k h ∙ unknown k (sym (joined.old_marks k h) ∙ basic)
      by_place (inr h) = new_value k h ∙ ap (λ (b : Bool). if b then Some zero_infinitesimal else None) basic

  points_then : (k : ℕ) (x : Infinitesimal) → point_in new k ≡ Some x → IsAtZero k x ⊎ (point_in old k ≡ Some x)
  points_then k x at = by_place (below_or_past k (length old.forms))
    where
      by_mark : (b : Bool) → (if b then (if b then Some zero_infinitesimal else None) else None) ≡ Some x → x ≡ zero_infinitesimal
      by_mark true h = cc
      by_mark false h = absurd cc

      by_place : (k < length old.forms) ⊎ (length old.forms ≤ k) → IsAtZero k x ⊎ (point_in old k ≡ Some x)
      by_place (inl h) =
          inr
          (ap (λ (b : Bool). if b then value_in old k else None) (sym (joined.old_marks k h))
          ∙ ap (λ (o : Option Infinitesimal). if nonbasic_in new k then o else None) (sym (joined.old_values k h))
          ∙ at)
      by_place (inr h) = inl (by_mark (nonbasic_in new k) (ap (λ (o : Option Infinitesimal). if nonbasic_in new k then o else None) (sym (new_value k h)) ∙ at))

pub moves_then : (old new : Theory) (f : List Part) (v : ℕ) → IsJoined old.simplex new.simplex f v → HasMoved old new IsAtZero
moves_then old new f v joined = record {
  kept = then_kept old.simplex new.simplex f v joined;
  unbounded = λ none. joined.asserted ∙ none;
  unknown = unknown_then old.simplex new.simplex f v joined;
  points = points_then old.simplex new.simplex f v joined;
}

-- ---- A unit that joins alone

-- what is looked up stays
finds_alone : (old new : Theory) (f : List Part) (v : ℕ) → IsJoined old.simplex new.simplex f v → is_unit_form f ≡ true → (find : Atom → Option ℕ) → FindsForms find old.simplex.forms → FindsForms find new.simplex.forms
finds_alone old new f v joined alone find finds = record {
  found = λ b w at. then_kept old.simplex new.simplex f v joined w b.sides.parts (finds.found b w at);
  all = λ w g at other. elim (then_cases old.simplex new.simplex f v joined w g at other) [
    | inl was ↦ finds.all w g was other
    | inr last ↦ absurd (true≢false (sym alone ∙ last.2))
  ];
}

-- what is a unit over each table is that unit
pub unit_is : OneNumber → (ns : List Node) → IsTable ns → (p : Part) (f : Numbered) (q : Fraction) → q ≡ whole (pos 1) → AreUnits ns (unit_of p)
    → ((ms : List Node) → form_over ms f ≡ times_unit q (term_in ms p.unit)) → ((ms : List Node) → NamesUnit ms (record { unit = p.unit; sort = p.sort; coefficient = q }) → AreUnits ms f.parts) → f.parts ≡ unit_of p
unit_is one ns table p f q single unit form units =
    one_sum ns (one ns table) f.parts (unit_of p) (units ns unit.names.0).names unit.names
    (ap (λ (x : spec.Form). x.parts) (form ns) ∙ ap (λ (r : Fraction). (times_unit r (term_in ns p.unit)).parts) single)

module _ (old new : Theory) (p : Part) (v : ℕ) (may : MayAddSum old (unit_of p)) (joined : IsJoined old.simplex new.simplex (unit_of p) v) (known : new.known ≡ old.known) (told : new.told ≡ old.told) where
  pub stored_alone : (find : Atom → Option ℕ) → IsStored find old → IsStored find new
  stored_alone find h = record {
    forms = forms_then old new (unit_of p) v may joined h.forms (λ many. absurd (true≢false (refl ∙ many)));
    finds = finds_alone old new (unit_of p) v joined refl find h.finds;
    tolds = tolds_then old new (unit_of p) v may joined known told h.tolds;
  }

  pub joined_alone : ((ns : List Node) → IsOver old ns → AreUnits ns (unit_of p) → position_over ns new.simplex ≡ joined_over ns old.simplex (unit_of p)) → HasJoined old new (unit_of p)
  joined_alone position = let adds : AddsForm old new (unit_of p) = adds_form old new (unit_of p) v may joined known told in record { over = adds.over; position = position; moves = moves_then old new (unit_of p) v joined }
