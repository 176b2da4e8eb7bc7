-- Clauses that refute: what the log has then, and where a sum leaves the numbers.
use Rattle.std.proofs.Common.{◌≡◌, ℕ, ◌<◌, Bool, true, false, not, List, [], ◌∷◌, ◌++◌, map, length, get_or, take, ◌+◌, Option, Some, None, Result, Ok, Err, Global, refl, sym, ap, ◌∙◌, subst}
use Rattle.std.specs.Prelude.{All, Contains, IfOk, IsSome, IsTrue, slice_get, slice_index_or, if◌then◌else◌}
use Rattle.std.specs.List.{AllByRecursion, list_all}
use Rattle.std.specs.declared.vec.Vec.{Vec}
use Rattle.std.proofs.lemmas.List.Elements.{All-contains, Contains-get_or}
use Rattle.std.proofs.lemmas.List.{map-append, take_more}
use Rattle.nz_lists.proofs.Elements.{AllByRecursion-append}
use Rattle.nz_lists.proofs.Members.{at_of, each_of, map_from, map_has}
use Rattle.nz_fractions.proofs.FirstOperations.{first_wide-is}
use Rattle.nz_fractions.specs.Fraction.{IsNumber, first_wide}
use Rattle.nz_spec.specs.clauses.Farkas as farkas
use Rattle.nz_spec.specs.clauses.Farkas.{is_contradiction, is_multiple, negations_of, sum_of_multiples, sums_of}
use Rattle.nz_spec.specs.terms.Form.{IsOrderOf}
use Rattle.nz_spec.specs.terms.FormOf.{number_in}
use Rattle.nz_spec.specs.numbers.Computation.{at_once, turned_into}
use Rattle.nz_spec.specs.clauses.Literal.{StandOnce, clause_of, once}
use Rattle.nz_spec.specs.search.Notes.{sum_site}
use Rattle.nz_spec.specs.clauses.Steps.{farkas_step}
use Rattle.nz_spec.specs.terms.Table.{Node}
use Rattle.nz_frac.specs.declared.frac.Wide as frac
use Rattle.nz_frac.specs.Operations.{operation_of}
use Rattle.nz_lin.specs.declared.bound.Bound.{Bound}
use Rattle.nz_lin.specs.declared.bound.BoundMultiple as lin
use Rattle.nz_lin.specs.declared.form.Part.{Part}
use Rattle.nz_lin.specs.Bounds as lin_bounds
use Rattle.nz_lin.specs.Bounds.{HasUnits}
use Rattle.nz_lin.specs.Forms.{AreInOrder, AreUnits, negated}
use Rattle.nz_log.specs.declared.atoms.Atom.{Atom}
use Rattle.nz_log.specs.declared.atoms.Atom.TheVariants.{AtMost}
use Rattle.nz_log.specs.declared.lits.Lit.{Lit}
use Rattle.nz_log.specs.declared.multiples.LitMultiple.{LitMultiple}
use Rattle.nz_place.specs.declared.place.Site.TheVariants.{Sum}
use Rattle.nz_search.specs.declared.stop.Stop.{Stop}
use Rattle.nz_search.specs.declared.stop.Stop.TheVariants.{Wide}
use Rattle.nz_search.specs.Places.{OnWide}
use Rattle.nz_simplex.specs.Contradictions.{Contradicts}
use Rattle.nz_log.specs.Atoms.{IsAtomIn, IsLitIn, TellsLits, literal_in}
use Rattle.nz_log.specs.Axioms.{AreMultiplesIn, farkas_of, first_wide_in_step, multiple_in, multiples_in, negated_lits}
use Rattle.nz_log.specs.Leveled.{AreTold, Names}
use Rattle.nz_log.specs.Lits.{are_same_lit, negated_lit}
use Rattle.nz_log.specs.Logs.{Entry, LogState, Puts, axiom_entry, entry_at, literals_at, told_of}
use Rattle.nz_search.specs.Theories.{IsClash}
use Rattle.nz_reals.specs.Known.{Known}
use Rattle.nz_reals.specs.Stands.{IsKnown, IsOf, IsOver}
use Rattle.nz_reals.specs.State.{Theory, known_at}
use Rattle.nz_reals.specs.Sums.{is_turned, turned_sum}
use Rattle.nz_reals.specs.Tells.{AreBoundsOf, AreKnown, AreOf, IsSumPlace, literals_of, multiples_over}
use Rattle.nz_reals.proofs.Contradictions.{some_known, turned_names}
use Rattle.nz_lists.proofs.Once.{once_from, once_once}
use Rattle.nz_reals.proofs.AtomBounds.{literal_is}

-- ---- Units of bounds

pub own_units : (ns : List Node) (atoms : List Atom) (l : Lit) (b : Bound) → slice_get atoms l.atom ≡ Some (AtMost b) → IsLitIn ns atoms l → HasUnits ns b
own_units ns atoms l b at is =
    let same : is.atom ≡ AtMost b = cc in
    subst (IsAtomIn ns) same is.within

pub units_handed : {E : Type 0} (r : Result Bound E) (atoms : List Atom) (l : Lit) (b : Bound) → slice_get atoms l.atom ≡ Some (AtMost b)
    → IfOk r (λ n. (ns : List Node) → HasUnits ns b → HasUnits ns n) → IfOk r (λ n. (ns : List Node) → IsLitIn ns atoms l → HasUnits ns n)
units_handed (Ok n) atoms l b at units = λ ns is. units ns (own_units ns atoms l b at is)
units_handed (Err e) atoms l b at units = units

-- the order of a sum that is turned
turned_order : (ps : List Part) → AreInOrder (turned_sum ps) → AreInOrder ps
turned_order ps h = by_test (is_turned ps) h
  where
    above : (q : Part) (qs : List Part) → AllByRecursion (λ (r : Part). q.unit < r.unit) (map negated qs) → AllByRecursion (λ (r : Part). q.unit < r.unit) qs
    above q [] k = tt
    above q (r ∷ rs) k = (k.0, above q rs k.1)

    back : (qs : List Part) → AreInOrder (map negated qs) → AreInOrder qs
    back [] k = tt
    back (q ∷ qs) k = (above q qs k.0, back qs k.1)

    by_test : (b : Bool) → AreInOrder (if b then map negated ps else ps) → AreInOrder ps
    by_test true k = back ps k
    by_test false k = k

-- the table of the forms has the units of what is known
pub known_units : (ns : List Node) (t : Theory) (b : Bound) (k : Known) → IsOver t ns → IsKnown t b k → AreUnits ns b.sides.parts
known_units ns t b k over is =
    let units = at_of (AreUnits ns) t.simplex.forms over.units k.form (turned_sum b.sides.parts) is.form in
    record { names = turned_names ns b.sides.parts units.names; in_order = turned_order b.sides.parts units.in_order }

module _ (t : Theory) (atoms : List Atom) (ids : List ℕ) (of : IsOf t atoms ids) where
  pub one_bound : (l : Lit) → IsSome (known_at t l.atom) → (b : Bound) × (slice_get atoms l.atom ≡ Some (AtMost b))
  one_bound l has = let k = some_known t l.atom has in let b = of.right l.atom k.0 k.1 in (b.0, b.1)

  pub one_in : (ns : List Node) → IsOver t ns → (l : Lit) → IsSome (known_at t l.atom) → IsLitIn ns atoms l
  one_in ns over l has =
      let k = some_known t l.atom has in
      let b = of.right l.atom k.0 k.1 in
      record { atom = AtMost b.0; at = b.1; within = known_units ns t b.0 k.0 over b.2 }

  pub all_in : (ns : List Node) → IsOver t ns → (ms : List LitMultiple) → AreKnown t ms → AreMultiplesIn ns atoms ms
  all_in ns over [] known = tt
  all_in ns over (m ∷ ms) known = (one_in ns over m.literal known.0, all_in ns over ms known.1)

  pub all_bounds : (ms : List LitMultiple) → AreKnown t ms → AllByRecursion (λ (m : LitMultiple). (b : Bound) × (slice_get atoms m.literal.atom ≡ Some (AtMost b))) ms
  all_bounds [] known = tt
  all_bounds (m ∷ ms) known = (one_bound m.literal known.0, all_bounds ms known.1)

  pub multiples_are : (ns : List Node) (ms : List LitMultiple) → AreKnown t ms → multiples_over ns t ms ≡ multiples_in ns atoms ms
  multiples_are ns [] known = refl
  multiples_are ns (m ∷ ms) known =
      let k = some_known t m.literal.atom known.0 in
      let first = literal_is ns t atoms ids m.literal k.0 of k.1 in
      let rest = multiples_are ns ms known.1 in
      λ i. record { literal = first i; multiplier = m.multiplier } ∷ rest i

-- ---- The clause

pub literals_put : (new : LogState) (id : ℕ) (e : Entry) → entry_at new id ≡ Some e → literals_at new id ≡ e.literals
literals_put new id e at = ap (λ (o : Option Entry). elim o [ None ↦ [] | Some x ↦ x.literals ]) at

not_not : (b : Bool) → not (not b) ≡ b
not_not true = refl
not_not false = refl

pub lit_back : (l : Lit) → negated_lit (negated_lit l) ≡ l
lit_back l = λ i. record { atom = l.atom; sign = not_not l.sign i }

pub clash_is : (old new : LogState) (id : ℕ) (ms : List LitMultiple) (ls : List Lit) → TellsLits
    → Puts old id (axiom_entry new (farkas_of ms) (once are_same_lit (negated_lits ms))) new → AreOf ls ms → IsClash new ls id
clash_is old new id ms ls tells puts of =
    let clause = once are_same_lit (negated_lits ms) in
    let is : literals_at new id ≡ clause = literals_put new id (axiom_entry new (farkas_of ms) clause) puts.made in
    record {
      live = puts.live;
      once = subst StandOnce (sym is) (once_once are_same_lit tells.one (negated_lits ms));
      negations = λ l has.
          let m = map_from (λ (x : LitMultiple). negated_lit x.literal) ms l (once_from are_same_lit (negated_lits ms) l (subst (λ c. Contains c l) is has)) in
          subst (Contains ls) (sym (lit_back m.0.literal) ∙ ap negated_lit m.2) (each_of (λ (x : LitMultiple). Contains ls x.literal) ms of m.0 m.1);
    }

-- ---- Levels

all_from : {X : Type 0} (P : X → Type 0) (xs : List X) → ((x : X) → Contains xs x → P x) → All P xs
all_from P xs f = λ k d less. f (slice_index_or xs k d) (Contains-get_or xs k d less)

pub told_then : (old new : LogState) (ms : List LitMultiple) → TellsLits → new.atoms ≡ old.atoms → new.told ≡ old.told
    → AreTold old (literals_of ms) → AreTold new (once are_same_lit (negated_lits ms))
told_then old new ms tells atoms levels told =
    all_from (Names (λ t. IsSome (told_of new t)) new.atoms) (once are_same_lit (negated_lits ms))
    (λ l has.
    let m = map_from (λ (x : LitMultiple). negated_lit x.literal) ms l (once_from are_same_lit (negated_lits ms) l has) in
    let named : Names (λ t. IsSome (told_of old t)) old.atoms m.0.literal =
    All-contains (Names (λ t. IsSome (told_of old t)) old.atoms) (literals_of ms) m.0.literal told (map_has (λ (x : LitMultiple). x.literal) ms m.0 m.1) in
    let here : Names (λ t. IsSome (told_of old t)) old.atoms l = record { atom = named.atom; at = ap (λ (x : Lit). slice_get old.atoms x.atom) (sym m.2) ∙ named.at; terms = named.terms } in
    over_log l here)
  where
    over_log : (l : Lit) → Names (λ t. IsSome (told_of old t)) old.atoms l → Names (λ t. IsSome (told_of new t)) new.atoms l
    over_log l named =
        subst (λ (ls : List (Option ℕ)). Names (λ t. IsSome (slice_index_or ls t None)) new.atoms l) (sym levels)
        (subst (λ (list : List Atom). Names (λ t. IsSome (slice_index_or old.told t None)) list l) (sym atoms) named)

-- ---- Where the sum leaves the numbers

-- the operations of a refutation are those of the sum
farkas_operations : (ns : List Node) (ms : List farkas.Multiple) → IsTrue (list_all is_multiple ms)
    → first_wide_in_step ns (farkas_step ms) ≡ first_wide (sum_of_multiples (number_in ns) ms).operations
farkas_operations ns ms are =
    ap (λ (b : Bool). first_wide (if b then turned_into (λ x. if is_contradiction x then Some (clause_of (negations_of ms)) else None) (sum_of_multiples (number_in ns) ms) else at_once None).operations) are

pub sum_place : (ns : List Node) (t : Theory) (atoms : List Atom) (ids : List ℕ) (ms : List LitMultiple) (wide : frac.Wide) (bs : Vec lin.BoundMultiple Global) → IsOf t atoms ids → AreKnown t ms
    → IsOrderOf (number_in ns) (sums_of (multiples_over ns t ms)) → Contradicts (number_in ns) (multiples_in ns atoms ms) → IsNumber wide.a → IsNumber wide.b
    → first_wide_in_step ns (farkas_step (multiples_in ns atoms ms)) ≡ Some (operation_of wide) → AreBoundsOf ns atoms ms bs.items
    → IsSumPlace ns t ms (record { wide = wide; site = Sum bs })
sum_place ns t atoms ids ms wide bs of known ordered contradicts left right stop bounds =
    let same = multiples_are t atoms ids of ns ms known in
    let first : first_wide (sum_of_multiples (number_in ns) (multiples_in ns atoms ms)).operations ≡ Some (operation_of wide) =
    sym (farkas_operations ns (multiples_in ns atoms ms) contradicts.multiples) ∙ stop in
    record {
      site = ap sum_site (bounds.bounds ∙ sym same);
      ordered = ordered;
      contradicts = subst (Contradicts (number_in ns)) (sym same) contradicts;
      first = ap (λ (xs : List farkas.Multiple). first_wide (sum_of_multiples (number_in ns) xs).operations) same ∙ first;
      leaves = record { left = left; right = right; wide = (first_wide-is (sum_of_multiples (number_in ns) (multiples_in ns atoms ms)).operations (operation_of wide) first).1 };
      within = bounds.units;
    }

-- one bound more of those of these multiples
pub bounds_more : (ns : List Node) (atoms : List Atom) (ms : List LitMultiple) (i : ℕ) (m : LitMultiple) (bs : List lin.BoundMultiple) (b : Bound) → i < length ms → m ≡ get_or ms i m
    → lin_bounds.literal_over ns b ≡ literal_in ns atoms m.literal → HasUnits ns b → AreBoundsOf ns atoms (take i ms) bs
    → AreBoundsOf ns atoms (take (i + 1) ms) (bs ++ record { bound = b; multiplier = m.multiplier } ∷ [])
bounds_more ns atoms ms i m bs b less is says units so =
    let x : lin.BoundMultiple = record { bound = b; multiplier = m.multiplier } in
    let front : take (i + 1) ms ≡ take i ms ++ m ∷ [] = take_more ms i m less ∙ ap (λ (n : LitMultiple). take i ms ++ n ∷ []) (sym is) in
    let one : lin_bounds.multiple_over ns x ≡ multiple_in ns atoms m = λ j. record { literal = says j; multiplier = m.multiplier } in
    record {
      bounds =
          map-append (lin_bounds.multiple_over ns) bs (x ∷ [])
          ∙ ap (λ (l : List farkas.Multiple). l ++ lin_bounds.multiple_over ns x ∷ []) so.bounds
          ∙ ap (λ (y : farkas.Multiple). multiples_in ns atoms (take i ms) ++ y ∷ []) one
          ∙ sym (map-append (multiple_in ns atoms) (take i ms) (m ∷ []))
          ∙ ap (multiples_in ns atoms) (sym front);
      units = AllByRecursion-append (λ (y : lin.BoundMultiple). HasUnits ns y.bound) bs (x ∷ []) so.units (units, tt);
    }

-- a literal of those that are over a table
pub lit_among : (ns : List Node) (atoms : List Atom) (ms : List LitMultiple) (i : ℕ) (m : LitMultiple) → i < length ms → m ≡ get_or ms i m → AreMultiplesIn ns atoms ms → IsLitIn ns atoms m.literal
lit_among ns atoms ms i m less is among =
    each_of (λ (n : LitMultiple). IsLitIn ns atoms n.literal) ms among m (i, less, sym is)

-- the place of a sum, by its stop
pub sum_stops : (ns : List Node) (t : Theory) (atoms : List Atom) (ids : List ℕ) (ms : List LitMultiple) (wide : frac.Wide) (bs : Vec lin.BoundMultiple Global) (stop : Stop) → IsOf t atoms ids → AreKnown t ms
    → IsOver t ns → IsOrderOf (number_in ns) (sums_of (multiples_over ns t ms)) → Contradicts (number_in ns) (multiples_in ns atoms ms) → IsNumber wide.a → IsNumber wide.b
    → first_wide_in_step ns (farkas_step (multiples_in ns atoms ms)) ≡ Some (operation_of wide) → AreBoundsOf ns atoms ms bs.items
    → stop ≡ Wide (record { wide = wide; site = Sum bs }) → OnWide stop (IsSumPlace ns t ms)
sum_stops ns t atoms ids ms wide bs stop of known over ordered contradicts left right first bounds is =
    subst (λ (s : Stop). OnWide s (IsSumPlace ns t ms)) (sym is) (sum_place ns t atoms ids ms wide bs of known ordered contradicts left right first bounds)
