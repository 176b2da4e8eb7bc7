-- Under an assignment that makes the asserted terms, the assumed literals and the decisions true, each literal of the trail is true: where a clause
-- is falsified there is none.
use Rattle.std.proofs.Common.{◌≡◌, ℕ, zero, suc, ◌<◌, ◌||◌, Bool, true, false, not, List, [], ◌∷◌, ◌++◌, length, take, drop, map, Option, Some, None, ◌⊎◌, inl, inr, refl, sym, ap, subst, ◌∙◌, true≢false, arith, ◌≢◌, ◌≤◌}
use Rattle.std.specs.Prelude.{All, Contains, IsTrue, IsSome, filter, nat_lt, slice_get, unwrap_or, option_map}
use Rattle.std.specs.List.{AllByRecursion, list_any}
use Rattle.std.proofs.lemmas.Bool.Decides.{Decides-ltb}
use Rattle.std.proofs.lemmas.List.{get_or-map, map-append, take-append-drop, length-map}
use Rattle.std.proofs.lemmas.List.Concat.{flat_map-append}
use Rattle.std.proofs.lemmas.List.Elements.{All-contains, All-from_recursion}
use Rattle.std.proofs.lemmas.Option.{get_or_from_slice_get, slice_get_within, slice_get-get_or, same_Some, slice_get-map}
use Rattle.nz_lists.proofs.Elements.{AllByRecursion-map}
use Rattle.nz_lists.proofs.Tests.{no_contradiction}
use Rattle.nz_lists.proofs.Members.{has_first, has_found, has_more, has_cases, map_has}
use Rattle.nz_spec.specs.search.Decide.{asserted_numbers, asserted_terms}
use Rattle.nz_spec.specs.search.Search.{Task, literal_by, literals_by, never, signed_literal, AreNamed}
use Rattle.nz_spec.specs.search.Work.{WorkList}
use Rattle.nz_spec.specs.clauses.Literal.{Literal, AreTrueLiterals, IsClauseTrue, NegationIsOther, is_literal_true, AreSameSet, StandOnce}
use Rattle.nz_spec.specs.terms.Model.{IsAssignment, IsModel}
use Rattle.nz_spec.specs.terms.Table.{Node, IsTable, term_in}
use Rattle.nz_spec.specs.terms.Term.{Assignment, IsTrueUnder}
use Rattle.nz_log.specs.declared.lits.Lit.{Lit}
use Rattle.nz_log.specs.declared.atoms.Atom.{Atom}
use Rattle.nz_log.specs.Atoms.{TellsLits, clause_in, literal_in}
use Rattle.nz_log.specs.Lits.{are_same_lit, negated_lit}
use Rattle.nz_log.specs.Logs.{Entry, LogState, IsLive, entry_at, literals_at}
use Rattle.nz_log.specs.Sound.{ClausesAreTrue, IsLog, live_terms}
use Rattle.nz_search.specs.declared.note.Note.{Note}
use Rattle.nz_search.specs.Standing.{search_after}
use Rattle.nz_sat.specs.declared.clauses.Held.{Held}
use Rattle.nz_sat.specs.declared.consult.Bounds.{Bounds}
use Rattle.nz_sat.specs.declared.trail.Assigned.{Assigned}
use Rattle.nz_sat.specs.Clauses.{IsAssumed, IsFalsified, IsImplied, IsReason, IsReasonOf, IsOpen, by_true, by_two}
use Rattle.nz_sat.specs.Numbers.{atom_literal, number_of, numbered}
use Rattle.nz_sat.specs.Sats.{IsAsked}
use Rattle.nz_sat.specs.Theories.{IsTrailOn}
use Rattle.nz_sat.specs.Trails.{EachBehind, IsFalseOn, TrailState, is_decision, IsFreeOn, IsNext, below, level_on, truth_on}
use Rattle.nz_sat.proofs.Backward.{front_place}
use Rattle.nz_sat.proofs.Chains.{filter_has, lit_is}
use Rattle.nz_sat.proofs.Clausal.{other_lit}
use Rattle.nz_sat.proofs.Marks.{false_entry, not_itself}
use Rattle.nz_sat.proofs.AtomNumbers.{number_place, unnamed}
use Rattle.nz_sat.proofs.LogGrowth.{says}
use Rattle.nz_sat.proofs.TrailEntries.{assigned_place}
use Rattle.std.proofs.Math.Bool.{not-not}
use Rattle.nz_sat.proofs.LearnedClauses.{all_from}
use Rattle.nz_sat.proofs.Levels.{below_true, free_high}

-- ---- Atoms by their numbers

-- a named literal has its number among the atoms
pub number_at : (atoms : List ℕ) (t : ℕ) → Contains atoms t → (slice_get atoms (unwrap_or (number_of atoms t) 0) ≡ Some t)
number_at atoms t has =
    elim (number_of atoms t) as (λ o. number_of atoms t ≡ o → slice_get atoms (unwrap_or o 0) ≡ Some t) [
      | None ↦ λ none. absurd (unnamed atoms t has none)
      | Some n ↦ λ at. number_place atoms t n at
    ] refl

pub literal_numbered : (ns : List Node) (all : List Atom) (atoms : List ℕ) (l : Lit) → Contains atoms l.atom
    → literal_by (map (atom_literal ns all) atoms) (numbered atoms l) ≡ literal_in ns all l
literal_numbered ns all atoms l has =
    let n = unwrap_or (number_of atoms l.atom) 0 in
    let at = number_at atoms l.atom has in
    let inside : n < length atoms = slice_get_within atoms n l.atom at in
    ap (λ (x : Literal). signed_literal x l.sign)
    (get_or-map (atom_literal ns all) atoms n l.atom never inside ∙ ap (atom_literal ns all) (get_or_from_slice_get atoms n l.atom l.atom at))
    ∙ sym (says ns all l)

pub literals_numbered : (ns : List Node) (all : List Atom) (atoms : List ℕ) (c : List Lit) → ((l : Lit) → Contains c l → Contains atoms l.atom)
    → literals_by (map (atom_literal ns all) atoms) (map (numbered atoms) c) ≡ clause_in ns all c
literals_numbered ns all atoms [] named = refl
literals_numbered ns all atoms (l ∷ c) named =
    let first = literal_numbered ns all atoms l (named l (has_first l c)) in
    let rest = literals_numbered ns all atoms c (λ m has. named m (has_more l m c has)) in
    λ i. first i ∷ rest i

-- ---- Lists

pub recursion_left : {X : Type 0} (P : X → Type 0) (xs ys : List X) → AllByRecursion P (xs ++ ys) → AllByRecursion P xs
recursion_left P [] ys h = tt
recursion_left P (x ∷ xs) ys h = (h.0, recursion_left P xs ys h.1)

recursion_has : {X Y : Type 0} (P : Y → Type 0) (f : X → Y) (xs : List X) (x : X) → AllByRecursion P (map f xs) → Contains xs x → P (f x)
recursion_has P f xs x h has = All-contains (λ y. P (f y)) xs x (All-from_recursion (λ y. P (f y)) xs (AllByRecursion-map P f xs h)) has

either_is : (b c : Bool) → IsTrue (b || c) → IsTrue b ⊎ IsTrue c
either_is true c h = inl h
either_is false c h = inr h

-- one of them passes
some_true : {X Y : Type 0} (p : Y → Bool) (f : X → Y) (xs : List X) → IsTrue (list_any p (map f xs)) → (x : X) × Contains xs x × IsTrue (p (f x))
some_true p f [] h = absurd (true≢false (sym h))
some_true p f (x ∷ xs) h =
    elim (either_is (p (f x)) (list_any p (map f xs)) h) [
      | inl here ↦ (x, has_first x xs, here)
      | inr later ↦ let r = some_true p f xs later in (r.0, has_more x r.0 xs r.1, r.2)
    ]

-- a literal and its negation aren't both true
signs_clash : NegationIsOther → (a : Assignment) (x : Literal) (sign : Bool) → IsTrue (is_literal_true a (signed_literal x sign)) → IsTrue (is_literal_true a (signed_literal x (not sign))) → ⊥
signs_clash other a x true h k = no_contradiction (is_literal_true a x) h (subst IsTrue (other a x) k)
signs_clash other a x false h k = no_contradiction (is_literal_true a x) k (subst IsTrue (other a x) h)

no_entry : IsSome {T = Entry} None → ⊥
no_entry h = cc

-- ---- Clauses

module _ (clauses : ClausesAreTrue) (other : NegationIsOther) (ns : List Node) (table : IsTable ns) (levels : List (List ℕ)) (log : LogState) (order : IsLog ns levels log)
    (a : Assignment) (sorts : IsAssignment a) (hold : AllByRecursion (IsTrueUnder a) (asserted_terms ns levels)) where
  abbrev Holds : Lit → Type 0
  Holds l = IsTrue (is_literal_true a (literal_in ns log.atoms l))

  fronts_hold : (level : ℕ) → AllByRecursion (IsTrueUnder a) (live_terms ns levels level)
  fronts_hold level =
      let front = take (suc level) levels in
      let back = drop (suc level) levels in
      let parts : asserted_terms ns levels ≡ map (term_in ns) (asserted_numbers front) ++ map (term_in ns) (asserted_numbers back) =
      ap (asserted_terms ns) (sym (take-append-drop (suc level) levels)) ∙ ap (map (term_in ns)) (flat_map-append (λ (l : List ℕ). l) front back)
      ∙ map-append (term_in ns) (asserted_numbers front) (asserted_numbers back) in
      recursion_left (IsTrueUnder a) (map (term_in ns) (asserted_numbers front)) (map (term_in ns) (asserted_numbers back))
      (subst (AllByRecursion (IsTrueUnder a)) parts hold)

  -- each clause of the log is true
  pub clause_true : (i : ℕ) → IsLive log i → IsClauseTrue a (clause_in ns log.atoms (literals_at log i))
  clause_true i live =
      elim (entry_at log i) as (λ o. entry_at log i ≡ o → IsSome o → IsClauseTrue a (clause_in ns log.atoms (elim o [ None ↦ [] | Some e ↦ e.literals ]))) [
        | None ↦ λ at some. absurd (no_entry some)
        | Some e ↦ λ at some. clauses ns table levels log order i e at a sorts (fronts_hold e.level)
      ] refl live

  -- a literal and its negation aren't both
  both_hold : (l : Lit) → Holds l → Holds (negated_lit l) → ⊥
  both_hold l h k =
      let P : Literal → Type 0 = λ m. IsTrue (is_literal_true a m) in
      signs_clash other a (atom_literal ns log.atoms l.atom) l.sign (subst P (says ns log.atoms l) h) (subst P (says ns log.atoms (negated_lit l)) k)

  -- what is false on a trail on which each literal holds doesn't hold
  false_fails : (es : List Assigned) → ((e : Assigned) → Contains es e → Holds e.literal) → (l : Lit) → IsFalseOn es l → Holds l → ⊥
  false_fails es each l falsified h =
      let x = false_entry es l falsified in
      let place = assigned_place es l.atom x.0 x.1 in
      let turned : x.0.literal ≡ negated_lit l = lit_is x.0.literal (negated_lit l) place.0 x.2 in
      both_hold l h (subst Holds turned (each x.0 (has_found es place.1.0 x.0 place.1.1)))

  -- ---- The trail

  module _ (tells : TellsLits) (atoms : List ℕ) (assumed : List Lit) (es : List Assigned) (implied : EachBehind (IsImplied log) es)
      (on_trail : All (λ (e : Assigned). Contains atoms e.literal.atom) es) (only : All (IsAssumed assumed) es)
      (assumed_hold : AreTrueLiterals a (map (literal_in ns log.atoms) assumed))
      (decided_hold : AreTrueLiterals a (literals_by (map (atom_literal ns log.atoms) atoms) (map (λ (e : Assigned). numbered atoms e.literal) (filter is_decision es)))) where
    decision_holds : (e : Assigned) → Contains es e → is_decision e ≡ true → Holds e.literal
    decision_holds e has decides =
        let P : Literal → Type 0 = λ l. IsTrue (is_literal_true a l) in
        let f : Assigned → ℕ × Bool = λ (x : Assigned). numbered atoms x.literal in
        let each = AllByRecursion-map P (literal_by (map (atom_literal ns log.atoms) atoms)) (map f (filter is_decision es)) decided_hold in
        let one = recursion_has (λ p. P (literal_by (map (atom_literal ns log.atoms) atoms) p)) f (filter is_decision es) e each (filter_has is_decision es e has decides) in
        subst P (literal_numbered ns log.atoms atoms e.literal (All-contains (λ (x : Assigned). Contains atoms x.literal.atom) es e on_trail has)) one

    given_holds : (e : Assigned) → Contains es e → e.reason ≡ None → Holds e.literal
    given_holds e has none =
        elim e.level as (λ n. e.level ≡ n → Holds e.literal) [
          | zero ↦ λ low.
              let among = All-contains (IsAssumed assumed) es e only has none low in
              recursion_has (λ (l : Literal). IsTrue (is_literal_true a l)) (literal_in ns log.atoms) assumed e.literal assumed_hold among
          | suc n ↦ λ high.
              let above : nat_lt 0 (suc n) ≡ true = (Decides-ltb 0 (suc n)).1 (omega arith) in
              let decides : is_decision e ≡ true =
              ap (λ (o : Option ℕ). elim o [ None ↦ nat_lt 0 e.level | Some c ↦ false ]) none ∙ ap (nat_lt 0) high ∙ above in
              decision_holds e has decides
        ] refl

    reason_holds : (before : List Assigned) → ((e : Assigned) → Contains before e → Holds e.literal) → (l : Lit) (c : ℕ) → IsReason log before l c → Holds l
    reason_holds before each l c reason =
        let w = some_true (is_literal_true a) (literal_in ns log.atoms) (literals_at log c) (clause_true c reason.live) in
        elim (are_same_lit w.0 l) as (λ b. are_same_lit w.0 l ≡ b → Holds l) [
          | true ↦ λ same. subst Holds (tells.same w.0 l same) w.2
          | false ↦ λ differ. absurd (false_fails before each w.0 (reason.others w.0 w.1 (other_lit tells w.0 l differ)) w.2)
        ] refl

    entry_holds : (i : ℕ) (e : Assigned) → slice_get es i ≡ Some e → ((x : Assigned) → Contains (take i es) x → Holds x.literal) → Holds e.literal
    entry_holds i e at each =
        elim e.reason as (λ o. e.reason ≡ o → IsReasonOf log (take i es) e.literal o → Holds e.literal) [
          | None ↦ λ none reason. given_holds e (has_found es i e at) none
          | Some c ↦ λ some reason. reason_holds (take i es) each e.literal c reason
        ] refl (implied i e at)

    front_holds : (n : ℕ) (i : ℕ) → i < n → (e : Assigned) → slice_get es i ≡ Some e → Holds e.literal
    front_holds zero i less e at = absurd (omega arith)
    front_holds (suc n) i less e at =
        entry_holds i e at (λ x has.
        let p = front_place es i x has in
        front_holds n p.0 (omega (arith, p.1)) x p.2)

    pub trail_holds : (e : Assigned) → Contains es e → Holds e.literal
    trail_holds e has =
        front_holds (length es) has.0 has.1 e (slice_get-get_or es has.0 e has.1 ∙ ap Some has.2)

    -- so no clause of the log is falsified
    pub none_falsified : (i : ℕ) → IsLive log i → IsFalsified es (literals_at log i) → ⊥
    none_falsified i live falsified =
        let w = some_true (is_literal_true a) (literal_in ns log.atoms) (literals_at log i) (clause_true i live) in
        false_fails es trail_holds w.0 (falsified w.0 w.1) w.2

-- ---- What follows from a task

-- Under an assignment that makes true what a task asks, what is assumed, and the decisions of a trail, its entries are true, and no clause of the log is
-- falsified.
module _ (tells : TellsLits) (clauses : ClausesAreTrue) (other : NegationIsOther) (ns : List Node) (levels : List (List ℕ)) (assumed : List Lit) (q : Task) (log : LogState)
    {held : List Held} (atoms : List ℕ) (work : WorkList Note) (asked : IsAsked ns levels log held atoms assumed work q) (b : Bounds) (t : TrailState) (h : IsTrailOn log atoms b t)
    (only : All (IsAssumed assumed) t.entries) (a : Assignment) (model : IsModel q.asserted (search_after ns work).under a)
    (decided_hold : AreTrueLiterals a (literals_by (map (atom_literal ns log.atoms) atoms) (map (λ (e : Assigned). numbered atoms e.literal) (filter is_decision t.entries)))) where
  hold : AllByRecursion (IsTrueUnder a) (asserted_terms ns levels)
  hold = subst (AllByRecursion (IsTrueUnder a)) asked.asserted model.asserted_hold

  assumed_true : AreTrueLiterals a (map (literal_in ns log.atoms) assumed)
  assumed_true = subst (AreTrueLiterals a) asked.under model.assumed_hold

  pub task_entry : (e : Assigned) → Contains t.entries e → IsTrue (is_literal_true a (literal_in ns log.atoms e.literal))
  task_entry =
      trail_holds clauses other ns asked.table levels log asked.order a model.sorts hold tells atoms assumed t.entries h.implied h.on_trail only assumed_true decided_hold

  pub task_falsified : (i : ℕ) → IsLive log i → IsFalsified t.entries (literals_at log i) → ⊥
  task_falsified =
      none_falsified clauses other ns asked.table levels log asked.order a model.sorts hold tells atoms assumed t.entries h.implied h.on_trail only assumed_true decided_hold

-- ---- A learned clause is none that was learned before, and names no atom twice

-- ---- Maps

module _ {X Y : Type 0} (f : X → Y) where
  pub map_from : (xs : List X) (y : Y) → Contains (map f xs) y → (x : X) × Contains xs x × (f x ≡ y)
  map_from [] y h = absurd (omega (arith, h.1))
  map_from (x ∷ xs) y h =
      elim (has_cases (f x) y (map f xs) h) [
        | inl same ↦ (x, has_first x xs, same)
        | inr more ↦ let r = map_from xs y more in (r.0, has_more x r.0 xs r.1, r.2)
      ]

  map_at : (xs : List X) (k : ℕ) (y : Y) → slice_get (map f xs) k ≡ Some y → (x : X) × (slice_get xs k ≡ Some x) × (f x ≡ y)
  map_at xs k y at =
      elim (slice_get xs k) as (λ o. option_map f o ≡ Some y → (x : X) × (o ≡ Some x) × (f x ≡ y)) [
        | None ↦ λ h. cc
        | Some x ↦ λ h. (x, refl, same_Some (f x) y h)
      ] (sym (slice_get-map f xs k) ∙ at)

-- ---- Numbers

module _ (atoms : List ℕ) where
  pub same_atom : (t u : ℕ) → Contains atoms t → Contains atoms u → unwrap_or (number_of atoms t) 0 ≡ unwrap_or (number_of atoms u) 0 → t ≡ u
  same_atom t u has_t has_u same = same_Some t u (sym (number_at atoms t has_t) ∙ ap (slice_get atoms) same ∙ number_at atoms u has_u)

  numbered_same : (l m : Lit) → Contains atoms l.atom → Contains atoms m.atom → numbered atoms l ≡ numbered atoms m → l ≡ m
  numbered_same l m has_l has_m same =
      lit_is l m (same_atom l.atom m.atom has_l has_m (ap (λ (p : ℕ × Bool). p.0) same)) (ap (λ (p : ℕ × Bool). p.1) same)

  -- what one of two clauses has, the other one has where they are the same by numbers
  same_has : (d c : List Lit) → ((l : Lit) → Contains d l → Contains atoms l.atom) → ((l : Lit) → Contains c l → Contains atoms l.atom)
      → AreSameSet (map (numbered atoms) d) (map (numbered atoms) c) → (l : Lit) → Contains d l → Contains c l
  same_has d c named_d named_c same l has =
      let w = map_from (numbered atoms) c (numbered atoms l) ((same (numbered atoms l)).0 (map_has (numbered atoms) d l has)) in
      subst (Contains c) (numbered_same w.0 l (named_c w.0 w.1) (named_d l has) w.2) w.1

  pub numbers_within : (says : ℕ → Literal) (c : List Lit) → ((l : Lit) → Contains c l → Contains atoms l.atom) → AreNamed (map says atoms) (map (numbered atoms) c)
  numbers_within says c named =
      all_from (λ (p : ℕ × Bool). p.0 < length (map says atoms)) (map (numbered atoms) c)
      (λ p has.
      let w = map_from (numbered atoms) c p has in
      let n = unwrap_or (number_of atoms w.0.atom) 0 in
      let inside : n < length atoms = slice_get_within atoms n w.0.atom (number_at atoms w.0.atom (named w.0 w.1)) in
      let same : n ≡ p.0 = ap (λ (q : ℕ × Bool). q.0) w.2 in
      omega (arith, inside, same, length-map atoms says))

  -- ---- Clauses in which each literal is false

  module _ (es : List Assigned) (c : List Lit) (named : (l : Lit) → Contains c l → Contains atoms l.atom) (falsified : IsFalsified es c) where
    pub numbers_once : StandOnce c → StandOnce (map (λ (p : ℕ × Bool). p.0) (map (numbered atoms) c))
    numbers_once once i j n at_i at_j =
        let ps = map (numbered atoms) c in
        let p = map_at (λ (q : ℕ × Bool). q.0) ps i n at_i in
        let q = map_at (λ (r : ℕ × Bool). r.0) ps j n at_j in
        let l = map_at (numbered atoms) c i p.0 p.1 in
        let m = map_at (numbered atoms) c j q.0 q.1 in
        let has_l = has_found c i l.0 l.1 in
        let has_m = has_found c j m.0 m.1 in
        let one : unwrap_or (number_of atoms l.0.atom) 0 ≡ n = ap (λ (r : ℕ × Bool). r.0) l.2 ∙ p.2 in
        let two : unwrap_or (number_of atoms m.0.atom) 0 ≡ n = ap (λ (r : ℕ × Bool). r.0) m.2 ∙ q.2 in
        let atom : l.0.atom ≡ m.0.atom = same_atom l.0.atom m.0.atom (named l.0 has_l) (named m.0 has_m) (one ∙ sym two) in
        let turned : not l.0.sign ≡ not m.0.sign =
        same_Some (not l.0.sign) (not m.0.sign) (sym (falsified l.0 has_l) ∙ ap (truth_on es) atom ∙ falsified m.0 has_m) in
        let sign : l.0.sign ≡ m.0.sign = sym (not-not l.0.sign) ∙ ap not turned ∙ not-not m.0.sign in
        once i j l.0 l.1 (m.1 ∙ ap Some (sym (lit_is l.0 m.0 atom sign)))

    -- a clause that was open when the last decision was taken isn't the same as one with one literal of the last level
    pub open_differs : TellsLits → (size : ℕ) → EachBehind (IsNext size) es → (k : ℕ) (u : Lit) → ((m : Lit) → Contains c m → m ≢ u → level_on es m.atom ≤ k)
        → (d : List Lit) → ((l : Lit) → Contains d l → Contains atoms l.atom) → IsOpen (below k es) d
        → AreSameSet (map (numbered atoms) d) (map (numbered atoms) c) → ⊥
    open_differs tells size order k u others d named_d (by_true l has holds) same =
        let there = same_has d c named_d named same l has in
        not_itself l.sign (same_Some l.sign (not l.sign) (sym (below_true size es order k l.atom l.sign holds) ∙ falsified l there))
    open_differs tells size order k u others d named_d (by_two l m has_l has_m differ free_l free_m) same =
        differ (last l has_l free_l ∙ sym (last m has_m free_m)) where
          last : (x : Lit) → Contains d x → IsFreeOn (below k es) x → x ≡ u
          last x has free =
              elim (are_same_lit x u) as (λ b. are_same_lit x u ≡ b → x ≡ u) [
                | true ↦ λ is. tells.same x u is
                | false ↦ λ other.
                    let there = same_has d c named_d named same x has in
                    let high = free_high size es order k x (falsified x there) free in
                    let low = others x there (other_lit tells x u other) in
                    absurd (omega (arith, high, low))
              ] refl
