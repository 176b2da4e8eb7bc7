-- A search over what is prepared: its atoms, what they say, and what stays when it has learned.
use Rattle.std.proofs.Common.{◌≡◌, inl, inr, ℕ, suc, Bool, true, false, not, List, [], ◌∷◌, ◌++◌, get_or, map, take, Option, Some, None, option_map, Result, Ok, Err, IfOk, OnOk, refl, sym, ap, subst, ◌∙◌, ◌⊎◌, arith}
use Rattle.std.specs.Prelude.{All, Contains, IsSome, slice_get, unwrap_or}
use Rattle.std.specs.List.{AllByRecursion}
use Rattle.std.proofs.lemmas.Option.{get_or_from_slice_get, slice_get_within}
use Rattle.std.proofs.lemmas.List.Elements.{All-append, All-contains, All-contains_itself, All-from_recursion, All-head, All-map, All-tail, All-weaker, Contains-append_left, Contains-append_right, Contains-get_or}
use Rattle.nz_lists.proofs.Members.{has_found, map_from, map_has}
use Rattle.nz_lists.proofs.Elements.{AllByRecursion-weaker}
use Rattle.nz_fractions.specs.Fraction.{Fraction, neg_ℚ}
use Rattle.nz_fractions.proofs.Identities.{neg-back, neg-nonzero}
use Rattle.nz_spec.specs.search.Decide.{asserted_numbers, asserted_terms}
use Rattle.nz_spec.specs.terms.Form as spec
use Rattle.nz_spec.specs.terms.Form.{negated_part}
use Rattle.nz_spec.specs.terms.FormOf.{number_in}
use Rattle.nz_spec.specs.clauses.Gates.{holds, is_boolean_term}
use Rattle.nz_spec.specs.search.Search.{Task, terms_known, told_literals}
use Rattle.nz_spec.specs.search.Atoms.{IsTabled, IsTruth}
use Rattle.nz_spec.specs.clauses.Literal.{are_same_literal, term_literal, is_at_most, Literal}
use Rattle.nz_spec.specs.terms.Table.{Node, IsTable, term_in}
use Rattle.nz_spec.specs.terms.Taken.{IsTakenBoolean}
use Rattle.nz_spec.specs.terms.Term as Term
use Rattle.nz_spec.specs.search.Work.{WorkList}
use Rattle.nz_spec.specs.terms.Term.{is_zero}
use Rattle.nz_lin.specs.declared.bound.Bound.{Bound}
use Rattle.nz_lin.specs.declared.form.Part.{Part}
use Rattle.nz_lin.specs.Bounds.{bounded}
use Rattle.nz_lin.specs.Forms.{parts_over}
use Rattle.nz_log.specs.declared.atoms.Atom.{Atom}
use Rattle.nz_log.specs.declared.atoms.Atom.TheVariants.{Term, AtMost}
use Rattle.nz_log.specs.declared.lits.Lit.{Lit}
use Rattle.nz_term.specs.declared.term_lits.TermLit.{TermLit}
use Rattle.nz_log.specs.Atoms.{AreAtoms, AtomsOfTerms, HasTerm, IsAtomIn, IsLitIn, IsNormal, Stay, TellsLits, atom_in, lit_of, literal_in, lits_of, term_place, terms_of, with_sign}
use Rattle.nz_log.specs.Leveled.{AreToldAtoms, IsToldWithin, LogsStayLeveled, Names}
use Rattle.nz_log.specs.Lits.{negated_lit}
use Rattle.nz_log.specs.Logs.{Entry, IsLive, JoinsAtoms, LogState, entry_at, level_at, literals_at, told_of}
use Rattle.nz_log.specs.Sound.{IsLog, LogsStay, live_at}
use Rattle.nz_search.specs.Standing.{Ends, Stands, search_after}
use Rattle.nz_search.specs.declared.note.Note.{Note}
use Rattle.nz_search.specs.declared.stop.Stop.{Stop}
use Rattle.nz_term.specs.TermLits.{AreConsistent, literal_of, yes}
use Rattle.nz_log.specs.Growth as growth
use Rattle.nz_search.specs.Asked.{AreListedIn}
use Rattle.nz_cform.specs.Covering.{HasBound, Keeps}
use Rattle.nz_sat.specs.declared.clauses.Held.{Held}
use Rattle.nz_cform.specs.Forms.{FormState, covered_at}
use Rattle.nz_cform.specs.Laws.{CoversStay}
use Rattle.nz_cform.specs.Listings.{IsListing, listed_at}
use Rattle.nz_reals.specs.Knowing.{of_stays}
use Rattle.nz_reals.specs.Stands.{HasTold, IsAt, IsFeasible, IsOf, IsOver}
use Rattle.nz_reals.specs.Starts.{MayRestart, TheoriesRestart}
use Rattle.nz_reals.specs.State.{Theory}
use Rattle.nz_reals.specs.Sums.{AreNonzero}
use Rattle.nz_sat.specs.Numbers.{AreNotedIn, IsAtomAt, atom_literal}
use Rattle.nz_sat.specs.Sats as sat
use Rattle.nz_sat.specs.Sats.{AreNamed, AreOn, IsAsked, IsSatisfied, IsTheoryMet, StandsAlone, truth_of}
use Rattle.nz_search.specs.Levels.{Level, added_by_level, asserted_by_level}
use Rattle.nz_engine.specs.Checking.{AreHanded, AreLearnable, HasFound, HaveAtoms, IsLearnable, IsNonzero, IsPosed, IsReady, MayBeNamed, MayBegin, MayLearnMore, terms_named, truth_in, IsPlainAtom, AreCoveredAmong}
use Rattle.nz_engine.specs.Preparing as prepared
use Rattle.nz_engine.specs.Preparing.{AreJust, PreparedState, AreSearched, HoldsAlso, HoldsUnit, IsMadeOf, IsOfForm, IsPrepared, IsSearched, IsSeen, atoms_of, boolean_terms, ids_held}
use Rattle.nz_engine.specs.SearchLaws.{RowLaws, SearchLaws}
use Rattle.nz_engine.proofs.LevelPreservation.{some_of, some_within, still_searched}
use Rattle.nz_engine.proofs.AtomNotes.{listed_part}
use Rattle.nz_engine.proofs.Onces.{boolean_there, boolean_was}
use Rattle.nz_engine.proofs.AssertionPlaces.{in_all, place_of}
use Rattle.nz_engine.proofs.ClausePreservation.{from_lits, joined_prepared, learned, literal_at_atom}
use Rattle.nz_engine.proofs.RowFacts.{AreNonzeroParts, IsOfRow, IsRowLiteral, of_row}

-- ---- Atoms of terms

-- a term's atom tells it
pub same_terms : (atoms : List Atom) (t u : ℕ) → HasTerm atoms t → HasTerm atoms u → term_place atoms t ≡ term_place atoms u → t ≡ u
same_terms atoms t u has_t has_u same =
    let both : Some (Term t) ≡ Some (Term u) = sym has_t ∙ ap (slice_get atoms) same ∙ has_u in
    let is : Term t ≡ Term u = cc in
    cc

-- the truth of a term whose atom is there
pub truth_there : (p : PreparedState) (t : ℕ) → HasTerm p.log.atoms t → truth_in p t ≡ truth_of p.sat (term_place p.log.atoms t)
truth_there p t has = ap (λ (o : Option Atom). elim o [ None ↦ None | Some a ↦ truth_of p.sat (term_place p.log.atoms t) ]) has

-- where atoms join, these stay
pub places_stay : (own : AtomsOfTerms) (old new : List Atom) → Stay old new → (ts : List ℕ) → All (HasTerm old) ts → map (term_place new) ts ≡ map (term_place old) ts
places_stay own old new stay [] has = refl
places_stay own old new stay (t ∷ ts) has =
    let first = (own.keep old new stay t (All-head (HasTerm old) t ts has)).1 in
    let rest = places_stay own old new stay ts (All-tail (HasTerm old) t ts has) in
    λ i. first i ∷ rest i

pub terms_stay : (own : AtomsOfTerms) (old new : List Atom) → Stay old new → (ts : List ℕ) → All (HasTerm old) ts → All (HasTerm new) ts
terms_stay own old new stay ts has = All-weaker (HasTerm old) (HasTerm new) (λ t h. (own.keep old new stay t h).0) ts has

pub lits_stay : (own : AtomsOfTerms) (old new : List Atom) → Stay old new → (c : List TermLit) → All (λ (l : TermLit). HasTerm old l.term) c → lits_of new c ≡ lits_of old c
lits_stay own old new stay [] has = refl
lits_stay own old new stay (l ∷ c) has =
    let P : TermLit → Type 0 = λ m. HasTerm old m.term in
    let first : lit_of new l ≡ lit_of old l = ap (λ (n : ℕ). record { atom = n; sign = l.sign }) (own.keep old new stay l.term (All-head P l c has)).1 in
    let rest = lits_stay own old new stay c (All-tail P l c has) in
    λ i. first i ∷ rest i

pub lit_terms_stay : (own : AtomsOfTerms) (old new : List Atom) → Stay old new → (c : List TermLit) → All (λ (l : TermLit). HasTerm old l.term) c → All (λ (l : TermLit). HasTerm new l.term) c
lit_terms_stay own old new stay c has =
    All-weaker (λ (l : TermLit). HasTerm old l.term) (λ (l : TermLit). HasTerm new l.term) (λ l h. (own.keep old new stay l.term h).0) c has

-- what a literal on a term says
says_one : (ns : List Node) (atoms : List Atom) (l : TermLit) → HasTerm atoms l.term → literal_in ns atoms (lit_of atoms l) ≡ literal_of ns l
says_one ns atoms l has =
    ap (λ (o : Option Atom). elim o [ None ↦ term_literal (term_in ns 0) l.sign | Some a ↦ with_sign l.sign (atom_in ns a) ]) has ∙ signed (term_in ns l.term) l.sign
  where
    signed : (u : Term.Term) (sign : Bool) → with_sign sign (term_literal u true) ≡ term_literal u sign
    signed u true = refl
    signed u false = refl

pub says : (ns : List Node) (atoms : List Atom) (c : List TermLit) → All (λ (l : TermLit). HasTerm atoms l.term) c → map (literal_in ns atoms) (lits_of atoms c) ≡ map (literal_of ns) c
says ns atoms [] has = refl
says ns atoms (l ∷ c) has =
    let P : TermLit → Type 0 = λ m. HasTerm atoms m.term in
    let first = says_one ns atoms l (All-head P l c has) in
    let rest = says ns atoms c (All-tail P l c has) in
    λ i. first i ∷ rest i

-- no assumed literal is the negation of another
pub consistent_lits : (atoms : List Atom) (ls : List TermLit) → All (λ (l : TermLit). HasTerm atoms l.term) ls → AreConsistent ls → sat.AreConsistent (lits_of atoms ls)
consistent_lits atoms ls has apart =
    All-map (λ (l : Lit). Contains (lits_of atoms ls) (negated_lit l) → ⊥) (lit_of atoms) ls
    (λ k d below c.
    let m = get_or ls k d in
    let from = from_lits atoms ls (negated_lit (lit_of atoms m)) c in
    let there = All-contains (λ (l : TermLit). HasTerm atoms l.term) ls from.0 has from.1 in
    let term : from.0.term ≡ m.term = same_terms atoms from.0.term m.term there (has k d below) (ap (λ (l : Lit). l.atom) from.2) in
    let sign : from.0.sign ≡ not m.sign = ap (λ (l : Lit). l.sign) from.2 in
    apart k d below (subst (Contains ls) (λ i. record { term = term i; sign = sign i }) from.1))

-- ---- Sums without a coefficient 0

unnegated : (ps : List spec.Part) → AreNonzeroParts (map negated_part ps) → AreNonzeroParts ps
unnegated [] h = tt
unnegated (p ∷ ps) h = (subst (λ (q : Fraction). is_zero q ≡ false) (neg-back p.coefficient) (neg-nonzero (neg_ℚ p.coefficient) h.0), unnegated ps h.1)

by_sign : (ps : List spec.Part) (b : Fraction) (sign : Bool) → IsRowLiteral (with_sign sign (is_at_most ps b)) → AreNonzeroParts ps
by_sign ps b true h = h
by_sign ps b false h = unnegated ps h

by_number : (ns : List Node) (ps : List Part) → AreNonzeroParts (parts_over ns ps) → AreNonzero ps
by_number ns [] h = tt
by_number ns (p ∷ ps) h = (h.0, by_number ns ps h.1)

tabled_by : (ns : List Node) (us : List Term.Term) (t : Term.Term) (ps : List spec.Part) (b : Fraction) (sign : Bool) → Contains us t → IsOfRow (number_in ns) t (with_sign sign (is_at_most ps b))
    → IsTabled (number_in ns) us (is_at_most ps b)
tabled_by ns us t ps b true listed h =
    let k = h.bound refl in
    record { term = t; listed = listed; row = k.row; tabled = k.tabled; linear = refl; has = inl k.has }
tabled_by ns us t ps b false listed h =
    let k = h.bound refl in
    record { term = t; listed = listed; row = k.row; tabled = k.tabled; linear = refl; has = inr k.has }

-- the atom of a bound is of no strict one
normal_bound : (atoms : List Atom) (i : ℕ) (b : Bound) → AreAtoms atoms → slice_get atoms i ≡ Some (AtMost b) → b.strict ≡ false
normal_bound atoms i b are at =
    All-contains IsNormal atoms (AtMost b) (All-from_recursion IsNormal atoms are.normal) (i, slice_get_within atoms i (AtMost b) at, get_or_from_slice_get atoms i (AtMost b) (AtMost b) at)

-- what a literal on it says
bound_in_log : (ns : List Node) (atoms : List Atom) (l : Lit) (b : Bound) → slice_get atoms l.atom ≡ Some (AtMost b) → b.strict ≡ false
    → literal_in ns atoms l ≡ with_sign l.sign (is_at_most (parts_over ns b.sides.parts) b.sides.offset)
bound_in_log ns atoms l b at normal =
    literal_at_atom ns atoms l (AtMost b) at ∙ ap (λ (s : Bool). with_sign l.sign (bounded s (parts_over ns b.sides.parts) b.sides.offset)) normal

entry_of : {X Y : Type 0} (f : X → Y) (o : Option X) (y : Y) → option_map f o ≡ Some y → (x : X) × (o ≡ Some x)
entry_of f None y e = absurd cc
entry_of f (Some x) y e = (x, refl)

-- ---- What is searched for

module _ (laws : RowLaws) (ns : List Node) (table : IsTable ns) (levels : List Level) (roots : List (List ℕ)) (p : PreparedState) (ready : IsPrepared ns levels roots p) where
  -- A bound that is listed is of a row in the log.
  record IsBoundOf (i : ℕ) (b : Bound) : Type 0 where
    clause : ℕ
    bound : HasBound p.log clause i
    entry : Entry
    here : entry_at p.log clause ≡ Some entry
    has : Contains entry.literals bound.literal
    at : slice_get p.log.atoms bound.literal.atom ≡ Some (AtMost b)
    covered : IsSome (covered_at p.form bound.term)
    fact : IsOfRow (number_in ns) (term_in ns bound.term) (with_sign bound.literal.sign (is_at_most (parts_over ns b.sides.parts) b.sides.offset))

  bound_of_row : (i : ℕ) (b : Bound) → slice_get p.log.atoms i ≡ Some (AtMost b) → IsSome (listed_at p.form.bounds i) → IsBoundOf i b
  bound_of_row i b at some =
      let n = some_of (listed_at p.form.bounds i) some in
      let of = ready.covers.bounds.tabled i n.0 n.1 in
      let x = of.1 in
      let e = entry_of (λ (y : Entry). y.origin) (entry_at p.log of.0) x.row.0 x.row.1 in
      let own : slice_get p.log.atoms x.literal.atom ≡ Some (AtMost b) = ap (slice_get p.log.atoms) x.on ∙ at in
      let some_term : IsSome (covered_at p.form x.term) = subst (λ (o : Option ℕ). IsSome o) (sym (ready.covers.rows.of_covered of.0 x.term x.row)) refl in
      record {
        clause = of.0;
        bound = x;
        entry = e.0;
        here = e.1;
        has = subst (λ (o : Option Entry). Contains (elim o [ None ↦ [] | Some y ↦ y.literals ]) x.literal) e.1 x.has;
        at = own;
        covered = some_term;
        fact = subst (IsOfRow (number_in ns) (term_in ns x.term)) (bound_in_log ns p.log.atoms x.literal b own (normal_bound p.log.atoms i b ready.order.atoms at))
            (of_row laws ns table (asserted_by_level levels) p.log ready.order of.0 x.term x.row (ready.taken x.term some_term) x.literal x.has);
      }

  -- the atom is over the table
  pub searched_within : (i : ℕ) → IsSearched ns p.log p.form i → IsAtomAt ns p.log.atoms i
  searched_within i s = record { atom = s.atom; at = s.at; within = by_atom s.atom s.at s.of }
    where
      by_atom : (a : Atom) → slice_get p.log.atoms i ≡ Some a → IsOfForm ns p.form i a → IsAtomIn ns a
      by_atom (Term t) at of = let n = some_of (covered_at p.form t) of.0 in ready.covers.within t n.0 n.1
      by_atom (AtMost b) at of =
          let x = bound_of_row i b at of in
          let l = x.bound.literal in
          let there = All-contains (IsLitIn ns p.log.atoms) x.entry.literals l (All-from_recursion (IsLitIn ns p.log.atoms) x.entry.literals (ready.order.clauses x.clause x.entry x.here).within) x.has in
          let both : Some there.atom ≡ Some (AtMost b) = sym there.at ∙ x.at in
          let one : there.atom ≡ AtMost b = cc in
          subst (IsAtomIn ns) one there.within

  -- a level was told of each term that it names
  pub searched_told : (i : ℕ) → IsSearched ns p.log p.form i → Names (λ t. IsSome (told_of p.log t)) p.log.atoms (record { atom = i; sign = true })
  searched_told i s = record { atom = s.atom; at = s.at; terms = by_atom s.atom s.at s.of }
    where
      by_atom : (a : Atom) → slice_get p.log.atoms i ≡ Some a → IsOfForm ns p.form i a → AllByRecursion (λ t. IsSome (told_of p.log t)) (terms_of a)
      by_atom (Term t) at of = (subst (λ (o : Option ℕ). IsSome o) (sym (ready.covers.rows.told t)) of.0, tt)
      by_atom (AtMost b) at of =
          let x = bound_of_row i b at of in
          let names = ready.leveled x.clause x.entry x.here x.bound.literal x.has in
          let both : Some names.atom ≡ Some (AtMost b) = sym names.at ∙ x.at in
          let one : names.atom ≡ AtMost b = cc in
          subst (λ (a : Atom). AllByRecursion (λ t. IsSome (told_of p.log t)) (terms_of a)) one
          (AllByRecursion-weaker (IsToldWithin p.log x.entry.level) (λ t. IsSome (told_of p.log t)) (λ t told. some_within (told_of p.log t) x.entry.level told) (terms_of names.atom) names.terms)

  -- the theory may learn of it
  pub searched_learnable : (i : ℕ) → IsSearched ns p.log p.form i → IsLearnable ns p.log.atoms i
  searched_learnable i s =
      record {
        within = searched_within i s;
        nonzero = subst IsNonzero (sym (get_or_from_slice_get p.log.atoms i s.atom (Term 0) s.at)) (by_atom s.atom s.at s.of);
      }
    where
      by_atom : (a : Atom) → slice_get p.log.atoms i ≡ Some a → IsOfForm ns p.form i a → IsNonzero a
      by_atom (Term t) at of = tt
      by_atom (AtMost b) at of =
          let x = bound_of_row i b at of in
          by_number ns b.sides.parts (by_sign (parts_over ns b.sides.parts) b.sides.offset x.bound.literal.sign x.fact.literal)

  -- and it may be named, where what is covered is listed
  module _ (us : List Term.Term) (listed : (t : ℕ) → IsSome (covered_at p.form t) → Contains us (term_in ns t)) where
    abbrev IsNameable : Literal → Type 0
    IsNameable l = IsTruth us l ⊎ IsTabled (number_in ns) us l

    pub searched_nameable : (i : ℕ) → IsSearched ns p.log p.form i → IsTruth us (atom_literal ns p.log.atoms i) ⊎ IsTabled (number_in ns) us (atom_literal ns p.log.atoms i)
    searched_nameable i s = by_atom s.atom s.at s.of
      where
        by_atom : (a : Atom) → slice_get p.log.atoms i ≡ Some a → IsOfForm ns p.form i a → IsNameable (atom_literal ns p.log.atoms i)
        by_atom (Term t) at of =
            inl (record { term = term_in ns t; boolean = of.1; listed = listed t of.0; is = literal_at_atom ns p.log.atoms (record { atom = i; sign = true }) (Term t) at })
        by_atom (AtMost b) at of =
            let x = bound_of_row i b at of in
            subst IsNameable (sym (bound_in_log ns p.log.atoms (record { atom = i; sign = true }) b at (normal_bound p.log.atoms i b ready.order.atoms at)))
            (inr (tabled_by ns us (term_in ns x.bound.term) (parts_over ns b.sides.parts) b.sides.offset x.bound.literal.sign (listed x.bound.term x.covered) x.fact))

-- ---- The atoms of a search

module _ (ns : List Node) (p : PreparedState) (own : AtomsOfTerms) (are : AreAtoms p.log.atoms) (terms : IsListing p.form.terms) (bounds : IsListing p.form.bounds)
    (has : All (HasTerm p.log.atoms) (boolean_terms ns p.form.terms.ids)) where
  abbrev booleans : List ℕ
  booleans = boolean_terms ns p.form.terms.ids

  abbrev places : List ℕ
  places = map (term_place p.log.atoms) booleans

  -- what is searched for is among them
  pub searched_in : (i : ℕ) → IsSearched ns p.log p.form i → Contains (atoms_of ns p) i
  searched_in i s = by_atom s.atom s.at s.of
    where
      by_atom : (a : Atom) → slice_get p.log.atoms i ≡ Some a → IsOfForm ns p.form i a → Contains (atoms_of ns p) i
      by_atom (Term t) at of =
          let there : Contains booleans t = boolean_there ns p.form.terms.ids t ((terms.listed t).1 of.0) of.1 in
          subst (Contains (atoms_of ns p)) (sym (own.one p.log.atoms are i t at))
          (Contains-append_left places p.form.bounds.ids (term_place p.log.atoms t) (map_has (term_place p.log.atoms) booleans t there))
      by_atom (AtMost b) at of = Contains-append_right places p.form.bounds.ids i ((bounds.listed i).1 of)

  from_places : (i : ℕ) → Contains places i → (t : ℕ) × Contains booleans t × (term_place p.log.atoms t ≡ i)
  from_places i c =
      let P = λ (j : ℕ). j ≡ i → (t : ℕ) × Contains booleans t × (term_place p.log.atoms t ≡ i) in
      All-contains P places i
      (All-map P (term_place p.log.atoms) booleans (All-weaker (Contains booleans) (λ t. P (term_place p.log.atoms t)) (λ t there e. (t, there, e)) booleans (All-contains_itself booleans))) c refl

  term_here : (t : ℕ) → Contains booleans t → HasTerm p.log.atoms t
  term_here t c = All-contains (HasTerm p.log.atoms) booleans t has c

  -- a place of a term is searched for
  place_searched : (i : ℕ) → Contains places i → IsSearched ns p.log p.form i
  place_searched i c =
      let of = from_places i c in
      let was = boolean_was ns p.form.terms.ids of.0 of.1 in
      record { atom = Term of.0; at = ap (slice_get p.log.atoms) (sym of.2) ∙ term_here of.0 of.1; of = ((terms.listed of.0).0 was.0, was.1) }

  module _ (bound_at : (i : ℕ) → IsSome (listed_at p.form.bounds i) → (b : Bound) × (slice_get p.log.atoms i ≡ Some (AtMost b))) where
    -- each of them is searched for
    pub atoms_searched : All (IsSearched ns p.log p.form) (atoms_of ns p)
    atoms_searched =
        All-append (IsSearched ns p.log p.form) places p.form.bounds.ids
        (All-weaker (Contains places) (IsSearched ns p.log p.form) place_searched places (All-contains_itself places))
        (All-weaker (Contains p.form.bounds.ids) (IsSearched ns p.log p.form)
        (λ i c. let some = (bounds.listed i).0 c in let b = bound_at i some in record { atom = AtMost b.0; at = b.1; of = some })
        p.form.bounds.ids (All-contains_itself p.form.bounds.ids))

-- what a list names behind others is just that
pub named_numbers : (own : AtomsOfTerms) (ns : List Node) (old p : PreparedState) → AreAtoms p.log.atoms → IsListing p.form.terms → IsListing p.form.bounds → All (HasTerm p.log.atoms) (boolean_terms ns p.form.terms.ids)
    → ((i : ℕ) → IsSome (listed_at p.form.bounds i) → (b : Bound) × (slice_get p.log.atoms i ≡ Some (AtMost b))) → p.form ≡ old.form → Stay old.log.atoms p.log.atoms → (front : List ℕ)
    → MayBeNamed ns old front → prepared.Names front (atoms_of ns p) p.noted → AreJust (atoms_of ns p) p.noted
named_numbers own ns old p are terms bounds has bound_at form stay front may names =
    record {
      each = names.each;
      only = All-weaker (Contains p.noted) (Contains (atoms_of ns p))
          (λ i there.
          elim (names.only i there) [
            | inl was ↦ searched_in ns p own are terms bounds has i
                (still_searched ns ns old p i (λ a at. stay i a at) (λ a at of. subst (λ (f : FormState). IsOfForm ns f i a) (sym form) of) (All-contains (IsSearched ns old.log old.form) front i may.searched was))
            | inr is ↦ is
          ]) p.noted (All-contains_itself p.noted);
      once = names.once may.once;
    }

pub both_ok : {X E : Type 0} (r : Result X E) (H : X → Type 0) (B : Type 0) (R : X → Type 0) → ((x : X) → H x → B → R x) → IfOk r H → OnOk r B → IfOk r R
both_ok (Ok x) H B R f h b = f x h b
both_ok (Err e) H B R f h b = tt

-- ---- A search that is handed its atoms

-- what these roots are made of is listed in what is asked
pub made_among : (ns : List Node) (levels : List Level) (assumed : List TermLit) (roots : List ℕ) (ts : List Term.Term) → ((r : ℕ) → Contains roots r → Contains (asserted_numbers (added_by_level levels) ++ terms_named assumed) r)
    → AreListedIn ns levels assumed ts → (t : ℕ) → IsMadeOf ns roots t → Contains ts (term_in ns t)
made_among ns levels assumed roots ts into listed t of =
    listed (term_in ns t) (listed_part ns levels assumed of.root (into of.root of.has) (term_in ns t) of.part)

-- so is what is covered for the assertions
pub prepared_among : {ns : List Node} {levels : List Level} (assumed : List TermLit) {p : PreparedState} → IsPrepared ns levels (added_by_level levels) p → (ts : List Term.Term) → AreListedIn ns levels assumed ts
    → AreCoveredAmong ns p ts
prepared_among {ns} {levels} assumed {p} ready ts listed t some =
    let k = some_of (covered_at p.form t) some in
    made_among ns levels assumed (live_at (added_by_level levels) k.0) ts
    (λ r has.
    let place = place_of (live_at (added_by_level levels) k.0) r has in
    Contains-append_left (asserted_numbers (added_by_level levels)) (terms_named assumed) r (has_found (asserted_numbers (added_by_level levels)) place.0 r (in_all (added_by_level levels) (suc k.0) place.0 r place.1)))
    listed t (ready.made t k.0 k.1)

-- and what is covered for the assumed literals besides
pub covered_by : (ns : List Node) (levels : List Level) (assumed : List TermLit) (old new : PreparedState) (ts : List Term.Term) → AreListedIn ns levels assumed ts → AreCoveredAmong ns old ts
    → ((t : ℕ) → IsSome (covered_at new.form t) → IsSome (covered_at old.form t) ⊎ IsMadeOf ns (terms_named assumed) t) → AreCoveredAmong ns new ts
covered_by ns levels assumed old new ts listed among made t some =
    elim (made t some) [
      | inl was ↦ among t was
      | inr of ↦ made_among ns levels assumed (terms_named assumed) ts (λ r has. Contains-append_right (asserted_numbers (added_by_level levels)) (terms_named assumed) r has) listed t of
    ]

module _ (laws : RowLaws) (own : AtomsOfTerms) {ns : List Node} {levels : List Level} {assumed : List TermLit} {p : PreparedState} (posed : IsPosed ns levels assumed p)
    {ids : List ℕ} {lits : List Lit} (n : AreHanded ns p assumed ids lits) where
  abbrev ready : IsPrepared ns levels (added_by_level levels ++ posed.more ∷ []) p
  ready = posed.standing.raised

  bound_at : (i : ℕ) → IsSome (listed_at p.form.bounds i) → (b : Bound) × (slice_get p.log.atoms i ≡ Some (AtMost b))
  bound_at i some =
      let k = some_of (listed_at p.form.bounds i) some in
      let of = ready.covers.bounds.tabled i k.0 k.1 in
      (of.1.bound, of.1.is_bound)

  pub ids_searched : All (IsSearched ns p.log p.form) ids
  ids_searched =
      All-weaker (Contains (atoms_of ns p)) (IsSearched ns p.log p.form)
      (λ i has. All-contains (IsSearched ns p.log p.form) (atoms_of ns p) i (atoms_searched ns p own ready.order.atoms n.terms n.bounds n.there.covered bound_at) has) ids n.numbers.only

  -- what is searched for is among them
  ids_there : (i : ℕ) → IsSearched ns p.log p.form i → Contains ids i
  ids_there i s = All-contains (Contains ids) (atoms_of ns p) i n.numbers.each (searched_in ns p own ready.order.atoms n.terms n.bounds n.there.covered i s)

  pub ids_within : All (IsAtomAt ns p.log.atoms) ids
  ids_within = All-weaker (IsSearched ns p.log p.form) (IsAtomAt ns p.log.atoms) (searched_within laws ns posed.table levels (added_by_level levels ++ posed.more ∷ []) p ready) ids ids_searched

  pub ids_learnable : AreLearnable p.sat.theory p.log.atoms ids
  ids_learnable =
      record {
        table = ns;
        over = posed.over;
        each = All-weaker (IsSearched ns p.log p.form) (IsLearnable ns p.log.atoms) (searched_learnable laws ns posed.table levels (added_by_level levels ++ posed.more ∷ []) p ready) ids ids_searched;
      }

  pub ids_told : AreToldAtoms p.log ids
  ids_told =
      let T = λ (l : Lit). Names (λ t. IsSome (told_of p.log t)) p.log.atoms l in
      All-map T (λ (i : ℕ). record { atom = i; sign = true }) ids
      (All-weaker (IsSearched ns p.log p.form) (λ i. T (record { atom = i; sign = true })) (searched_told laws ns posed.table levels (added_by_level levels ++ posed.more ∷ []) p ready) ids ids_searched)

  -- each may be named, where what is covered is listed
  pub ids_nameable : (q : Task) → q.numbering ≡ number_in ns → AreCoveredAmong ns p q.listed → All (λ i. IsPlainAtom q (atom_literal ns p.log.atoms i)) ids
  ids_nameable q numbering listed =
      All-weaker (IsSearched ns p.log p.form) (λ i. IsPlainAtom q (atom_literal ns p.log.atoms i))
      (λ i s.
      subst (λ (number : spec.Numbering). IsTruth q.listed (atom_literal ns p.log.atoms i) ⊎ IsTabled number q.listed (atom_literal ns p.log.atoms i)) (sym numbering)
      (searched_nameable laws ns posed.table levels (added_by_level levels ++ posed.more ∷ []) p ready q.listed listed i s)) ids ids_searched

  pub may_begin : TheoriesRestart → (q : Task) → q.numbering ≡ number_in ns → AreCoveredAmong ns p q.listed → MayRestart p.sat.theory ns q.earlier → MayBegin p.sat.theory ns q p.log.atoms ids
  may_begin restart q numbering listed rest =
      record {
        over = posed.over;
        numbering = numbering;
        rest = restart.more p.sat.theory ns q.earlier (terms_known q) (λ t c. Contains-append_left q.earlier q.listed t c) rest;
        within = ids_within;
        nameable = ids_nameable q numbering listed;
        once = n.numbers.once;
        atoms = ready.order.atoms;
      }

  -- more may be, behind the first of them
  pub may_learn_more : (q : Task) → q.numbering ≡ number_in ns → AreCoveredAmong ns p q.listed → (from : ℕ) (work : WorkList Note) → AreNotedIn p.log.atoms work.lines (take from ids)
      → MayLearnMore ns q p.log.atoms ids from work
  may_learn_more q numbering listed from work named =
      record {
        table = posed.table;
        numbering = numbering;
        within = ids_within;
        nameable = ids_nameable q numbering listed;
        once = n.numbers.once;
        atoms = ready.order.atoms;
        named = named;
      }

  -- the assumed literals are on them
  lits_among : All (λ (l : Lit). Contains ids l.atom) lits
  lits_among =
      let A = λ (l : Lit). Contains ids l.atom in
      subst (All A) (sym n.on_atoms)
      (All-map A (lit_of p.log.atoms) assumed
      (λ k d below.
      let l : TermLit = get_or assumed k d in
      let has : Contains (terms_named assumed) l.term = map_has (λ (m : TermLit). m.term) assumed l (Contains-get_or assumed k d below) in
      let boolean : is_boolean_term (term_in ns l.term) ≡ true = (All-contains (λ t. IsTakenBoolean (term_in ns t)) (terms_named assumed) l.term posed.assumed_taken has).boolean in
      ids_there (term_place p.log.atoms l.term) (record { atom = Term l.term; at = n.there.named k d below; of = (posed.assumed_covered k d below, boolean) })))

  pub are_named : AreNamed p.log p.sat.clauses lits ids
  are_named =
      record {
        clauses = λ k d below.
            let x = get_or p.sat.clauses k d in
            All-weaker (λ (l : Lit). IsSearched ns p.log p.form l.atom) (λ (l : Lit). Contains ids l.atom)
            (λ l s. ids_there l.atom s)
            (literals_at p.log x.id) (ready.searched k d below);
        assumed_named = lits_among;
        once = n.numbers.once;
      }

  pub are_consistent : AreConsistent assumed → sat.AreConsistent lits
  are_consistent apart = subst sat.AreConsistent (sym n.on_atoms) (consistent_lits p.log.atoms assumed n.there.named apart)

  -- literals on its atoms that say the same are one
  said_once : TellsLits → (l m : Lit) → Contains ids l.atom → Contains ids m.atom → literal_in ns p.log.atoms l ≡ literal_in ns p.log.atoms m → l ≡ m
  said_once tells l m has_l has_m same =
      let within : (x : Lit) → Contains ids x.atom → IsLitIn ns p.log.atoms x =
      λ x has. let t = All-contains (IsAtomAt ns p.log.atoms) ids x.atom ids_within has in record { atom = t.atom; at = t.at; within = t.within } in
      let agree = tells.agree ns posed.table p.log.atoms ready.order.atoms in
      tells.same l m
      (sym (agree l m (within l has_l) (within m has_m)) ∙ ap (λ (x : Literal). are_same_literal x (literal_in ns p.log.atoms m)) same ∙ agree m m (within m has_m) (within m has_m)
      ∙ tells.one m)

  -- the literal of an assertion stands alone in a clause
  unit_alone : TellsLits → (k t : ℕ) → HoldsUnit (asserted_by_level levels) p k t → (l : Lit) → Contains ids l.atom → literal_of ns (yes t) ≡ literal_in ns p.log.atoms l → StandsAlone p.log p.sat.clauses l
  unit_alone tells k t u l has says_it =
      let On : Lit → Type 0 = λ x. Contains ids x.atom in
      let m = lit_of p.log.atoms (yes t) in
      let named = All-contains (λ (h : Held). All On (literals_at p.log h.id)) p.sat.clauses u.held are_named.clauses u.there in
      let one : m ≡ l = said_once tells m l (All-head On m [] (subst (All On) u.literals named)) has (says_one ns p.log.atoms (yes t) u.named ∙ says_it) in
      record {
        clause = u.held;
        has = u.there;
        live = (All-contains (λ (h : Held). IsLive p.log h.id × (level_at p.log h.id ≡ h.level)) p.sat.clauses u.held ready.held u.there).0;
        alone = u.literals ∙ ap (λ (x : Lit). x ∷ []) one;
      }

  asserted_alone : TellsLits → (l : Lit) → Contains ids l.atom → Contains (map holds (asserted_terms ns (asserted_by_level levels))) (literal_in ns p.log.atoms l)
      → StandsAlone p.log p.sat.clauses l
  asserted_alone tells l has asserted =
      let roots = asserted_numbers (asserted_by_level levels) in
      let t = map_from holds (map (term_in ns) roots) (literal_in ns p.log.atoms l) asserted in
      let r = map_from (term_in ns) roots t.0 t.1 in
      let k = place_of roots r.0 r.1 in
      let inside = slice_get_within roots k.0 r.0 k.1 in
      let given = posed.all.given in
      unit_alone tells k.0 r.0 (ready.units k.0 r.0 (omega (arith, inside, given)) k.1) l has (ap holds r.2 ∙ t.2)

  -- one that says what an assumed one says is assumed
  assumed_there : TellsLits → (l : Lit) → Contains ids l.atom → Contains (map (literal_in ns p.log.atoms) lits) (literal_in ns p.log.atoms l) → Contains lits l
  assumed_there tells l has given =
      let k = map_from (literal_in ns p.log.atoms) lits (literal_in ns p.log.atoms l) given in
      let on = All-contains (λ (x : Lit). Contains ids x.atom) lits k.0 lits_among k.1 in
      subst (Contains lits) (said_once tells k.0 l on has k.2) k.1

  pub is_asked : TellsLits → (q : Task) (work : WorkList Note) → q.asserted ≡ asserted_terms ns (asserted_by_level levels)
      → (search_after ns work).under ≡ map (literal_of ns) assumed → IsAsked ns (asserted_by_level levels) p.log p.sat.clauses ids lits work q
  is_asked tells q work asserted under =
      record {
        table = posed.table;
        within = ids_within;
        named = lits_among;
        order = ready.order;
        asserted = asserted;
        under = under ∙ sym (says ns p.log.atoms assumed n.there.named) ∙ ap (map (literal_in ns p.log.atoms)) (sym n.on_atoms);
        units = λ l has there. asserted_alone tells l has (subst (λ (ts : List Term.Term). Contains (map holds ts) (literal_in ns p.log.atoms l)) asserted there);
        assumes = assumed_there tells;
      }

  -- ---- In a log that grows

  module _ (q : PreparedState) (grows : growth.Grows p.log q.log) (form : q.form ≡ p.form) (same_noted : q.noted ≡ p.noted) where
    pub named_have : HaveAtoms ns q assumed
    named_have =
        record {
          covered = subst (λ (f : FormState). All (HasTerm q.log.atoms) (boolean_terms ns f.terms.ids)) (sym form)
              (terms_stay own p.log.atoms q.log.atoms grows.atoms (boolean_terms ns p.form.terms.ids) n.there.covered);
          named = lit_terms_stay own p.log.atoms q.log.atoms grows.atoms assumed n.there.named;
        }

    pub named_lits : lits ≡ lits_of q.log.atoms assumed
    named_lits = n.on_atoms ∙ sym (lits_stay own p.log.atoms q.log.atoms grows.atoms assumed n.there.named)

    named_atoms : atoms_of ns p ≡ atoms_of ns q
    named_atoms =
        ap (λ (is : List ℕ). is ++ p.form.bounds.ids) (sym (places_stay own p.log.atoms q.log.atoms grows.atoms (boolean_terms ns p.form.terms.ids) n.there.covered))
        ∙ ap (λ (f : FormState). map (term_place q.log.atoms) (boolean_terms ns f.terms.ids) ++ f.bounds.ids) (sym form)

    pub named_ids : ids ≡ q.noted
    named_ids = n.noted ∙ sym same_noted

    pub named_just : AreJust (atoms_of ns q) q.noted
    named_just = subst (λ (is : List ℕ). AreJust (atoms_of ns q) is) named_ids (subst (λ (is : List ℕ). AreJust is ids) named_atoms n.numbers)

    -- its atoms are searched for still
    pub ids_still : All (IsSearched ns q.log q.form) ids
    ids_still =
        All-weaker (IsSearched ns p.log p.form) (IsSearched ns q.log q.form)
        (λ i s. still_searched ns ns p q i (λ a at. grows.atoms i a at) (λ a at of. subst (λ (f : FormState). IsOfForm ns f i a) (sym form) of) s) ids ids_searched

    pub named_searched : AreOn q.log ids q.sat.clauses → AreSearched ns q.log q.form q.sat.clauses
    named_searched on k d below =
        let x = get_or q.sat.clauses k d in
        All-weaker (λ (l : Lit). Contains ids l.atom) (λ (l : Lit). IsSearched ns q.log q.form l.atom)
        (λ l c.
        still_searched ns ns p q l.atom (λ a at. grows.atoms l.atom a at) (λ a at of. subst (λ (f : FormState). IsOfForm ns f l.atom a) (sym form) of)
        (All-contains (IsSearched ns p.log p.form) ids l.atom ids_searched c))
        (literals_at q.log x.id) (on k d below)

    -- what a search found, where its theory stands where its list leads
    pub search_finds : IsOf q.sat.theory p.log.atoms ids → IsSatisfied q.log q.sat lits → IsTheoryMet q.log (HasTold q.sat.theory) (IsFeasible q.sat.theory) q.sat ids
        → (task : Task) (work : WorkList Note) → Stands (IsAt q.sat.theory ns) ns task work → HasFound ns assumed q
    search_finds of satisfied met task work stands =
        let of_here : IsOf q.sat.theory q.log.atoms ids = of_stays q.sat.theory p.log.atoms q.log.atoms ids of grows.atoms in
        record {
          handed = record {
            terms = subst (λ (f : FormState). IsListing f.terms) (sym form) n.terms;
            bounds = subst (λ (f : FormState). IsListing f.bounds) (sym form) n.bounds;
            noted = refl;
            numbers = named_just;
            on_atoms = refl;
            there = named_have;
          };
          truths = subst (λ (ls : List Lit). IsSatisfied q.log q.sat ls) named_lits satisfied;
          bounds = subst (λ (is : List ℕ). IsTheoryMet q.log (HasTold q.sat.theory) (IsFeasible q.sat.theory) q.sat is) named_ids met;
          of = subst (λ (is : List ℕ). IsOf q.sat.theory q.log.atoms is) named_ids of_here;
          forms = (search_after ns work).forms;
          told = told_literals (search_after ns work);
          point = stands.point;
          at = stands.at;
        }

    pub found_of : IsOf q.sat.theory p.log.atoms ids → (task : Task) (work : WorkList Note) (r : Result (Option ℕ) Stop) → IfOk r (λ o. o ≡ None → IsSatisfied q.log q.sat lits)
        → IfOk r (λ o. o ≡ None → IsTheoryMet q.log (HasTold q.sat.theory) (IsFeasible q.sat.theory) q.sat ids) → Ends (IsAt q.sat.theory ns) ns task work r
        → IfOk r (λ o. o ≡ None → HasFound ns assumed q)
    found_of of task work (Ok o) s f e = λ none. search_finds of (s none) (f none) task work e
    found_of of task work (Err x) s f e = tt

-- ---- What stays

module _ (own : AtomsOfTerms) (covers : CoversStay) (ns : List Node) (levels : List Level) (assumed : List TermLit) (p q : PreparedState) (form : q.form ≡ p.form)
    (given : q.given ≡ p.given) (numbered : q.numbered ≡ p.numbered) (above : q.above ≡ p.above) where
  posed_with : ((roots : List (List ℕ)) → IsPrepared ns levels roots p → IsPrepared ns levels roots q) → (IsOver p.sat.theory ns → IsOver q.sat.theory ns) → IsPosed ns levels assumed p
      → IsPosed ns levels assumed q
  posed_with stays over h =
      record {
        table = h.table;
        over = over h.over;
        more = h.more;
        standing = record {
          raised = stays (added_by_level levels ++ h.more ∷ []) h.standing.raised;
          plain = λ e. stays (added_by_level levels) (h.standing.plain (sym above ∙ e));
        };
        all = record { given = h.all.given ∙ sym given; numbered = h.all.numbered ∙ sym numbered };
        assumed_covered = subst (λ f. All (λ (l : TermLit). IsSome (covered_at f l.term)) assumed) (sym form) h.assumed_covered;
        taken = h.taken;
        assumed_taken = h.assumed_taken;
        assumed_within = h.assumed_within;
      }

  -- a search has learned
  pub posed_on : growth.Grows p.log q.log → HoldsAlso q.log p.sat.clauses q.sat.clauses → IsSeen q → AreSearched ns q.log q.form q.sat.clauses → (IsLog ns (asserted_by_level levels) p.log → IsLog ns (asserted_by_level levels) q.log)
      → (IsOver p.sat.theory ns → IsOver q.sat.theory ns) → IsPosed ns levels assumed p → IsPosed ns levels assumed q
  posed_on grows more seen on sound over h = posed_with (λ roots r. learned ns levels roots p q grows form given numbered more r own covers seen on (sound h.standing.raised.order)) over h

  -- atoms have joined
  pub posed_joined : LogsStay → LogsStayLeveled → JoinsAtoms p.log q.log → AreAtoms q.log.atoms → q.sat ≡ p.sat → IsPosed ns levels assumed p → IsPosed ns levels assumed q
  posed_joined stay leveled joins all same h =
      posed_with (λ roots r. joined_prepared own stay leveled covers ns levels roots p q joins all form given numbered (ap (λ (s : sat.SatState Theory). s.clauses) same) (ap (λ (s : sat.SatState Theory). s.seen) same) r)
      (subst (λ (s : sat.SatState Theory). IsOver s.theory ns) (sym same)) h

-- a search may go on where atoms have joined
pub posed_named : AtomsOfTerms → CoversStay → LogsStay → LogsStayLeveled → (ns : List Node) (levels : List Level) (assumed : List TermLit) (p q : PreparedState)
    → q ≡ record p { log = q.log; noted = q.noted } → JoinsAtoms p.log q.log → AreAtoms q.log.atoms → IsPosed ns levels assumed p → IsPosed ns levels assumed q
posed_named own covers stay leveled ns levels assumed p q rest joins all posed =
    posed_joined own covers ns levels assumed p q (ap (λ (s : PreparedState). s.form) rest) (ap (λ (s : PreparedState). s.given) rest) (ap (λ (s : PreparedState). s.numbered) rest) (ap (λ (s : PreparedState). s.above) rest) stay leveled
    joins all (ap (λ (s : PreparedState). s.sat) rest) posed

-- ---- What is known before a search

pub ready_named : SearchLaws → LogsStay → LogsStayLeveled → {ns : List Node} {assumed : List TermLit} (first : ℕ) (old : PreparedState) {q : PreparedState} {lits : List Lit}
    → q ≡ record old { log = q.log; noted = q.noted } → JoinsAtoms old.log q.log → AreAtoms q.log.atoms → (joined : List ℕ) × (q.noted ≡ take first old.noted ++ joined) → AreHanded ns q assumed q.noted lits
    → (levels : List Level) × IsPosed ns levels assumed old → IsReady ns assumed first old q q.noted lits
ready_named laws stay leveled {ns} {assumed} first old {q} rest joins all behind handed begun =
    let posed : (levels : List Level) → IsPosed ns levels assumed old → IsPosed ns levels assumed q = λ levels h.
    posed_named laws.atoms laws.covers stay leveled ns levels assumed old q rest joins all h in
    record {
      handed = handed;
      joined = behind.0;
      behind = behind.1;
      kept = record { clauses = λ i live. ap (λ (es : List (Option Entry)). unwrap_or (slice_get es i) None) joins.entries; atoms = joins.atoms };
      held = λ id has. subst (λ (s : PreparedState). Contains (ids_held s.sat.clauses) id) (sym rest) has;
      form = ap (λ (s : PreparedState). s.form) rest;
      posed = posed;
      some = (begun.0, posed begun.0 begun.1);
    }

-- the same of what the names stand for
pub ready_as : {ns : List Node} {assumed : List TermLit} {first : ℕ} {old p q : PreparedState} {ids xs : List ℕ} {lits ls : List Lit} → p ≡ q → ids ≡ xs → lits ≡ ls
    → IsReady ns assumed first old q xs ls → IsReady ns assumed first old p ids lits
ready_as {ns} {assumed} {first} {old} {p} {q} {ids} {xs} {lits} {ls} view same_ids same_lits ready =
    subst (λ (s : PreparedState). IsReady ns assumed first old s ids lits) (sym view)
    (subst (λ (is : List ℕ). IsReady ns assumed first old q is lits) (sym same_ids) (subst (IsReady ns assumed first old q xs) (sym same_lits) ready))

-- and may again when it has learned
pub posed_after : AtomsOfTerms → CoversStay → {ns : List Node} {assumed : List TermLit} {first : ℕ} {old p : PreparedState} {ids : List ℕ} {lits : List Lit} → IsReady ns assumed first old p ids lits → (q : PreparedState)
    → q.form ≡ p.form → q.given ≡ p.given → q.numbered ≡ p.numbered → q.above ≡ p.above → (levels : List Level) → growth.Grows p.log q.log → HoldsAlso q.log p.sat.clauses q.sat.clauses
    → IsSeen q → AreSearched ns q.log q.form q.sat.clauses → (IsLog ns (asserted_by_level levels) p.log → IsLog ns (asserted_by_level levels) q.log) → (IsOver p.sat.theory ns → IsOver q.sat.theory ns) → IsPosed ns levels assumed p
    → IsPosed ns levels assumed q
posed_after own covers {ns} {assumed} {first} {old} {p} r q form given numbered above levels grows more seen on sound over h =
    posed_on own covers ns levels assumed p q form given numbered above grows more seen on sound over h

-- Another theory stands in place of the one.
module _ (ns : List Node) (levels : List Level) (p q : PreparedState) (log : q.log ≡ p.log) (form : q.form ≡ p.form) (clauses : q.sat.clauses ≡ p.sat.clauses) (seen : q.sat.seen ≡ p.sat.seen) (given : q.given ≡ p.given)
    (numbered : q.numbered ≡ p.numbered) where
  with_theory : (roots : List (List ℕ)) → IsPrepared ns levels roots p → IsPrepared ns levels roots q
  with_theory roots h =
      subst (λ (s : PreparedState). IsPrepared ns levels roots (record q { log = s.log; form = s.form; sat = record q.sat { clauses = s.sat.clauses; seen = s.sat.seen }; given = s.given; numbered = s.numbered }))
      (λ i. record p { log = sym log i; form = sym form i; sat = record p.sat { clauses = sym clauses i; seen = sym seen i }; given = sym given i; numbered = sym numbered i })
      (record {
        order = h.order;
        covers = h.covers;
        below = h.below;
        made = h.made;
        taken = h.taken;
        leveled = h.leveled;
        held = h.held;
        seen = h.seen;
        searched = h.searched;
        rows = h.rows;
        units = λ k t below at. let u = h.units k t below at in record { held = u.held; there = u.there; need = u.need; added = u.added; named = u.named; literals = u.literals; behind = u.behind };
        numbers = λ k t below at. let n = h.numbers k t below at in record { level = n.level; covered = n.covered; behind = n.behind };
        within = h.within;
        numbers_within = h.numbers_within;
        lower = h.lower;
        numbers_lower = h.numbers_lower;
      })

-- A search may begin over it, and may be handed the same.
pub ready_with : {ns : List Node} {assumed : List TermLit} {first : ℕ} {old p : PreparedState} {ids : List ℕ} {lits : List Lit} → IsReady ns assumed first old p ids lits → (q : PreparedState) → q.log ≡ p.log
    → q.form ≡ p.form → q.sat.clauses ≡ p.sat.clauses → q.sat.seen ≡ p.sat.seen → q.given ≡ p.given → q.numbered ≡ p.numbered → q.above ≡ p.above → q.noted ≡ p.noted → (IsOver p.sat.theory ns → All (IsAtomAt ns p.log.atoms) ids → IsOver q.sat.theory ns)
    → ((levels : List Level) → IsPosed ns levels assumed p → All (IsAtomAt ns p.log.atoms) ids) → IsReady ns assumed first old q ids lits
ready_with {ns} {assumed} {first} {old} {p} {ids} {lits} r q log form clauses seen given numbered above noted over within =
    let after : (levels : List Level) → IsPosed ns levels assumed p → IsPosed ns levels assumed q = λ levels h.
    record {
      table = h.table;
      over = over h.over (within levels h);
      more = h.more;
      standing = record {
        raised = with_theory ns levels p q log form clauses seen given numbered (added_by_level levels ++ h.more ∷ []) h.standing.raised;
        plain = λ e. with_theory ns levels p q log form clauses seen given numbered (added_by_level levels) (h.standing.plain (sym above ∙ e));
      };
      all = record { given = h.all.given ∙ sym given; numbered = h.all.numbered ∙ sym numbered };
      assumed_covered = subst (λ f. All (λ (l : TermLit). IsSome (covered_at f l.term)) assumed) (sym form) h.assumed_covered;
      taken = h.taken;
      assumed_taken = h.assumed_taken;
      assumed_within = h.assumed_within;
    } in
    let n = r.handed in
    record {
      handed = record {
        terms = subst (λ (f : FormState). IsListing f.terms) (sym form) n.terms;
        bounds = subst (λ (f : FormState). IsListing f.bounds) (sym form) n.bounds;
        noted = n.noted ∙ sym noted;
        numbers = subst (λ (is : List ℕ). AreJust is ids) (λ i. map (term_place (sym log i).atoms) (boolean_terms ns (sym form i).terms.ids) ++ (sym form i).bounds.ids) n.numbers;
        on_atoms = n.on_atoms ∙ (λ i. lits_of (sym log i).atoms assumed);
        there = record {
          covered = subst (λ (f : FormState). All (HasTerm q.log.atoms) (boolean_terms ns f.terms.ids)) (sym form)
              (subst (λ (l : LogState). All (HasTerm l.atoms) (boolean_terms ns p.form.terms.ids)) (sym log) n.there.covered);
          named = subst (λ (l : LogState). All (λ (m : TermLit). HasTerm l.atoms m.term) assumed) (sym log) n.there.named;
        };
      };
      joined = r.joined;
      behind = r.behind;
      kept = subst (λ (l : LogState). Keeps old.log l) (sym log) r.kept;
      held = λ id has. subst (λ (hs : List Held). Contains (ids_held hs) id) (sym clauses) (r.held id has);
      form = form ∙ r.form;
      posed = λ levels h. after levels (r.posed levels h);
      some = (r.some.0, after r.some.0 r.some.1);
    }
