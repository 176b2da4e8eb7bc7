-- What is prepared stays so when a term is covered, when an assertion is given, when a number is counted, and when a search has learned.
use Rattle.std.proofs.Common.{◌≡◌, ℕ, suc, ◌<◌, ◌≤◌, inl, inr, Bool, true, false, max, List, [], ◌∷◌, ◌++◌, length, get_or, map, Option, Some, None, refl, sym, ap, subst, ◌∙◌, arith}
use Rattle.std.specs.Prelude.{All, Contains, IsSome, IsSomeAnd, slice_get, slice_index_or, unwrap_or, option_map}
use Rattle.std.specs.List.{AllByRecursion}
use Rattle.std.proofs.lemmas.Bool.Decides.{eqb_tells}
use Rattle.std.proofs.lemmas.List.{append-nil}
use Rattle.std.proofs.lemmas.List.Elements.{All-append, All-contains, All-contains_itself, All-from_recursion, All-map, All-weaker, Contains-append_left, Contains-append_right, Contains-push}
use Rattle.std.proofs.lemmas.Option.{slice_get_within}
use Rattle.nz_lists.proofs.Members.{map_has}
use Rattle.nz_lists.proofs.Elements.{AllByRecursion-weaker}
use Rattle.nz_spec.specs.terms.Table.{Node, IsTable, term_in}
use Rattle.nz_spec.specs.search.Decide.{asserted_numbers}
use Rattle.nz_spec.specs.clauses.Gates.{is_boolean_term}
use Rattle.nz_spec.specs.clauses.Literal.{term_literal}
use Rattle.nz_spec.specs.terms.Taken.{IsTaken, TakenTermsAreInOrder}
use Rattle.nz_spec.specs.terms.Term as spec_term
use Rattle.nz_log.specs.declared.atoms.Atom.{Atom}
use Rattle.nz_log.specs.declared.atoms.Atom.TheVariants.{Term, AtMost}
use Rattle.nz_log.specs.declared.lits.Lit.{Lit}
use Rattle.nz_log.specs.declared.origins.Subject.TheVariants.{Itself}
use Rattle.nz_term.specs.declared.term_lits.TermLit.{TermLit}
use Rattle.nz_log.specs.Atoms.{AreAtoms, AtomsOfTerms, HasTerm, atom_in, literal_in, lit_of, lits_of, term_place, terms_at, terms_of, with_sign}
use Rattle.nz_log.specs.Leveled.{IsToldWithin, IsLeveled, LogsStayLeveled, Names}
use Rattle.nz_log.specs.Logs.{Origin, assertion_of, row_term, Entry, JoinsAtoms, LogState, entry_at, IsLive, literals_at, level_at, level_of_terms, told_level, Puts, given_entry, subject_of}
use Rattle.nz_log.specs.Sound.{IsLog, live_at, LogsStay}
use Rattle.nz_term.specs.TermLits.{yes}
use Rattle.nz_log.specs.Growth as growth
use Rattle.nz_cform.specs.Covering.{Covers, IsRowAt, Keeps, origin_at}
use Rattle.nz_cform.specs.Forms.{FormState, IsCoveredWithin, covered_at}
use Rattle.nz_cform.specs.Listings.{listed_at}
use Rattle.nz_cform.specs.Laws.{CoversStay, RowsNameCovered}
use Rattle.nz_sat.specs.declared.clauses.Held.{Held}
use Rattle.nz_sat.specs.Sats.{AreHeld, AreSameSince, held_of, need_at, need_by}
use Rattle.nz_search.specs.Levels.{Level, asserted_by_level, numbers_by_level}
use Rattle.nz_engine.specs.Levels.{IsPlaced, count_in}
use Rattle.nz_engine.specs.Preparing.{PreparedState, AreSearched, CoversAlso, HoldsAlso, HoldsRow, HoldsUnit, IsMadeOf, IsNumbered, IsOfForm, IsPrepared, IsSearched, IsSeen, unit_of}
use Rattle.nz_engine.proofs.LevelPreservation.{none_or_some, some_of, some_within, still_searched}
use Rattle.nz_engine.proofs.AssertionPlaces.{count_more, placed_in_all}
use Rattle.nz_engine.specs.SearchLaws.{RowLaws}
use Rattle.nz_engine.proofs.NeededRows.{row_may, row_still}
use Rattle.nz_engine.proofs.RowFacts.{IsRowLiteral, of_row}
use Rattle.nz_engine.proofs.SeenClauses.{seen_held, still_seen}

-- ---- Logs in which each clause stays

module _ (old new : LogState) (kept : Keeps old new) where
  level_kept : (i : ℕ) → IsLive old i → level_at new i ≡ level_at old i
  level_kept i live = ap (λ (o : Option Entry). elim o [ None ↦ 0 | Some x ↦ x.level ]) (kept.clauses i live)

  pub literals_kept : (i : ℕ) → IsLive old i → literals_at new i ≡ literals_at old i
  literals_kept i live = ap (λ (o : Option Entry). elim o [ None ↦ [] | Some x ↦ x.literals ]) (kept.clauses i live)

  origin_kept : (i : ℕ) → IsLive old i → origin_at new i ≡ origin_at old i
  origin_kept i live = ap (option_map (λ (e : Entry). e.origin)) (kept.clauses i live)

  still_held : (hs : List Held) → AreHeld old hs → AreHeld new hs
  still_held hs h =
      All-weaker (λ (x : Held). IsLive old x.id × (level_at old x.id ≡ x.level)) (λ (x : Held). IsLive new x.id × (level_at new x.id ≡ x.level))
      (λ x k. (subst (λ o. IsSome o) (sym (kept.clauses x.id k.0)) k.0, level_kept x.id k.0 ∙ k.1)) hs h

  -- units among clauses that are held, and some more
  still_units : AtomsOfTerms → (levels : List (List ℕ)) (p q : PreparedState) (more : List Held) → p.log ≡ old → q.log ≡ new → AreHeld old p.sat.clauses
      → q.sat.clauses ≡ p.sat.clauses ++ more → (k t : ℕ) → HoldsUnit levels p k t → HoldsUnit levels q k t
  still_units atoms levels p q more was is held joined k t u =
      let own = All-contains (λ (x : Held). IsLive old x.id × (level_at old x.id ≡ x.level)) p.sat.clauses u.held held u.there in
      let stay = atoms.keep old.atoms new.atoms kept.atoms t (subst (λ (s : LogState). HasTerm s.atoms t) was u.named) in
      let unit : unit_of old t ≡ unit_of new t = ap (λ (n : ℕ). record { atom = n; sign = true } ∷ []) (sym stay.1) in
      record {
        held = u.held;
        there = subst (λ hs. Contains hs u.held) (sym joined) (Contains-append_left p.sat.clauses more u.held u.there);
        need = u.need;
        added = u.added;
        named = subst (λ (s : LogState). HasTerm s.atoms t) (sym is) stay.0;
        literals = ap (λ s. literals_at s u.held.id) is ∙ literals_kept u.held.id own.0 ∙ ap (λ s. literals_at s u.held.id) (sym was) ∙ u.literals
            ∙ ap (λ (s : LogState). unit_of s t) was ∙ unit ∙ ap (λ (s : LogState). unit_of s t) (sym is);
        behind = u.behind;
      }

  -- what is searched for among clauses that are held
  still_all : (ns : List Node) (p q : PreparedState) → p.log ≡ old → q.log ≡ new → ((i : ℕ) (a : Atom) → IsOfForm ns p.form i a → IsOfForm ns q.form i a) → (hs : List Held) → AreHeld old hs
      → AreSearched ns p.log p.form hs → AreSearched ns q.log q.form hs
  still_all ns p q was is of hs held on k d inside =
      let x = get_or hs k d in
      let own = held k d inside in
      let same : literals_at q.log x.id ≡ literals_at p.log x.id = ap (λ (s : LogState). literals_at s x.id) is ∙ literals_kept x.id own.0 ∙ ap (λ (s : LogState). literals_at s x.id) (sym was) in
      subst (All (λ (l : Lit). IsSearched ns q.log q.form l.atom)) (sym same)
      (All-weaker (λ (l : Lit). IsSearched ns p.log p.form l.atom) (λ (l : Lit). IsSearched ns q.log q.form l.atom)
      (λ l s.
      still_searched ns ns p q l.atom
      (λ a at. ap (λ (t : LogState). slice_get t.atoms l.atom) is ∙ kept.atoms l.atom a (ap (λ (t : LogState). slice_get t.atoms l.atom) (sym was) ∙ at))
      (λ a at f. of l.atom a f) s)
      (literals_at p.log x.id) (on k d inside))

  -- what a literal names is told within a level still
  still_names : (n : ℕ) (l : Lit) → ((t : ℕ) → IsToldWithin old n t → IsToldWithin new n t) → Names (IsToldWithin old n) old.atoms l → Names (IsToldWithin new n) new.atoms l
  still_names n l told h =
      record {
        atom = h.atom;
        at = kept.atoms l.atom h.atom h.at;
        terms = AllByRecursion-weaker (IsToldWithin old n) (IsToldWithin new n) told (terms_of h.atom) h.terms;
      }

-- a clause that has an origin is there
lives : (s : LogState) (i : ℕ) (o : Origin) → origin_at s i ≡ Some o → IsLive s i
lives s i o at = of_some (entry_at s i) at
  where
    of_some : (x : Option Entry) → option_map (λ (e : Entry). e.origin) x ≡ Some o → IsSome x
    of_some None e = cc
    of_some (Some x) e = refl

-- ---- A term is covered

-- a literal of a mapped list is of one of its elements
pub from_lits : (atoms : List Atom) (c : List TermLit) (l : Lit) → Contains (lits_of atoms c) l → (m : TermLit) × Contains c m × (lit_of atoms m ≡ l)
from_lits atoms c l has =
    let P = λ (x : Lit). x ≡ l → (m : TermLit) × Contains c m × (lit_of atoms m ≡ l) in
    All-contains P (lits_of atoms c) l
    (All-map P (lit_of atoms) c (All-weaker (Contains c) (λ m. P (lit_of atoms m)) (λ m there is. (m, there, is)) c (All-contains_itself c))) has refl

-- a literal on a term, with a sign, is on a Boolean one where a row has it
sign_boolean : (ns : List Node) (u : ℕ) (sign : Bool) → IsRowLiteral (with_sign sign (term_literal (term_in ns u) true)) → is_boolean_term (term_in ns u) ≡ true
sign_boolean ns u true h = h
sign_boolean ns u false h = h

-- what a literal on an atom says
pub literal_at_atom : (ns : List Node) (atoms : List Atom) (l : Lit) (a : Atom) → slice_get atoms l.atom ≡ Some a → literal_in ns atoms l ≡ with_sign l.sign (atom_in ns a)
literal_at_atom ns atoms l a at =
    ap (λ (o : Option Atom). elim o [ None ↦ term_literal (term_in ns 0) l.sign | Some x ↦ with_sign l.sign (atom_in ns x) ]) at

-- each literal of a row is on the atom of a covered Boolean term or on a bound that is listed
row_searched : RowsNameCovered → RowLaws → (ns : List Node) → IsTable ns → (levels : List (List ℕ)) (s : LogState) (f : FormState) → IsLog ns levels s → Covers ns s f
    → (i t : ℕ) → IsRowAt s i t → IsTaken (term_in ns t) → (l : Lit) → Contains (literals_at s i) l → IsSearched ns s f l.atom
row_searched named laws ns table levels s f order covers i t row taken l has =
    let names = named ns levels s f table order covers i t row taken l has in
    let fact = of_row laws ns table levels s order i t row taken l has in
    record { atom = names.atom; at = names.at; of = by_atom names.atom names.at names.terms (subst IsRowLiteral (literal_at_atom ns s.atoms l names.atom names.at) fact.literal) }
  where
    by_atom : (a : Atom) → slice_get s.atoms l.atom ≡ Some a → AllByRecursion (IsCoveredWithin f (level_at s i)) (terms_of a) → IsRowLiteral (with_sign l.sign (atom_in ns a)) → IsOfForm ns f l.atom a
    by_atom (Term u) at terms fact = (some_within (covered_at f u) (level_at s i) terms.0, sign_boolean ns u l.sign fact)
    by_atom (AtMost b) at terms fact =
        some_within (listed_at f.bounds l.atom) (level_at s i)
        (covers.bounds.listed i l.atom (record { term = t; row = row; literal = l; has = has; on = refl; bound = b; is_bound = at }))

module _ (ns : List Node) (levels : List Level) (roots : List (List ℕ)) (p q : PreparedState) (t level : ℕ) (c : CoversAlso ns p t level q) (h : IsPrepared ns levels roots p) where
  told_stays : (n u : ℕ) → IsToldWithin p.log n u → IsToldWithin q.log n u
  told_stays n u told =
      elim (none_or_some (covered_at p.form u)) [
        | inl none ↦ absurd (subst (λ o. IsSomeAnd o (λ k. k ≤ n)) (h.covers.rows.told u ∙ none) told)
        | inr some ↦
            subst (λ o. IsSomeAnd o (λ k. k ≤ n)) (h.covers.rows.told u ∙ some.1 ∙ sym (c.grown.terms.stays u some.0 some.1) ∙ sym (c.covers.rows.told u)) told
      ]

  cover_taken : TakenTermsAreInOrder → IsTaken (term_in ns t) → (u : ℕ) → IsSome (covered_at q.form u) → IsTaken (term_in ns u)
  cover_taken parts own u some =
      elim (none_or_some (covered_at p.form u)) [
        | inl none ↦ parts.parts (term_in ns t) (term_in ns u) own (subst (λ (us : List spec_term.Term). Contains us (term_in ns u)) (parts.listing (term_in ns t) own) (c.made u none some))
        | inr was ↦ h.taken u (subst (λ (o : Option ℕ). IsSome o) (sym was.1) refl)
      ]

  -- the term of a row is taken
  row_taken : TakenTermsAreInOrder → IsTaken (term_in ns t) → (i u : ℕ) → IsRowAt q.log i u → IsTaken (term_in ns u)
  row_taken parts own i u row = cover_taken parts own u (subst (λ (o : Option ℕ). IsSome o) (sym (c.covers.rows.of_covered i u row)) refl)

  cover_leveled : RowsNameCovered → TakenTermsAreInOrder → IsTable ns → IsTaken (term_in ns t) → IsLog ns (asserted_by_level levels) q.log → IsLeveled q.log
  cover_leveled named parts table own order i e at l has =
      elim ((c.added.live i).0 (subst (λ o. IsSome o) (sym at) refl)) [
        | inl live ↦ still_names p.log q.log c.kept e.level l (told_stays e.level) (h.leveled i e (sym (c.kept.clauses i live) ∙ at) l has)
        | inr new ↦
            let row = All-contains (λ k. (u : ℕ) × IsRowAt q.log k u) c.ids i c.added.rows new in
            let own_level : level_at q.log i ≡ e.level = ap (λ (o : Option Entry). elim o [ None ↦ 0 | Some x ↦ x.level ]) at in
            let there : Contains (literals_at q.log i) l = subst (λ (o : Option Entry). Contains (elim o [ None ↦ [] | Some x ↦ x.literals ]) l) (sym at) has in
            let names = named ns (asserted_by_level levels) q.log q.form table order c.covers i row.0 row.1 (row_taken parts own i row.0 row.1) l there in
            record {
              atom = names.atom;
              at = names.at;
              terms = AllByRecursion-weaker (IsCoveredWithin q.form (level_at q.log i)) (IsToldWithin q.log e.level)
                  (λ u within. subst (λ o. IsSomeAnd o (λ n. n ≤ e.level)) (sym (c.covers.rows.told u)) (subst (λ (k : ℕ). IsCoveredWithin q.form k u) own_level within))
                  (terms_of names.atom) names.terms;
            }
      ]

  cover_held : AreHeld q.log q.sat.clauses
  cover_held =
      let P = λ (x : Held). IsLive q.log x.id × (level_at q.log x.id ≡ x.level) in
      subst (AreHeld q.log) (sym c.joined)
      (All-append P p.sat.clauses (map (held_of q.log) c.ids) (still_held p.log q.log c.kept p.sat.clauses h.held)
      (All-map P (held_of q.log) c.ids
      (All-weaker (Contains c.ids) (λ i. P (held_of q.log i)) (λ i has. ((c.added.live i).1 (inr has), refl)) c.ids (All-contains_itself c.ids))))

  -- what was of the form is so still
  cover_of : (i : ℕ) (a : Atom) → IsOfForm ns p.form i a → IsOfForm ns q.form i a
  cover_of i (Term u) of = (let n = some_of (covered_at p.form u) of.0 in subst (λ (o : Option ℕ). IsSome o) (sym (c.grown.terms.stays u n.0 n.1)) refl, of.1)
  cover_of i (AtMost b) of = let n = some_of (listed_at p.form.bounds i) of in subst (λ (o : Option ℕ). IsSome o) (sym (c.grown.bounds.stays i n.0 n.1)) refl

  cover_searched : RowsNameCovered → TakenTermsAreInOrder → RowLaws → IsTable ns → IsTaken (term_in ns t) → IsLog ns (asserted_by_level levels) q.log → AreSearched ns q.log q.form q.sat.clauses
  cover_searched named parts laws table own order =
      let P = λ (x : Held). All (λ (l : Lit). IsSearched ns q.log q.form l.atom) (literals_at q.log x.id) in
      subst (AreSearched ns q.log q.form) (sym c.joined)
      (All-append P p.sat.clauses (map (held_of q.log) c.ids) (still_all p.log q.log c.kept ns p q refl refl cover_of p.sat.clauses h.held h.searched)
      (All-map P (held_of q.log) c.ids
      (All-weaker (λ i. (u : ℕ) × IsRowAt q.log i u) (λ i. P (held_of q.log i))
      (λ i row.
      All-weaker (Contains (literals_at q.log i)) (λ (l : Lit). IsSearched ns q.log q.form l.atom)
      (λ l has. row_searched named laws ns table (asserted_by_level levels) q.log q.form order c.covers i row.0 row.1 (row_taken parts own i row.0 row.1) l has)
      (literals_at q.log i) (All-contains_itself (literals_at q.log i)))
      c.ids c.added.rows)))

  cover_rows : AtomsOfTerms → (i u : ℕ) → IsRowAt q.log i u → HoldsRow q.log q.sat.clauses i
  cover_rows own i u row =
      subst (λ hs. HoldsRow q.log hs i) (sym c.joined)
      (elim ((c.added.live i).0 (lives q.log i row.0 row.1)) [
        | inl live ↦
            row_still p.log q.log i (c.kept.clauses i live) c.kept.atoms p.sat.clauses (map (held_of q.log) c.ids)
            (h.rows i u (row.0, sym (origin_kept p.log q.log c.kept i live) ∙ row.1, row.2))
        | inr new ↦
            record {
              need = need_at q.log i;
              may = row_may own q.log i u row;
              has = Contains-append_right p.sat.clauses (map (held_of q.log) c.ids) (held_of q.log i) (map_has (held_of q.log) c.ids i new);
            }
      ])

  cover_made : t < length ns → Contains (live_at roots level) t → (u n : ℕ) → covered_at q.form u ≡ Some n → IsMadeOf ns (live_at roots n) u
  cover_made within has u n at =
      elim (none_or_some (covered_at p.form u)) [
        | inl none ↦
            let same : level ≡ n = sym (c.grown.terms.added u n none at) in
            record {
              root = t;
              has = subst (λ k. Contains (live_at roots k) t) same has;
              within = within;
              part = c.made u none (subst (λ o. IsSome o) (sym at) refl);
            }
        | inr some ↦
            let both : Some some.0 ≡ Some n = sym (c.grown.terms.stays u some.0 some.1) ∙ at in
            let same : some.0 ≡ n = cc in
            h.made u n (some.1 ∙ ap Some same)
      ]

  cover_below : level < length roots → (u n : ℕ) → covered_at q.form u ≡ Some n → n < length roots
  cover_below low u n at =
      elim (none_or_some (covered_at p.form u)) [
        | inl none ↦ subst (λ k. k < length roots) (sym (c.grown.terms.added u n none at)) low
        | inr some ↦
            let both : Some some.0 ≡ Some n = sym (c.grown.terms.stays u some.0 some.1) ∙ at in
            let same : some.0 ≡ n = cc in
            h.below u n (some.1 ∙ ap Some same)
      ]

  pub covered : AtomsOfTerms → RowsNameCovered → TakenTermsAreInOrder → RowLaws → IsTable ns → t < length ns → IsTaken (term_in ns t) → Contains (live_at roots level) t → level < length roots
      → count_in (asserted_by_level levels) level ≤ p.given → count_in (numbers_by_level levels) level ≤ p.numbered → IsPrepared ns levels roots q
  covered atoms named parts laws table within own has low few less =
      let order = c.sound (asserted_by_level levels) h.order in
      let given = c.given in
      let numbered = c.numbered in
      record {
        order = order;
        covers = c.covers;
        below = cover_below low;
        made = cover_made within has;
        taken = cover_taken parts own;
        leveled = cover_leveled named parts table own order;
        held = cover_held;
        seen = c.seen;
        searched = cover_searched named parts laws table own order;
        rows = cover_rows atoms;
        units = λ k u below at.
            still_units p.log q.log c.kept atoms (asserted_by_level levels) p q (map (held_of q.log) c.ids) refl refl h.held c.joined k u (h.units k u (omega (arith, below, given)) at);
        numbers = λ k u below at.
            let was = h.numbers k u (omega (arith, below, numbered)) at in
            record { level = was.level; covered = c.grown.terms.stays u was.level was.covered; behind = was.behind };
        within = let was = h.within in omega (arith, was, given);
        numbers_within = let was = h.numbers_within in omega (arith, was, numbered);
        lower = λ u.
            let told = c.told u in
            let more = count_more (asserted_by_level levels) (told_level q.log u) level told in
            omega (arith, more, few, given);
        numbers_lower = λ u.
            let told = c.told u in
            let more = count_more (numbers_by_level levels) (told_level q.log u) level told in
            omega (arith, more, less, numbered);
      }

-- ---- An assertion is given

module _ (ns : List Node) (levels : List Level) (roots : List (List ℕ)) (p q : PreparedState) (id t n : ℕ) (puts : Puts p.log id (given_entry q.log p.given t n) q.log)
    (there : HasTerm q.log.atoms t) (joined : q.sat.clauses ≡ p.sat.clauses ++ held_of q.log id ∷ []) (sees : q.sat.seen ≡ Some q.log) (form : q.form ≡ p.form) (given : q.given ≡ suc p.given) (numbered : q.numbered ≡ p.numbered)
    (placed : IsPlaced (asserted_by_level levels) p.given t n)
    (told : told_level p.log t ≤ n) (h : IsPrepared ns levels roots p) where
  put_kept : Keeps p.log q.log
  put_kept =
      record {
        clauses = λ i live. puts.kept i (λ same. let below : i < id = puts.above i live in absurd (omega (arith, below, same)));
        atoms = puts.atoms;
      }

  given_rows : (i u : ℕ) → IsRowAt q.log i u → HoldsRow q.log q.sat.clauses i
  given_rows i u row =
      elim (eqb_tells i id) [
        | inl same ↦
            let both : Some (assertion_of p.given) ≡ Some row.0 = ap (option_map (λ (e : Entry). e.origin)) (sym puts.made ∙ ap (entry_at q.log) (sym same.1)) ∙ row.1 in
            let origin : assertion_of p.given ≡ row.0 = cc in
            let none : None ≡ Some u = ap row_term origin ∙ row.2 in
            absurd cc
        | inr other ↦
            let was : origin_at p.log i ≡ Some row.0 = ap (option_map (λ (e : Entry). e.origin)) (sym (puts.kept i other.1)) ∙ row.1 in
            subst (λ hs. HoldsRow q.log hs i) (sym joined)
            (row_still p.log q.log i (put_kept.clauses i (lives p.log i row.0 was)) put_kept.atoms p.sat.clauses (held_of q.log id ∷ []) (h.rows i u (row.0, was, row.2)))
      ]

  given_unit : HoldsUnit (asserted_by_level levels) q p.given t
  given_unit =
      let named : terms_at q.log.atoms (lit_of q.log.atoms (yes t)) ≡ t ∷ [] = ap (λ (o : Option Atom). elim o [ None ↦ [] | Some a ↦ terms_of a ]) there in
      let same_told : told_level q.log t ≡ told_level p.log t = ap (λ ts. unwrap_or (slice_index_or ts t None) 0) puts.told in
      let level : level_at q.log id ≡ max n (told_level p.log t) =
      ap (λ (o : Option Entry). elim o [ None ↦ 0 | Some x ↦ x.level ]) puts.made ∙ ap (level_of_terms q.log n) named ∙ ap (max n) same_told in
      let same : level_at q.log id ≡ n = omega (arith, level, told) in
      record {
        held = held_of q.log id;
        there = subst (λ hs. Contains hs (held_of q.log id)) (sym joined) (Contains-push p.sat.clauses (held_of q.log id));
        need = ap (λ (o : Option Entry). need_by q.log (elim o [ None ↦ Itself | Some x ↦ subject_of x.origin ])) puts.made;
        added = refl;
        named = there;
        literals = ap (λ (o : Option Entry). elim o [ None ↦ [] | Some x ↦ x.literals ]) puts.made;
        behind = subst (λ m. count_in (asserted_by_level levels) m ≤ p.given) (sym same) placed.behind;
      }

  given_units : AtomsOfTerms → (k u : ℕ) → k < q.given → slice_get (asserted_numbers (asserted_by_level levels)) k ≡ Some u → HoldsUnit (asserted_by_level levels) q k u
  given_units atoms k u below at =
      let asserted = asserted_by_level levels in
      elim (eqb_tells k p.given) [
        | inl same ↦
            let both : Some t ≡ Some u = sym (placed_in_all asserted p.given t n placed) ∙ ap (slice_get (asserted_numbers asserted)) (sym same.1) ∙ at in
            let one : t ≡ u = cc in
            subst (λ j. HoldsUnit asserted q j u) (sym same.1) (subst (HoldsUnit asserted q p.given) one given_unit)
        | inr other ↦
            let differ = other.1 in
            let inside : k < p.given = omega (arith, below, given, differ) in
            still_units p.log q.log put_kept atoms asserted p q (held_of q.log id ∷ []) refl refl h.held joined k u (h.units k u inside at)
      ]

  given_held : AreHeld q.log q.sat.clauses
  given_held =
      let P = λ (x : Held). IsLive q.log x.id × (level_at q.log x.id ≡ x.level) in
      subst (AreHeld q.log) (sym joined)
      (All-append P p.sat.clauses (held_of q.log id ∷ []) (still_held p.log q.log put_kept p.sat.clauses h.held)
      (All-from_recursion P (held_of q.log id ∷ []) ((puts.live, refl), tt)))

  given_searched : IsSome (covered_at p.form t) → is_boolean_term (term_in ns t) ≡ true → AreSearched ns q.log q.form q.sat.clauses
  given_searched some boolean =
      let S = λ (l : Lit). IsSearched ns q.log q.form l.atom in
      let P = λ (x : Held). All S (literals_at q.log x.id) in
      let literals : literals_at q.log id ≡ unit_of q.log t = ap (λ (o : Option Entry). elim o [ None ↦ [] | Some x ↦ x.literals ]) puts.made in
      let here : IsSearched ns q.log q.form (term_place q.log.atoms t) =
      record { atom = Term t; at = there; of = (subst (λ (f : FormState). IsSome (covered_at f t)) (sym form) some, boolean) } in
      let own : P (held_of q.log id) = subst (All S) (sym literals) (All-from_recursion S (unit_of q.log t) (here, tt)) in
      subst (AreSearched ns q.log q.form) (sym joined)
      (All-append P p.sat.clauses (held_of q.log id ∷ [])
      (still_all p.log q.log put_kept ns p q refl refl (λ i a of. subst (λ (f : FormState). IsOfForm ns f i a) (sym form) of) p.sat.clauses h.held h.searched)
      (All-from_recursion P (held_of q.log id ∷ []) (own, tt)))

  -- no level told is another one
  given_told : (u : ℕ) (ls : List (List ℕ)) (k : ℕ) → count_in ls (told_level p.log u) ≤ k → count_in ls (told_level q.log u) ≤ k
  given_told u ls k was =
      let same : told_level q.log u ≡ told_level p.log u = ap (λ ts. unwrap_or (slice_index_or ts u None) 0) puts.told in
      subst (λ m. count_in ls m ≤ k) (sym same) was

  pub assertion_given : AtomsOfTerms → CoversStay → LogsStayLeveled → IsSome (covered_at p.form t) → is_boolean_term (term_in ns t) ≡ true → IsLog ns (asserted_by_level levels) q.log → IsPrepared ns levels roots q
  assertion_given atoms covers leveled some boolean order =
      record {
        order = order;
        covers = subst (Covers ns q.log) (sym form)
            (covers.put ns p.log q.log p.form id (given_entry q.log p.given t n) puts refl h.covers);
        below = λ u m at. h.below u m (ap (λ f. covered_at f u) (sym form) ∙ at);
        made = λ u m at. h.made u m (ap (λ f. covered_at f u) (sym form) ∙ at);
        taken = λ u has. h.taken u (subst (λ (f : FormState). IsSome (covered_at f u)) form has);
        leveled = leveled.given p.log q.log id p.given t n puts there (subst (λ (o : Option ℕ). IsSome o) (sym (h.covers.rows.told t)) some) h.leveled;
        held = given_held;
        seen = subst (λ (s : Option LogState). AreSameSince s q.log q.sat.clauses) (sym sees) (seen_held q.log q.sat.clauses given_held);
        searched = given_searched some boolean;
        rows = given_rows;
        units = given_units atoms;
        numbers = λ k u below at.
            let was = h.numbers k u (omega (arith, below, numbered)) at in
            record { level = was.level; covered = ap (λ f. covered_at f u) form ∙ was.covered; behind = was.behind };
        within =
            let asserted = asserted_by_level levels in
            let inside = slice_get_within (asserted_numbers asserted) p.given t (placed_in_all asserted p.given t n placed) in
            omega (arith, inside, given);
        numbers_within = let was = h.numbers_within in omega (arith, was, numbered);
        lower = λ u. let few = given_told u (asserted_by_level levels) p.given (h.lower u) in omega (arith, few, given);
        numbers_lower = λ u. let few = given_told u (numbers_by_level levels) p.numbered (h.numbers_lower u) in omega (arith, few, numbered);
      }

-- ---- A number is counted

-- a number that is covered is the next one
pub number_counted : (ns : List Node) (levels : List Level) (roots : List (List ℕ)) (p : PreparedState) (t n count : ℕ) → count ≡ suc p.numbered → IsPlaced (numbers_by_level levels) p.numbered t n
    → IsSome (covered_at p.form t) → IsPrepared ns levels roots p → IsPrepared ns levels roots (record p { numbered = count })
number_counted ns levels roots p t n count is placed some h =
    let numbers = numbers_by_level levels in
    let q : PreparedState = record p { numbered = count } in
    record {
      order = h.order;
      covers = h.covers;
      below = h.below;
      made = h.made;
      taken = h.taken;
      leveled = h.leveled;
      held = h.held;
      seen = h.seen;
      searched = h.searched;
      rows = h.rows;
      units = λ k u below at.
          let was = h.units k u below at in
          record { held = was.held; there = was.there; need = was.need; added = was.added; named = was.named; literals = was.literals; behind = was.behind };
      numbers = λ k u below at. elim (eqb_tells k p.numbered) [
        | inl same ↦
            let both : Some t ≡ Some u = sym (placed_in_all numbers p.numbered t n placed) ∙ ap (slice_get (asserted_numbers numbers)) (sym same.1) ∙ at in
            let one : t ≡ u = cc in
            let here = some_of (covered_at p.form t) some in
            let told : told_level p.log t ≡ here.0 = ap (λ o. unwrap_or o 0) (h.covers.rows.told t ∙ here.1) in
            let few : count_in numbers here.0 ≤ p.numbered = subst (λ m. count_in numbers m ≤ p.numbered) told (h.numbers_lower t) in
            subst (λ v. IsNumbered numbers q k v) one (record { level = here.0; covered = here.1; behind = subst (λ j. count_in numbers here.0 ≤ j) (sym same.1) few })
        | inr other ↦
            let differ = other.1 in
            let was = h.numbers k u (omega (arith, below, is, differ)) at in
            record { level = was.level; covered = was.covered; behind = was.behind }
      ];
      within = h.within;
      numbers_within = let inside = slice_get_within (asserted_numbers numbers) p.numbered t (placed_in_all numbers p.numbered t n placed) in omega (arith, inside, is);
      lower = h.lower;
      numbers_lower = λ u. let few = h.numbers_lower u in omega (arith, few, is);
    }

-- ---- A search has learned

module _ (ns : List Node) (levels : List Level) (roots : List (List ℕ)) (p q : PreparedState) (grows : growth.Grows p.log q.log) (form : q.form ≡ p.form) (given : q.given ≡ p.given)
    (numbered : q.numbered ≡ p.numbered) (more : HoldsAlso q.log p.sat.clauses q.sat.clauses) (h : IsPrepared ns levels roots p) where
  learned_kept : Keeps p.log q.log
  learned_kept = record { clauses = grows.kept; atoms = grows.atoms }

  -- a row was there
  row_was : (i t : ℕ) → IsRowAt q.log i t → IsLive p.log i
  row_was i t row = of_entry (entry_at q.log i) refl row.1
    where
      of_entry : (o : Option Entry) → entry_at q.log i ≡ o → option_map (λ (e : Entry). e.origin) o ≡ Some row.0 → IsLive p.log i
      of_entry None is e = cc
      of_entry (Some x) is e =
          let same : x.origin ≡ row.0 = cc in
          grows.rows i x is (subst (λ (o : Option ℕ). IsSome o) (sym (ap row_term same ∙ row.2)) refl)

  learned_rows : (i t : ℕ) → IsRowAt q.log i t → HoldsRow q.log q.sat.clauses i
  learned_rows i t row =
      let live = row_was i t row in
      subst (λ hs. HoldsRow q.log hs i) (sym more.joined)
      (row_still p.log q.log i (learned_kept.clauses i live) learned_kept.atoms p.sat.clauses more.also
      (h.rows i t (row.0, sym (origin_kept p.log q.log learned_kept i live) ∙ row.1, row.2)))

  learned_told : (u : ℕ) (ls : List (List ℕ)) (k : ℕ) → count_in ls (told_level p.log u) ≤ k → count_in ls (told_level q.log u) ≤ k
  learned_told u ls k was =
      let same : told_level q.log u ≡ told_level p.log u = ap (λ ts. unwrap_or (slice_index_or ts u None) 0) grows.told in
      subst (λ m. count_in ls m ≤ k) (sym same) was

  pub learned : AtomsOfTerms → CoversStay → IsSeen q → AreSearched ns q.log q.form q.sat.clauses → IsLog ns (asserted_by_level levels) q.log → IsPrepared ns levels roots q
  learned atoms covers seen searched order =
      record {
        order = order;
        covers = subst (Covers ns q.log) (sym form) (covers.learned ns p.log q.log p.form grows h.covers);
        below = λ u m at. h.below u m (ap (λ f. covered_at f u) (sym form) ∙ at);
        made = λ u m at. h.made u m (ap (λ f. covered_at f u) (sym form) ∙ at);
        taken = λ u has. h.taken u (subst (λ (f : FormState). IsSome (covered_at f u)) form has);
        leveled = grows.leveled h.leveled;
        held = more.held;
        seen = seen;
        searched = searched;
        rows = learned_rows;
        units = λ k u below at.
            still_units p.log q.log learned_kept atoms (asserted_by_level levels) p q more.also refl refl h.held more.joined k u (h.units k u (omega (arith, below, given)) at);
        numbers = λ k u below at.
            let was = h.numbers k u (omega (arith, below, numbered)) at in
            record { level = was.level; covered = ap (λ f. covered_at f u) form ∙ was.covered; behind = was.behind };
        within = let was = h.within in omega (arith, was, given);
        numbers_within = let was = h.numbers_within in omega (arith, was, numbered);
        lower = λ u. let few = learned_told u (asserted_by_level levels) p.given (h.lower u) in omega (arith, few, given);
        numbers_lower = λ u. let few = learned_told u (numbers_by_level levels) p.numbered (h.numbers_lower u) in omega (arith, few, numbered);
      }

-- ---- Atoms join

-- then the log grows
pub joins_grow : LogsStayLeveled → (old new : LogState) → JoinsAtoms old new → growth.Grows old new
joins_grow leveled old new joins =
    let same : (i : ℕ) → entry_at new i ≡ entry_at old i = λ i. ap (λ es. unwrap_or (slice_get es i) None) joins.entries in
    record {
      live = λ i live. subst (λ o. IsSome o) (sym (same i)) live;
      kept = λ i live. same i;
      told = joins.told;
      atoms = joins.atoms;
      rows = λ i e at some. subst (λ o. IsSome o) (sym at ∙ same i) refl;
      leveled = leveled.joined old new joins;
    }

-- and what is prepared stays so
pub joined_prepared : AtomsOfTerms → LogsStay → LogsStayLeveled → CoversStay → (ns : List Node) (levels : List Level) (roots : List (List ℕ)) (p q : PreparedState) → JoinsAtoms p.log q.log
    → AreAtoms q.log.atoms → q.form ≡ p.form → q.given ≡ p.given → q.numbered ≡ p.numbered → q.sat.clauses ≡ p.sat.clauses → q.sat.seen ≡ p.sat.seen → IsPrepared ns levels roots p
    → IsPrepared ns levels roots q
joined_prepared atoms stay leveled covers ns levels roots p q joins all form given numbered clauses sees h =
    let grows = joins_grow leveled p.log q.log joins in
    let kept : Keeps p.log q.log = record { clauses = grows.kept; atoms = grows.atoms } in
    let held : AreHeld q.log q.sat.clauses = subst (AreHeld q.log) (sym clauses) (still_held p.log q.log kept p.sat.clauses h.held) in
    let seen : IsSeen q =
    subst (λ (s : Option LogState). AreSameSince s q.log q.sat.clauses) (sym sees)
    (subst (AreSameSince p.sat.seen q.log) (sym clauses) (still_seen p.sat.seen p.log q.log p.sat.clauses kept.clauses h.seen)) in
    learned ns levels roots p q grows form given numbered (record { also = []; joined = clauses ∙ sym (append-nil p.sat.clauses); held = held }) h atoms covers seen
    (subst (AreSearched ns q.log q.form) (sym clauses)
    (still_all p.log q.log kept ns p q refl refl (λ i a of. subst (λ (f : FormState). IsOfForm ns f i a) (sym form) of) p.sat.clauses h.held h.searched)) (stay.joined ns (asserted_by_level levels) p.log q.log joins all h.order)
