-- How covered terms stay so: when the table grows, when a clause is put, and when levels are dropped.
use Rattle.std.proofs.Common.{◌≡◌, ℕ, ◌<◌, ◌≤◌, inl, inr, Bool, List, [], ◌∷◌, ◌++◌, length, get_or, Option, Some, None, refl, sym, ap, subst, ◌∙◌, arith, length-append}
use Rattle.std.specs.Prelude.{All, IsSome, slice_get, unwrap_or, slice_index_or, if◌then◌else◌}
use Rattle.std.specs.List.{AllByRecursion}
use Rattle.std.proofs.lemmas.List.Elements.{All-weaker, recursion_from_All}
use Rattle.std.proofs.lemmas.Option.{slice_get-get_or}
use Rattle.nz_spec.specs.terms.Term.{Head, falsum, equality, is_bool, sort_of}
use Rattle.nz_spec.specs.terms.Order.{companions_of}
use Rattle.nz_spec.specs.terms.Table.{Node, IsTable, TermStays, term_in}
use Rattle.nz_spec.specs.terms.FormOf.{number_in}
use Rattle.nz_spec.specs.clauses.Gates.{clauses_over}
use Rattle.nz_lists.proofs.Elements.{AllByRecursion-weaker}
use Rattle.nz_lists.proofs.Places.{slice_get-same, slice_get_kept}
use Rattle.nz_log.specs.declared.atoms.Atom.{Atom}
use Rattle.nz_term.specs.declared.term_lits.TermLit.{TermLit}
use Rattle.nz_log.specs.Atoms.{HasTerm, AtomsOfTerms, Stay, lits_of}
use Rattle.nz_spec.specs.clauses.Literal.{once}
use Rattle.nz_log.specs.Lits.{are_same_lit}
use Rattle.nz_rows.specs.GateRows.{is_boolean_at, gates_at}
use Rattle.nz_term.specs.TermLits.{yes, no}
use Rattle.nz_log.specs.Logs.{Origin, axiom_of, row_term, Entry, LogState, empty_log, entry_at, IsLive, level_at, kept_below, told_below, JoinsAtoms, Puts, Drops}
use Rattle.nz_log.specs.Growth.{Grows}
use Rattle.nz_cform.specs.declared.rows.RowTable.{RowTable}
use Rattle.nz_cform.specs.Listings.{IsListedWithin, listed_at}
use Rattle.nz_cform.specs.Forms.{FormState, covered_at, empty_form, IsCoveredWithin, Cuts}
use Rattle.nz_cform.specs.Covering.{AreNamed, Covers, HasCovered, HasRows, IsRowAt, gate_clause, gate_terms, kids_at, origin_at, table_axiom, table_clauses}
use Rattle.nz_cform.specs.Laws.{CoversStay}
use Rattle.nz_cform.proofs.Added.{put_kept}
use Rattle.nz_cform.proofs.CoveredTerms.{same_entry}
use Rattle.nz_cform.proofs.Kept.{bound_kept, bound_was, clause_kept, gate_stays, level_kept, made_live, on_atoms_kept, origin_kept, row_live, row_was, some_entry}
use Rattle.nz_cform.proofs.Levels.{covered_within, kept_low, kept_parts, level_of, told_low, told_parts}
use Rattle.nz_cform.proofs.Listed.{has_some}
use Rattle.nz_cform.proofs.RowNames.{rows_long}
use Rattle.nz_cform.proofs.RowsPut.{put_cases}

-- ---- The table grows

-- clauses on equal tests
test_same : (b c : Bool) (cs : List (List TermLit)) → b ≡ c → (if b then cs else []) ≡ (if c then cs else [])
test_same b c cs e = ap (λ d. if d then cs else []) e

-- the gates of a head are the same where the sorts of its arguments are
over_same : (f g : ℕ → Bool) (t : ℕ) (h : Head) (ks : List ℕ) → AllByRecursion (λ k. f k ≡ g k) ks → clauses_over yes no f t h ks ≡ clauses_over yes no g t h ks
over_same f g t equality (u ∷ v ∷ []) e = test_same (f u) (g u) _ e.0
over_same f g t h ks e = refl

module _ (stays : TermStays) (ns more : List Node) (table : IsTable ns) (t : ℕ) (inside : t < length ns) where
  abbrev the_node : Node
  the_node = get_or ns t (record { head = falsum; kids = [] })

  node_at : slice_get ns t ≡ Some the_node
  node_at = slice_get-get_or ns t (record { head = falsum; kids = [] }) inside

  -- the node, its arguments and its gates stay
  same_node : slice_get (ns ++ more) t ≡ slice_get ns t
  same_node = slice_get_kept ns more t the_node node_at ∙ sym node_at

  same_sorts : AllByRecursion (λ k. is_boolean_at (ns ++ more) k ≡ is_boolean_at ns k) the_node.kids
  same_sorts =
      AllByRecursion-weaker (λ k. k < t) (λ k. is_boolean_at (ns ++ more) k ≡ is_boolean_at ns k)
      (λ k below. ap (λ u. is_bool (sort_of u)) (stays ns more k (omega arith))) the_node.kids (recursion_from_All (λ k. k < t) the_node.kids (table.before t the_node node_at))

  pub same_kids : kids_at (ns ++ more) t ≡ kids_at ns t
  same_kids = ap (λ o. elim o [ None ↦ [] | Some n ↦ n.kids ]) same_node

  pub same_gates : gates_at (ns ++ more) t ≡ gates_at ns t
  same_gates =
      ap (λ o. elim o [ None ↦ [] | Some n ↦ clauses_over yes no (is_boolean_at (ns ++ more)) t n.head n.kids ]) (same_node ∙ node_at)
      ∙ over_same (is_boolean_at (ns ++ more)) (is_boolean_at ns) t the_node.head the_node.kids same_sorts
      ∙ ap (λ o. elim o [ None ↦ [] | Some n ↦ clauses_over yes no (is_boolean_at ns) t n.head n.kids ]) (sym node_at)

  pub same_terms : (j : ℕ) → gate_terms (ns ++ more) t j ≡ gate_terms ns t j
  same_terms j = ap (λ cs. unwrap_or (slice_get cs j) []) same_gates

  pub same_clause : (atoms : List Atom) (j n : ℕ) → gate_clause (ns ++ more) atoms t j n ≡ gate_clause ns atoms t j n
  same_clause atoms j n = ap (λ c. record (gate_clause ns atoms t j n) { literals = once are_same_lit (lits_of atoms c) }) (same_terms j)

  -- it has as many rows of the other tables
  pub same_rows : (of : RowTable) → length (table_clauses of (number_in (ns ++ more)) (term_in (ns ++ more) t)) ≡ length (table_clauses of (number_in ns) (term_in ns t))
  same_rows of = ap (λ u. length (table_clauses of (number_in (ns ++ more)) u)) (stays ns more t inside) ∙ rows_long (number_in (ns ++ more)) (number_in ns) of (term_in ns t)

-- what is covered stays so in the longer table
covers_wider : (stays : TermStays) (ns more : List Node) (log : LogState) (s : FormState) → IsTable ns → Covers ns log s → Covers (ns ++ more) log s
covers_wider stays ns more log s table covers =
    let rows = covers.rows in
    record {
      within = λ t n at. let inside : t < length ns = covers.within t n at in omega (arith, length-append ns more);
      rows = record {
        gates = λ t n j at inside.
            let in_table = covers.within t n at in
            let has = rows.gates t n j at (subst (λ cs. j < length cs) (same_gates stays ns more table t in_table) inside) in (
              has.0,
              has.1 ∙ ap Some (sym (same_clause stays ns more table t in_table log.atoms j n)),
              subst (All (λ (l : TermLit). HasTerm log.atoms l.term)) (sym (same_terms stays ns more table t in_table j)) has.2,
            );
        rows = λ of t n j at inside. rows.rows of t n j at (subst (λ m. j < m) (same_rows stays ns more table t (covers.within t n at) of) inside);
        of_covered = rows.of_covered;
        once = rows.once;
        told = rows.told;
        on_atoms = rows.on_atoms;
      };
      bounds = covers.bounds;
      arguments = λ t n at. subst (All (IsCoveredWithin s n)) (sym (same_kids stays ns more table t (covers.within t n at))) (covers.arguments t n at);
      companions = λ t n at.
          subst (λ u. AllByRecursion (HasCovered (ns ++ more) s n) (companions_of u)) (sym (stays ns more t (covers.within t n at)))
          (AllByRecursion-weaker (HasCovered ns s n) (HasCovered (ns ++ more) s n)
          (λ u h.
          record {
            number = h.number;
            inside = omega (arith, h.inside, length-append ns more);
            term = stays ns more h.number h.inside ∙ h.term;
            covered = h.covered;
          })
          (companions_of (term_in ns t)) (covers.companions t n at));
    }

-- ---- The log goes on, and has no row more

module _ (own : AtomsOfTerms) (ns : List Node) (old new : LogState) (s : FormState) (kept : (i : ℕ) → IsLive old i → entry_at new i ≡ entry_at old i)
    (live : (i t : ℕ) → IsRowAt new i t → IsLive old i) (stay : Stay old.atoms new.atoms) (told : new.told ≡ old.told) (covers : Covers ns old s) where
  abbrev was : HasRows ns old s
  was = covers.rows

  -- a row was there
  kept_row : (i t : ℕ) → IsRowAt new i t → entry_at new i ≡ entry_at old i
  kept_row i t row = kept i (live i t row)

  old_row : (i t : ℕ) → IsRowAt new i t → IsRowAt old i t
  old_row i t row = row_was old new i (kept_row i t row) t row

  old_origin : (i : ℕ) (o : Origin) → IsSome (row_term o) → origin_at new i ≡ Some o → origin_at old i ≡ Some o
  old_origin i o some at = let t = has_some (row_term o) some in sym (origin_kept old new i (kept_row i t.0 (o, at, t.1))) ∙ at

  covers_on : Covers ns new s
  covers_on =
      record {
        within = covers.within;
        rows = record {
          gates = λ t n j at inside.
              let gate = was.gates t n j at inside in
              gate_stays own old new stay ns t j n gate (kept gate.0 (subst (λ o. IsSome o) (sym gate.1) refl));
          rows = λ table t n j at inside.
              let h = was.rows table t n j at inside in
              clause_kept old new (axiom_of (table_axiom table t j)) n h (kept h.id (made_live old h.id (axiom_of (table_axiom table t j)) h.origin));
          of_covered = λ i t row. was.of_covered i t (old_row i t row) ∙ ap Some (sym (level_kept old new i (kept_row i t row)));
          once = λ i l o some at also. was.once i l o some (old_origin i o some at) (old_origin l o some also);
          told = λ t. ap (λ ls. slice_index_or ls t None) told ∙ was.told t;
          on_atoms = λ i t row. on_atoms_kept old new i (kept_row i t row) stay (was.on_atoms i t (old_row i t row));
        };
        bounds = record {
          listed = λ i atom h.
              let e = kept_row i h.term h.row in
              subst (λ n. IsListedWithin s.bounds n atom) (sym (level_kept old new i e))
              (covers.bounds.listed i atom (bound_was old new i e stay atom (was.on_atoms i h.term (old_row i h.term h.row)) h));
          tabled = λ atom n at.
              let b = covers.bounds.tabled atom n at in
              let e = kept b.0 (row_live old b.0 b.1.term b.1.row) in
              (b.0, bound_kept old new b.0 e stay atom b.1, level_kept old new b.0 e ∙ b.2);
        };
        arguments = covers.arguments;
        companions = covers.companions;
      }

-- a clause is put that is none of a table
covers_put : AtomsOfTerms → (ns : List Node) (old new : LogState) (s : FormState) (id : ℕ) (e : Entry) → Puts old id e new → row_term e.origin ≡ None
    → Covers ns old s → Covers ns new s
covers_put own ns old new s id e puts none covers =
    covers_on own ns old new s (put_kept old new id e puts)
    (λ i t row. elim (put_cases old new id e puts i row.0 row.1) [
      | inl here ↦ let both : None ≡ Some t = sym none ∙ ap row_term here.1 ∙ row.2 in absurd cc
      | inr before ↦ made_live old i row.0 before.1
    ])
    puts.atoms puts.told covers

-- atoms join
covers_joined : AtomsOfTerms → (ns : List Node) (old new : LogState) (s : FormState) → JoinsAtoms old new → Covers ns old s → Covers ns new s
covers_joined own ns old new s joins covers =
    covers_on own ns old new s (λ i live. same_entry old new joins.entries i)
    (λ i t row. subst (λ o. IsSome o) (same_entry old new joins.entries i) (row_live new i t row)) joins.atoms joins.told covers

-- a search has learned
covers_learned : AtomsOfTerms → (ns : List Node) (old new : LogState) (s : FormState) → Grows old new → Covers ns old s → Covers ns new s
covers_learned own ns old new s grows covers =
    covers_on own ns old new s grows.kept
    (λ i t row.
    let e = some_entry (entry_at new i) row.0 row.1 in
    grows.rows i e.0 e.1 (subst (λ o. IsSome o) (sym (ap row_term e.2 ∙ row.2)) refl))
    grows.atoms grows.told covers

-- ---- Levels are dropped

-- what is there is some clause
live_entry : (o : Option Entry) → IsSome o → (e : Entry) × (o ≡ Some e)
live_entry None h = cc
live_entry (Some e) h = (e, refl)

module _ (ns : List Node) (old new : LogState) (s cut : FormState) (level : ℕ) (drops : Drops old level new) (cuts : Cuts s level cut) (covers : Covers ns old s) where
  -- what is covered was so, at a level that is left; and what was so at such a level still is
  was_covered : (t n : ℕ) → covered_at cut t ≡ Some n → (covered_at s t ≡ Some n) × (n ≤ level)
  was_covered t n at = told_parts level (covered_at s t) n (sym (cuts.terms.levels t) ∙ at)

  still_covered : (t n : ℕ) → covered_at s t ≡ Some n → n ≤ level → covered_at cut t ≡ Some n
  still_covered t n at below = cuts.terms.levels t ∙ ap (told_below level) at ∙ told_low level n below

  -- a clause that is left was there, at a level that is left; and one at such a level is left
  left : (i : ℕ) → IsLive new i → (entry_at new i ≡ entry_at old i) × (level_at old i ≤ level)
  left i live =
      let e = live_entry (entry_at new i) live in
      let before = kept_parts level (entry_at old i) e.0 (sym (drops.entries i) ∙ e.1) in
      let levels = ap (λ o. elim o [ None ↦ 0 | Some f ↦ f.level ]) before.0 in
      (e.1 ∙ sym before.0, subst (λ n. n ≤ level) (sym levels) before.1)

  is_left : (i : ℕ) → IsLive old i → level_at old i ≤ level → entry_at new i ≡ entry_at old i
  is_left i live below =
      let e = live_entry (entry_at old i) live in
      let at : level_at old i ≡ e.0.level = ap (λ o. elim o [ None ↦ 0 | Some f ↦ f.level ]) e.1 in
      drops.entries i ∙ ap (kept_below level) e.1 ∙ kept_low level e.0 (subst (λ n. n ≤ level) at below) ∙ sym e.1

  left_row : (i t : ℕ) → IsRowAt new i t → (entry_at new i ≡ entry_at old i) × (level_at old i ≤ level)
  left_row i t row = left i (row_live new i t row)

  row_before : (i t : ℕ) → IsRowAt new i t → IsRowAt old i t
  row_before i t row = row_was old new i (left_row i t row).0 t row

  origin_before : (i : ℕ) (o : Origin) → origin_at new i ≡ Some o → origin_at old i ≡ Some o
  origin_before i o at = sym (origin_kept old new i (left i (made_live new i o at)).0) ∙ at

  stay_all : Stay old.atoms new.atoms
  stay_all = slice_get-same old.atoms new.atoms drops.atoms

  -- so it is within a level that is left
  still_within : (n : ℕ) → n ≤ level → (k : ℕ) → IsCoveredWithin s n k → IsCoveredWithin cut n k
  still_within n below k h =
      let l = level_of (covered_at s k) n h in
      let low : l.0 ≤ level = let within = l.2 in omega arith in
      covered_within (covered_at cut k) l.0 n (still_covered k l.0 l.1 low) l.2

  -- what is covered at a level that is left stays so
  covers_dropped : Covers ns new cut
  covers_dropped =
      let rows = covers.rows in
      record {
        within = λ t n at. covers.within t n (was_covered t n at).0;
        rows = record {
          gates = λ t n j at inside.
              let before = was_covered t n at in
              let has = rows.gates t n j before.0 inside in
              let kept = drops.entries has.0 ∙ ap (kept_below level) has.1 ∙ kept_low level (gate_clause ns old.atoms t j n) before.1 in
              subst (λ (atoms : List Atom). (i : ℕ) × (entry_at new i ≡ Some (gate_clause ns atoms t j n)) × AreNamed ns atoms t j) (sym drops.atoms)
              (has.0, kept, has.2);
          rows = λ table t n j at inside.
              let before = was_covered t n at in
              let h = rows.rows table t n j before.0 inside in
              clause_kept old new (axiom_of (table_axiom table t j)) n h
              (is_left h.id (made_live old h.id (axiom_of (table_axiom table t j)) h.origin) (subst (λ m. m ≤ level) (sym h.at) before.1));
          of_covered = λ i t row.
              let before = left_row i t row in
              still_covered t (level_at old i) (rows.of_covered i t (row_before i t row)) before.1 ∙ ap Some (sym (level_kept old new i before.0));
          once = λ i l o some at also. rows.once i l o some (origin_before i o at) (origin_before l o also);
          told = λ t. drops.told t ∙ ap (told_below level) (rows.told t) ∙ sym (cuts.terms.levels t);
          on_atoms = λ i t row. on_atoms_kept old new i (left_row i t row).0 stay_all (rows.on_atoms i t (row_before i t row));
        };
        bounds = record {
          listed = λ i atom h.
              let before = left_row i h.term h.row in
              let was = bound_was old new i before.0 stay_all atom (rows.on_atoms i h.term (row_before i h.term h.row)) h in
              let l = level_of (listed_at s.bounds atom) (level_at old i) (covers.bounds.listed i atom was) in
              let low : l.0 ≤ level = let within = l.2 in let below = before.1 in omega arith in
              covered_within (listed_at cut.bounds atom) l.0 (level_at new i) (cuts.bounds.levels atom ∙ ap (told_below level) l.1 ∙ told_low level l.0 low)
              (subst (λ n. l.0 ≤ n) (sym (level_kept old new i before.0)) l.2);
          tabled = λ atom n at.
              let before = told_parts level (listed_at s.bounds atom) n (sym (cuts.bounds.levels atom) ∙ at) in
              let b = covers.bounds.tabled atom n before.0 in
              let kept = is_left b.0 (row_live old b.0 b.1.term b.1.row) (subst (λ m. m ≤ level) (sym b.2) before.1) in
              (b.0, bound_kept old new b.0 kept stay_all atom b.1, level_kept old new b.0 kept ∙ b.2);
        };
        arguments = λ t n at.
            let before = was_covered t n at in
            All-weaker (IsCoveredWithin s n) (IsCoveredWithin cut n) (still_within n before.1) (kids_at ns t) (covers.arguments t n before.0);
        companions = λ t n at.
            let before = was_covered t n at in
            AllByRecursion-weaker (HasCovered ns s n) (HasCovered ns cut n)
            (λ u h. record { number = h.number; inside = h.inside; term = h.term; covered = still_within n before.1 h.number h.covered }) (companions_of (term_in ns t))
            (covers.companions t n before.0);
      }

-- ---- The law

-- nothing is covered at the start
covers_start : (ns : List Node) → Covers ns empty_log empty_form
covers_start ns =
    record {
      within = λ t n at. cc;
      rows = record {
        gates = λ t n j at inside. absurd (none_there t n at);
        rows = λ table t n j at inside. absurd (none_there t n at);
        of_covered = λ i t row. absurd (no_row i t row);
        once = λ i l o some at also. cc;
        told = λ t. refl;
        on_atoms = λ i t row. absurd (no_row i t row);
      };
      bounds = record { listed = λ i atom h. absurd (no_row i h.term h.row); tabled = λ atom n at. cc };
      arguments = λ t n at. absurd (none_there t n at);
      companions = λ t n at. absurd (none_there t n at);
    }
  where
    none_there : (t n : ℕ) → covered_at empty_form t ≡ Some n → ⊥
    none_there t n at = cc

    no_row : (i t : ℕ) → IsRowAt empty_log i t → ⊥
    no_row i t row = let at : None ≡ Some row.0 = row.1 in cc

pub covers_stay : TermStays → AtomsOfTerms → CoversStay
covers_stay stays own =
    record {
      start = covers_start;
      table = covers_wider stays;
      put = covers_put own;
      joined = covers_joined own;
      learned = covers_learned own;
      dropped = covers_dropped;
    }
