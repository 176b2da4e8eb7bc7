-- One term more is covered: its level is told, it is listed, its clauses are put, and their bounds are listed.
use Rattle.std.proofs.Common.{◌≡◌, ◌≢◌, ℕ, ◌<◌, ◌≤◌, inl, inr, List, Option, Some, None, length, refl, sym, ap, subst, ◌∙◌, arith, All, Contains, IsSome, slice_get, unwrap_or}
use Rattle.std.proofs.lemmas.List.Elements.{All-contains}
use Rattle.nz_lists.proofs.Numbers.{same_or_other}
use Rattle.nz_lists.proofs.Places.{slice_get-same}
use Rattle.nz_spec.specs.terms.FormOf.{number_in}
use Rattle.nz_spec.specs.clauses.Links.{link_clauses}
use Rattle.nz_spec.specs.terms.Table.{Node, term_in}
use Rattle.nz_spec.specs.clauses.Units.{unit_clauses}
use Rattle.nz_log.specs.declared.atoms.Atom.{Atom}
use Rattle.nz_log.specs.Logs.{axiom_of, LogState, entry_at, level_at, told_of, told_level, lowest}
use Rattle.nz_rows.specs.GateRows.{gates_at}
use Rattle.nz_cform.specs.declared.rows.RowTable.{RowTable}
use Rattle.nz_cform.specs.declared.rows.RowTable.TheVariants.{Links, Units}
use Rattle.nz_cform.specs.Listings.{Grows, IsListedWithin, Takes, listed_at}
use Rattle.nz_cform.specs.Forms.{FormState, covered_at}
use Rattle.nz_cform.specs.Covering.{AreAdded, AreBoundsListed, AreBoundsOf, AreNamed, HasBound, HasBounds, HasRows, HasRowsBelow, IsRowAt, Keeps, gate_clause, table_axiom, table_clauses, table_count}
use Rattle.nz_cform.proofs.Added.{keeps_twice}
use Rattle.nz_cform.proofs.Kept.{bound_kept, bound_was, clause_kept, level_kept, on_atoms_kept, origin_kept, row_live, row_was}
use Rattle.nz_cform.proofs.Levels.{covered_within, level_of}
use Rattle.nz_cform.proofs.Listed.{has_some, none_or_some}

-- a log with the same clauses
pub same_entry : (old new : LogState) → new.entries ≡ old.entries → (i : ℕ) → entry_at new i ≡ entry_at old i
same_entry old new clauses i = ap (λ es. unwrap_or (slice_get es i) None) clauses

pub same_keeps : (old new : LogState) → new.entries ≡ old.entries → new.atoms ≡ old.atoms → Keeps old new
same_keeps old new clauses atoms = record { clauses = λ i live. same_entry old new clauses i; atoms = slice_get-same old.atoms new.atoms atoms }

-- ---- A level that is told

-- the lowest of levels is no higher than one of them
lowest_within : (o : Option ℕ) (level : ℕ) → lowest o level ≤ level
lowest_within None level = omega arith
lowest_within (Some n) level = omega arith

-- no level told is above the one that is told now
pub told_within : (old new : LogState) (t level : ℕ) → told_of new t ≡ Some (lowest (told_of old t) level)
    → ((u : ℕ) → u ≢ t → told_of new u ≡ told_of old u) → ((u : ℕ) → told_level old u ≤ level) → (u : ℕ) → told_level new u ≤ level
told_within old new t level told others highest u =
    elim (same_or_other u t) [
      | inl same ↦
          subst (λ o. unwrap_or o 0 ≤ level) (sym (ap (told_of new) same ∙ told)) (lowest_within (told_of old t) level)
      | inr other ↦ subst (λ o. unwrap_or o 0 ≤ level) (sym (others u other)) (highest u)
    ]

-- ---- A term that is told and listed, without its clauses

module _ (ns : List Node) (old new : LogState) (s r : FormState) (t level : ℕ) (clauses : new.entries ≡ old.entries) (atoms : new.atoms ≡ old.atoms) (takes : Takes s.terms t level r.terms)
    (uncovered : covered_at s t ≡ None) (told : told_of new t ≡ Some (lowest (told_of old t) level)) (others : (u : ℕ) → u ≢ t → told_of new u ≡ told_of old u)
    (highest : (u : ℕ) → told_level new u ≤ level) (has : HasRows ns old s) where
  -- a term with a level is another one
  is_other : (u n : ℕ) → covered_at s u ≡ Some n → u ≢ t
  is_other u n at same = let both : None ≡ Some n = sym uncovered ∙ ap (covered_at s) (sym same) ∙ at in cc

  -- the term is told at the level
  told_here : told_of new t ≡ Some level
  told_here = told ∙ ap (λ o. Some (lowest o level)) (has.told t ∙ uncovered)

  -- a row in the log is of a term that was covered
  kept_at : (i : ℕ) → entry_at new i ≡ entry_at old i
  kept_at i = same_entry old new clauses i

  was_covered : (i u : ℕ) → IsRowAt new i u → covered_at s u ≡ Some (level_at old i)
  was_covered i u row = has.of_covered i u (row_was old new i (kept_at i) u row)

  none_below : (table : RowTable) (j : ℕ) → j < table_count table 0 0 → ⊥
  none_below Links j h = let none : j < 0 = h in omega arith
  none_below Units j h = let none : j < 0 = h in omega arith

  -- together: of the term itself no clause is there
  pub told_and_listed : HasRowsBelow ns new r t 0 0 0
  told_and_listed =
      record {
        gates = λ u n j at inside below. elim (same_or_other u t) [
          | inl same ↦ let none : j < 0 = below same in absurd (omega arith)
          | inr other ↦
              let was = has.gates u n j (sym (takes.others u other) ∙ at) inside in
              subst (λ (xs : List Atom). (i : ℕ) × (entry_at new i ≡ Some (gate_clause ns xs u j n)) × AreNamed ns xs u j) (sym atoms)
              (was.0, kept_at was.0 ∙ was.1, was.2)
        ];
        rows = λ table u n j at inside below. elim (same_or_other u t) [
          | inl same ↦ absurd (none_below table j (below same))
          | inr other ↦
              let was = has.rows table u n j (sym (takes.others u other) ∙ at) inside in clause_kept old new (axiom_of (table_axiom table u j)) n was (kept_at was.id)
        ];
        of_covered = λ i u row.
            let was = was_covered i u row in
            takes.others u (is_other u (level_at old i) was) ∙ was ∙ ap Some (sym (level_kept old new i (kept_at i)));
        once = λ i l o some at also. has.once i l o some (sym (origin_kept old new i (kept_at i)) ∙ at) (sym (origin_kept old new l (kept_at l)) ∙ also);
        told = λ u. elim (same_or_other u t) [
          | inl same ↦ ap (told_of new) same ∙ told_here ∙ sym (ap (covered_at r) same ∙ takes.here)
          | inr other ↦ others u other ∙ has.told u ∙ sym (takes.others u other)
        ];
        on_atoms = λ i u row.
            on_atoms_kept old new i (kept_at i) (slice_get-same old.atoms new.atoms atoms) (has.on_atoms i u (row_was old new i (kept_at i) u row));
        put = λ i o of at. absurd (is_other t (level_at old i) (was_covered i t (o, at, of)) refl);
        level = level;
        covered = takes.here;
        highest = highest;
      }

-- ---- All of its clauses are there

-- as many of a table as it has for the term
all_of : (ns : List Node) (t : ℕ) (table : RowTable) → length (table_clauses table (number_in ns) (term_in ns t))
    ≡ table_count table (length (link_clauses (number_in ns) (term_in ns t))) (length (unit_clauses (number_in ns) (term_in ns t)))
all_of ns t Links = refl
all_of ns t Units = refl

pub all_rows : (ns : List Node) (log : LogState) (s : FormState) (t : ℕ)
    → HasRowsBelow ns log s t (length (gates_at ns t)) (length (link_clauses (number_in ns) (term_in ns t))) (length (unit_clauses (number_in ns) (term_in ns t))) → HasRows ns log s
all_rows ns log s t has =
    record {
      gates = λ u n j at inside. has.gates u n j at inside (λ same. subst (λ v. j < length (gates_at ns v)) same inside);
      rows = λ table u n j at inside.
          has.rows table u n j at inside (λ same. subst (λ m. j < m) (ap (λ v. length (table_clauses table (number_in ns) (term_in ns v))) same ∙ all_of ns t table) inside);
      of_covered = has.of_covered;
      once = has.once;
      told = has.told;
      on_atoms = has.on_atoms;
    }

-- from the log without them, as each table is put
module _ (ns : List Node) (first start mid last new : LogState) (s r : FormState) (t level : ℕ) (clauses : start.entries ≡ first.entries) (atoms : start.atoms ≡ first.atoms)
    (takes : Takes s.terms t level r.terms) (uncovered : covered_at s t ≡ None) (told : told_of start t ≡ Some (lowest (told_of first t) level))
    (others : (u : ℕ) → u ≢ t → told_of start u ≡ told_of first u) (low : (u : ℕ) → told_level first u ≤ level) (has : HasRows ns first s)
    (gates : (q : FormState) → HasRowsBelow ns start q t 0 0 0 → HasRowsBelow ns mid q t (length (gates_at ns t)) 0 0)
    (links : (q : FormState) (g : ℕ) → HasRowsBelow ns mid q t g 0 0 → HasRowsBelow ns last q t g (length (link_clauses (number_in ns) (term_in ns t))) 0)
    (units : (q : FormState) (g k : ℕ) → HasRowsBelow ns last q t g k 0 → HasRowsBelow ns new q t g k (length (unit_clauses (number_in ns) (term_in ns t)))) where
  pub rows_covered : HasRows ns new r
  rows_covered =
      let g = length (gates_at ns t) in
      let k = length (link_clauses (number_in ns) (term_in ns t)) in
      all_rows ns new r t
      (units r g k
      (links r g
      (gates r
      (told_and_listed ns first start s r t level clauses atoms takes uncovered told others (told_within first start t level told others low) has))))

-- ---- Their bounds are listed

module _ (ns : List Node) (first start new : LogState) (s r : FormState) (t level : ℕ) (clauses : start.entries ≡ first.entries) (atoms : start.atoms ≡ first.atoms)
    (rows : HasRows ns first s) (bounds : HasBounds first s) (low : (u : ℕ) → told_level first u ≤ level) (keeps : Keeps start new) (more : List ℕ)
    (added : AreAdded start more new) (of_term : All (λ i. IsRowAt new i t) more) (now : HasRows ns new r) (here : covered_at r t ≡ Some level)
    (grown : Grows s.bounds level r.bounds) (listed : AreBoundsListed new more r.bounds) (only : AreBoundsOf new more s.bounds r.bounds) where
  from_first : Keeps first new
  from_first = keeps_twice first start new (same_keeps first start clauses atoms) keeps

  -- the new clauses are of this level
  new_level : (i : ℕ) → Contains more i → level_at new i ≡ level
  new_level i has =
      let both : Some (level_at new i) ≡ Some level = sym (now.of_covered i t (All-contains (λ k. IsRowAt new k t) more i of_term has)) ∙ here in
      cc

  -- a bound that was listed is so at or below it
  was_low : (atom m : ℕ) → listed_at s.bounds atom ≡ Some m → m ≤ level
  was_low atom m at =
      let b = bounds.tabled atom m at in
      let told : told_of first b.1.term ≡ Some (level_at first b.0) = rows.told b.1.term ∙ rows.of_covered b.0 b.1.term b.1.row in
      let below : level_at first b.0 ≤ level = subst (λ o. unwrap_or o 0 ≤ level) told (low b.1.term) in
      subst (λ n. n ≤ level) b.2 below

  now_low : (atom : ℕ) → IsSome (listed_at r.bounds atom) → IsListedWithin r.bounds level atom
  now_low atom some =
      let m = has_some (listed_at r.bounds atom) some in
      covered_within (listed_at r.bounds atom) m.0 level m.1
      (elim (none_or_some (listed_at s.bounds atom)) [
        | inl none ↦ let same : m.0 ≡ level = grown.added atom m.0 none m.1 in omega arith
        | inr was ↦
            let both : Some was.0 ≡ Some m.0 = sym (grown.stays atom was.0 was.1) ∙ m.1 in
            let same : was.0 ≡ m.0 = cc in
            subst (λ n. n ≤ level) same (was_low atom was.0 was.1)
      ])

  all_listed : (i atom : ℕ) → HasBound new i atom → IsListedWithin r.bounds (level_at new i) atom
  all_listed i atom h =
      elim ((added.live i).0 (row_live new i h.term h.row)) [
        | inl before ↦
            let kept = from_first.clauses i (subst (λ o. IsSome o) (same_entry first start clauses i) before) in
            let was = bound_was first new i kept from_first.atoms atom (rows.on_atoms i h.term (row_was first new i kept h.term h.row)) h in
            let l = level_of (listed_at s.bounds atom) (level_at first i) (bounds.listed i atom was) in
            covered_within (listed_at r.bounds atom) l.0 (level_at new i) (grown.stays atom l.0 l.1)
            (subst (λ n. l.0 ≤ n) (sym (level_kept first new i kept)) l.2)
        | inr has ↦
            subst (λ n. IsListedWithin r.bounds n atom) (sym (new_level i has))
            (now_low atom (All-contains (λ k. (a : ℕ) → HasBound new k a → IsSome (listed_at r.bounds a)) more i listed has atom h))
      ]

  all_tabled : (atom n : ℕ) → listed_at r.bounds atom ≡ Some n → (i : ℕ) × HasBound new i atom × (level_at new i ≡ n)
  all_tabled atom n at =
      elim (none_or_some (listed_at s.bounds atom)) [
        | inl none ↦
            let found = only atom none (subst (λ o. IsSome o) (sym at) refl) in
            (found.0, found.2, new_level found.0 found.1 ∙ sym (grown.added atom n none at))
        | inr was ↦
            let b = bounds.tabled atom was.0 was.1 in
            let kept = from_first.clauses b.0 (row_live first b.0 b.1.term b.1.row) in
            let both : Some was.0 ≡ Some n = sym (grown.stays atom was.0 was.1) ∙ at in
            let same : was.0 ≡ n = cc in
            (b.0, bound_kept first new b.0 kept from_first.atoms atom b.1, level_kept first new b.0 kept ∙ b.2 ∙ same)
      ]

  pub bounds_listed : HasBounds new r
  bounds_listed = record { listed = all_listed; tabled = all_tabled }
