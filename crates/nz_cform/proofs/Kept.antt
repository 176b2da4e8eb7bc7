-- What is said of a clause by its number stays while the clause does.
use Rattle.std.proofs.Common.{◌≡◌, ℕ, ◌<◌, List, [], length, get_or, Option, Some, None, refl, sym, ap, subst, ◌∙◌, Contains, IsSome, option_map, ◌∷◌, All}
use Rattle.std.proofs.lemmas.Option.{slice_get-get_or, slice_get_within}
use Rattle.nz_log.specs.declared.atoms.Atom.{Atom}
use Rattle.nz_log.specs.declared.atoms.Atom.TheVariants.{Term, AtMost}
use Rattle.nz_log.specs.declared.lits.Lit.{Lit}
use Rattle.nz_log.specs.Atoms.{Stay, HasTerm, AtomsOfTerms, lit_of, lits_of}
use Rattle.nz_log.specs.Logs.{Origin, Entry, LogState, entry_at, IsLive, literals_at, level_at}
use Rattle.nz_cform.specs.Covering.{HasBound, HasClause, IsOnAtoms, IsRowAt, origin_at, AreNamed, HasGate, gate_clause, gate_terms}
use Rattle.std.proofs.lemmas.List.Elements.{All-head, All-tail, All-weaker}
use Rattle.nz_spec.specs.clauses.Literal.{once}
use Rattle.nz_spec.specs.terms.Table.{Node}
use Rattle.nz_term.specs.declared.term_lits.TermLit.{TermLit}
use Rattle.nz_log.specs.Lits.{are_same_lit}

-- a clause that was made is there
pub some_entry : (o : Option Entry) (g : Origin) → option_map (λ (e : Entry). e.origin) o ≡ Some g → (e : Entry) × (o ≡ Some e) × (e.origin ≡ g)
some_entry None g at = cc
some_entry (Some e) g at = let same : e.origin ≡ g = cc in (e, refl, same)

pub made_live : (log : LogState) (i : ℕ) (o : Origin) → origin_at log i ≡ Some o → IsLive log i
made_live log i o at = let e = some_entry (entry_at log i) o at in subst (λ p. IsSome p) (sym e.1) refl

pub row_live : (log : LogState) (i t : ℕ) → IsRowAt log i t → IsLive log i
row_live log i t row = made_live log i row.0 row.1

-- an atom that is there stays there
pub longer : (old new : List Atom) → Stay old new → (k : ℕ) → k < length old → k < length new
longer old new stay k inside =
    slice_get_within new k (get_or old k (Term 0)) (stay k (get_or old k (Term 0)) (slice_get-get_or old k (Term 0) inside))

module _ (old new : LogState) (i : ℕ) (kept : entry_at new i ≡ entry_at old i) where
  pub origin_kept : origin_at new i ≡ origin_at old i
  origin_kept = ap (option_map (λ (e : Entry). e.origin)) kept

  pub level_kept : level_at new i ≡ level_at old i
  level_kept = ap (λ o. elim o [ None ↦ 0 | Some e ↦ e.level ]) kept

  pub literals_kept : literals_at new i ≡ literals_at old i
  literals_kept = ap (λ o. elim o [ None ↦ [] | Some e ↦ e.literals ]) kept

  pub row_kept : (t : ℕ) → IsRowAt old i t → IsRowAt new i t
  row_kept t row = (row.0, origin_kept ∙ row.1, row.2)

  pub row_was : (t : ℕ) → IsRowAt new i t → IsRowAt old i t
  row_was t row = (row.0, sym origin_kept ∙ row.1, row.2)

  module _ (stay : Stay old.atoms new.atoms) where
    pub on_atoms_kept : IsOnAtoms old i → IsOnAtoms new i
    on_atoms_kept on l has = longer old.atoms new.atoms stay l.atom (on l (subst (λ (c : List Lit). Contains c l) literals_kept has))

    pub bound_kept : (atom : ℕ) → HasBound old i atom → HasBound new i atom
    bound_kept atom h =
        record {
          term = h.term;
          row = row_kept h.term h.row;
          literal = h.literal;
          has = subst (λ (c : List Lit). Contains c h.literal) (sym literals_kept) h.has;
          on = h.on;
          bound = h.bound;
          is_bound = stay atom (AtMost h.bound) h.is_bound;
        }

    -- a bound of a clause on atoms that were there was one
    pub bound_was : (atom : ℕ) → IsOnAtoms old i → HasBound new i atom → HasBound old i atom
    bound_was atom on h =
        let has = subst (λ (c : List Lit). Contains c h.literal) literals_kept h.has in
        let inside : atom < length old.atoms = subst (λ k. k < length old.atoms) h.on (on h.literal has) in
        let at = slice_get-get_or old.atoms atom (Term 0) inside in
        record {
          term = h.term;
          row = row_was h.term h.row;
          literal = h.literal;
          has = has;
          on = h.on;
          bound = h.bound;
          is_bound = at ∙ sym (stay atom (get_or old.atoms atom (Term 0)) at) ∙ h.is_bound;
        }

-- a clause that is known by how it was made
pub clause_kept : (old new : LogState) (o : Origin) (n : ℕ) → (h : HasClause old o n) → entry_at new h.id ≡ entry_at old h.id → HasClause new o n
clause_kept old new o n h kept =
    record { id = h.id; origin = origin_kept old new h.id kept ∙ h.origin; at = level_kept old new h.id kept ∙ h.at }

-- ---- Atoms of terms in a log that grows: each keeps its number, and so do the literals of a gate

module _ (own : AtomsOfTerms) (old new : List Atom) (stay : Stay old new) where
  pub names_stay : (c : List TermLit) → All (λ (l : TermLit). HasTerm old l.term) c → All (λ (l : TermLit). HasTerm new l.term) c
  names_stay c has = All-weaker (λ (l : TermLit). HasTerm old l.term) (λ (l : TermLit). HasTerm new l.term) (λ l h. (own.keep old new stay l.term h).0) c has

  pub lits_stay : (c : List TermLit) → All (λ (l : TermLit). HasTerm old l.term) c → lits_of new c ≡ lits_of old c
  lits_stay [] has = refl
  lits_stay (l ∷ c) has =
      let P : TermLit → Type 0 = λ m. HasTerm old m.term in
      let first : lit_of new l ≡ lit_of old l = ap (λ n. record { atom = n; sign = l.sign }) (own.keep old new stay l.term (All-head P l c has)).1 in
      let rest = lits_stay c (All-tail P l c has) in
      λ i. first i ∷ rest i

  pub clause_stays : (ns : List Node) (t j n : ℕ) → AreNamed ns old t j → gate_clause ns new t j n ≡ gate_clause ns old t j n
  clause_stays ns t j n named = ap (λ (c : List Lit). record (gate_clause ns old t j n) { literals = once are_same_lit c }) (lits_stay (gate_terms ns t j) named)

-- a gate whose clause is kept
pub gate_stays : AtomsOfTerms → (old new : LogState) → Stay old.atoms new.atoms → (ns : List Node) (t j n : ℕ) → (has : HasGate ns old t j n) → entry_at new has.0 ≡ entry_at old has.0
    → HasGate ns new t j n
gate_stays own old new stay ns t j n has kept =
    (has.0, kept ∙ has.1 ∙ ap Some (sym (clause_stays own old.atoms new.atoms stay ns t j n has.2)), names_stay own old.atoms new.atoms stay (gate_terms ns t j) has.2)
