-- The clauses of the tables in a log: which terms their literals name, and at which level that puts them.
use Rattle.std.proofs.Common.{◌≡◌, ℕ, zero, suc, ◌<◌, ◌≤◌, max, Bool, true, false, List, [], ◌∷◌, length, map, Option, Some, None, refl, sym, ap, subst, ◌∙◌, arith, Contains, slice_get, option_map}
use Rattle.std.specs.List.{AllByRecursion}
use Rattle.nz_lists.proofs.Elements.{AllByRecursion-map}
use Rattle.nz_lists.proofs.Members.{each_of, map_from}
use Rattle.nz_fractions.specs.Fraction.{Fraction}
use Rattle.nz_spec.specs.numbers.Computation.{Computation}
use Rattle.nz_spec.specs.terms.FormOf.{number_in}
use Rattle.nz_spec.specs.clauses.Gates.{gate_clauses}
use Rattle.nz_spec.specs.clauses.Links.{link_clauses}
use Rattle.nz_spec.specs.clauses.Literal.{Literal, Clause, clause_of, are_same_literal, term_literal, TellsLiterals}
use Rattle.nz_spec.specs.clauses.Steps.{clause_at, step_clause, asserting}
use Rattle.nz_spec.specs.terms.Table.{Node, IsTable, HasOneNumberEach, term_in}
use Rattle.nz_spec.specs.terms.Term as spec
use Rattle.nz_spec.specs.clauses.Units.{unit_clauses}
use Rattle.nz_lin.specs.declared.form.Part.{Part}
use Rattle.nz_lin.specs.Bounds.{bounded}
use Rattle.nz_lin.specs.Forms.{NamesUnit, parts_over}
use Rattle.nz_log.specs.declared.atoms.Atom.{Atom}
use Rattle.nz_log.specs.declared.atoms.Atom.TheVariants.{Term, AtMost}
use Rattle.nz_log.specs.declared.lits.Lit.{Lit}
use Rattle.nz_log.specs.Atoms.{AreWithin, IsAtomIn, IsLitIn, atom_in, clause_in, literal_in, terms_at, terms_of, unit_numbers, with_sign}
use Rattle.nz_log.specs.Axioms.{axiom_step, link_of, unit_of, farkas_of, branch_of, cut_of}
use Rattle.nz_log.specs.Logs.{Origin, assertion_of, gate_of, axiom_of, chain_of, Entry, LogState, level_of_terms, level_with, row_term, told_level}
use Rattle.nz_log.specs.Leveled.{LevelsReach}
use Rattle.nz_log.specs.Sound.{AxiomsAreTaken, IsMade}
use Rattle.nz_lists.proofs.Once.{once_has}
use Rattle.nz_cform.specs.declared.rows.RowTable.{RowTable}
use Rattle.nz_cform.specs.declared.rows.RowTable.TheVariants.{Links, Units}
use Rattle.nz_cform.specs.Covering.{table_axiom, table_clauses}
use Rattle.nz_cform.proofs.RowNames.{Named, Names, names_of, negation_names, units_of}

-- ---- What a literal names

units_over : (ns : List Node) (ps : List Part) → map (term_in ns) (unit_numbers ps) ≡ units_of (parts_over ns ps)
units_over ns [] = refl
units_over ns (p ∷ ps) = ap (λ us. term_in ns p.unit ∷ us) (units_over ns ps)

bound_names : (ns : List Node) (ps : List Part) (strict : Bool) (b : Fraction) → map (term_in ns) (unit_numbers ps) ≡ names_of (bounded strict (parts_over ns ps) b)
bound_names ns ps true b = units_over ns ps
bound_names ns ps false b = units_over ns ps

atom_names : (ns : List Node) (a : Atom) → map (term_in ns) (terms_of a) ≡ names_of (atom_in ns a)
atom_names ns (Term t) = refl
atom_names ns (AtMost b) = bound_names ns b.sides.parts b.strict b.sides.offset

signed_names : (sign : Bool) (l : Literal) → names_of (with_sign sign l) ≡ names_of l
signed_names true l = refl
signed_names false l = negation_names l

-- the numbers of an atom are of the table
units_within : (ns : List Node) (ps : List Part) → AllByRecursion (NamesUnit ns) ps → AllByRecursion (λ v. v < length ns) (unit_numbers ps)
units_within ns [] h = tt
units_within ns (p ∷ ps) h = (h.0.0, units_within ns ps h.1)

atom_within : (ns : List Node) (a : Atom) → IsAtomIn ns a → AllByRecursion (λ v. v < length ns) (terms_of a)
atom_within ns (Term t) h = (h, tt)
atom_within ns (AtMost b) h = units_within ns b.sides.parts h.names

module _ (ns : List Node) (atoms : List Atom) (l : Lit) (there : IsLitIn ns atoms l) where
  pub own_terms : terms_at atoms l ≡ terms_of there.atom
  own_terms = ap (λ (o : Option Atom). elim o [ None ↦ [] | Some a ↦ terms_of a ]) there.at

  own_names : map (term_in ns) (terms_of there.atom) ≡ names_of (literal_in ns atoms l)
  own_names =
      atom_names ns there.atom ∙ sym (signed_names l.sign (atom_in ns there.atom))
      ∙ sym (ap (λ (o : Option Atom). names_of (elim o [ None ↦ term_literal (term_in ns 0) l.sign | Some a ↦ with_sign l.sign (atom_in ns a) ])) there.at)

  pub own_within : AllByRecursion (λ v. v < length ns) (terms_of there.atom)
  own_within = atom_within ns there.atom there.within

  -- what holds of each term that it names holds by numbers
  pub each_number : (P : spec.Term → Type 0) → Named P (literal_in ns atoms l) → AllByRecursion (λ v. P (term_in ns v)) (terms_of there.atom)
  each_number P h = AllByRecursion-map P (term_in ns) (terms_of there.atom) (subst (AllByRecursion P) (sym own_names) h)

  -- a term that it names is there by its number
  pub number_named : HasOneNumberEach ns → (t : ℕ) → t < length ns → Contains (names_of (literal_in ns atoms l)) (term_in ns t) → Contains (terms_at atoms l) t
  number_named one t within has =
      let found = map_from (term_in ns) (terms_of there.atom) (term_in ns t) (subst (λ us. Contains us (term_in ns t)) (sym own_names) has) in
      let inside = each_of (λ v. v < length ns) (terms_of there.atom) own_within found.0 found.1 in
      let same : found.0 ≡ t = one found.0 t inside within found.2 in
      subst (λ vs. Contains vs t) (sym own_terms) (subst (Contains (terms_of there.atom)) same found.1)

-- ---- Levels

-- the level of literals isn't above all that was told
terms_most : (s : LogState) (m : ℕ) → ((t : ℕ) → told_level s t ≤ m) → (ts : List ℕ) (n : ℕ) → n ≤ m → level_of_terms s n ts ≤ m
terms_most s m highest [] n below = below
terms_most s m highest (t ∷ ts) n below = terms_most s m highest ts (max n (told_level s t)) (let here = highest t in omega arith)

level_most : (s : LogState) (m : ℕ) → ((t : ℕ) → told_level s t ≤ m) → (c : List Lit) (n : ℕ) → n ≤ m → level_with s n c ≤ m
level_most s m highest [] n below = below
level_most s m highest (l ∷ ls) n below =
    level_most s m highest ls (level_of_terms s n (terms_at s.atoms l)) (terms_most s m highest (terms_at s.atoms l) n below)

-- nor lower than what was told of a term that one of them names: so it is the level of the term, where none higher is told
pub level_is : LevelsReach → (s : LogState) (c : List Lit) (l : Lit) (t level : ℕ) → told_level s t ≡ level → ((u : ℕ) → told_level s u ≤ level) → Contains c l → Contains (terms_at s.atoms l) t
    → level_with s 0 c ≡ level
level_is reach s c l t level here highest h has =
    let least = reach s 0 c l h t has in
    let most = level_most s level highest c 0 (omega arith) in
    omega (arith, here)

-- ---- Clauses by their places

-- the clause at a place of a table
pub placed : (Q : Clause → Type 0) (cs : List (Computation Clause)) (j : ℕ) (d : Clause) → AllByRecursion (λ (c : Computation Clause). Q c.result) cs
    → (clause_at cs j).result ≡ Some d → (e : Clause) × (d ≡ clause_of e) × Q e
placed Q [] j d h at = cc
placed Q (c ∷ cs) zero d h at = let same : clause_of c.result ≡ d = cc in (c.result, sym same, h.0)
placed Q (c ∷ cs) (suc j) d h at = placed Q cs j d h.1 at

-- such a clause is of a term, and is what its axiom says
pub row_of : (table : RowTable) (t j : ℕ) → row_term (axiom_of (table_axiom table t j)) ≡ Some t
row_of Links t j = refl
row_of Units t j = refl

pub at_place : (table : RowTable) (ns : List Node) (atoms : List Atom) (t j : ℕ) (d : List Literal) → step_clause (number_in ns) (asserting []) [] (axiom_step ns atoms (table_axiom table t j)) ≡ Some d
    → (clause_at (table_clauses table (number_in ns) (term_in ns t)) j).result ≡ Some d
at_place Links ns atoms t j d e = e
at_place Units ns atoms t j d e = e

-- and of one of clauses
pub gate_placed : (Q : Clause → Type 0) (cs : List Clause) (j : ℕ) (d : Clause) → AllByRecursion Q cs → option_map clause_of (slice_get cs j) ≡ Some d
    → (e : Clause) × (d ≡ clause_of e) × Q e
gate_placed Q [] j d h at = cc
gate_placed Q (c ∷ cs) zero d h at = let same : clause_of c ≡ d = cc in (c, sym same, h.0)
gate_placed Q (c ∷ cs) (suc j) d h at = gate_placed Q cs j d h.1 at

-- a clause of a table in a log says one of those of its term
module _ (taken : AxiomsAreTaken) (ns : List Node) (table : IsTable ns) (levels : List (List ℕ)) (log : LogState) (t : ℕ) (Q : Clause → Type 0)
    (gates : AllByRecursion Q (gate_clauses (term_in ns t)))
    (rows : (of : RowTable) → AllByRecursion (λ (c : Computation Clause). Q c.result) (table_clauses of (number_in ns) (term_in ns t))) where
  -- the term of a row
  same_row : (u : ℕ) → ◌≡◌ {A = Option ℕ} (Some u) (Some t) → u ≡ t
  same_row u e = cc

  pub row_says : (i : ℕ) (e : Entry) (o : Origin) → row_term o ≡ Some t → IsMade ns levels log i e o
      → (d : Clause) × (clause_in ns log.atoms e.literals ≡ clause_of d) × Q d
  row_says i e (assertion_of k) row made = cc
  row_says i e (gate_of u j) row made =
      gate_placed Q (gate_clauses (term_in ns t)) j (clause_in ns log.atoms e.literals) gates
      (subst (λ v. option_map clause_of (slice_get (gate_clauses (term_in ns v)) j) ≡ Some (clause_in ns log.atoms e.literals)) (same_row u row) made.2)
  row_says i e (axiom_of (link_of u j)) row made =
      placed Q (link_clauses (number_in ns) (term_in ns t)) j (clause_in ns log.atoms e.literals) (rows Links)
      (subst (λ v. (clause_at (link_clauses (number_in ns) (term_in ns v)) j).result ≡ Some (clause_in ns log.atoms e.literals)) (same_row u row)
      (taken ns table log.atoms (link_of u j) e.literals made))
  row_says i e (axiom_of (unit_of u j)) row made =
      placed Q (unit_clauses (number_in ns) (term_in ns t)) j (clause_in ns log.atoms e.literals) (rows Units)
      (subst (λ v. (clause_at (unit_clauses (number_in ns) (term_in ns v)) j).result ≡ Some (clause_in ns log.atoms e.literals)) (same_row u row)
      (taken ns table log.atoms (unit_of u j) e.literals made))
  row_says i e (axiom_of (farkas_of ms)) row made = cc
  row_says i e (axiom_of (branch_of l)) row made = cc
  row_says i e (axiom_of (cut_of ms)) row made = cc
  row_says i e (chain_of first ks) row made = cc

-- ---- A clause that names a term is of its level

module _ (reach : LevelsReach) (tells : TellsLiterals) (ns : List Node) (one : HasOneNumberEach ns) (s : LogState) (t level : ℕ) (within : t < length ns) (here : told_level s t ≡ level)
    (highest : (u : ℕ) → told_level s u ≤ level) where
  pub says_level : (c : List Lit) (d : Clause) → AreWithin ns s.atoms c → clause_in ns s.atoms c ≡ clause_of d → Names (term_in ns t) d → level_with s 0 c ≡ level
  says_level c d inside says named =
      let kept = once_has are_same_literal tells.same d named.0 named.1 in
      let found = map_from (literal_in ns s.atoms) c named.0 (subst (λ (e : Clause). Contains e named.0) (sym says) kept) in
      let there = each_of (IsLitIn ns s.atoms) c inside found.0 found.1 in
      level_is reach s c found.0 t level here highest found.1
      (number_named ns s.atoms found.0 there one t within (subst (λ (l : Literal). Contains (names_of l) (term_in ns t)) (sym found.2) named.2))
