-- What the literals of rows of taken terms are: on Boolean terms, or bounds on sums without a coefficient 0.
use Rattle.std.proofs.Common.{◌≡◌, ℕ, Bool, true, false, true≢false, List, [], ◌∷◌, ◌++◌, append-nil, map, Option, Some, None, option_map, refl, sym, ap, subst, ◌∙◌}
use Rattle.std.specs.Prelude.{Contains, if◌then◌else◌, nat_lt, slice_get}
use Rattle.std.specs.List.{AllByRecursion}
use Rattle.std.proofs.lemmas.List.Elements.{All-contains, All-from_recursion, Contains-append_left, Contains-append_right}
use Rattle.std.proofs.lemmas.Option.{same_Some}
use Rattle.nz_lists.proofs.Once.{once_from}
use Rattle.nz_lists.proofs.Members.{has_found, map_has}
use Rattle.nz_lists.proofs.Elements.{AllByRecursion-append}
use Rattle.nz_fractions.specs.Fraction.{Fraction, outcome, Arithmetic, Sum, Difference, Product, Quotient}
use Rattle.nz_spec.specs.numbers.Computation.{Computation, operated, at_once, turned_into, in_turn}
use Rattle.nz_spec.specs.terms.Term.{Head, verum, falsum, negation, conjunction, disjunction, exclusion, equality, choice, bool_sort, int_sort, real_sort, less, at_most, integer_quotient, modulus, magnitude, to_int, is_int, Term, apply, Terms, no_terms, terms, is_zero}
use Rattle.nz_spec.specs.terms.Same.{are_same_term}
use Rattle.nz_spec.specs.terms.Form.{Numbering, Part, with_part, part_alone, part_joined, parts_joined}
use Rattle.nz_spec.specs.terms.FormOf.{form_of, number_in, FormsAreSums}
use Rattle.nz_spec.specs.clauses.Farkas.{is_linear_literal}
use Rattle.nz_spec.specs.clauses.Gates.{holds, fails, list_of, is_boolean_term, gate_clauses}
use Rattle.nz_spec.specs.clauses.Links.{minus, link_clauses}
use Rattle.nz_spec.specs.clauses.Literal.{Literal, term_literal, is_at_most, is_below, are_same_literal, Clause, clause_of}
use Rattle.nz_spec.specs.clauses.Steps as Steps
use Rattle.nz_spec.specs.clauses.Steps.{step_clause, asserting}
use Rattle.nz_spec.specs.terms.Table.{Node, IsTable, term_in}
use Rattle.nz_spec.specs.terms.Taken.{IsTakenHead, IsTaken}
use Rattle.nz_spec.specs.clauses.Units.{unit_clauses}
use Rattle.nz_spec.specs.terms.WellSorted.{AllAre, HaveOperands}
use Rattle.nz_fractions.proofs.Identities.{neg-nonzero}
use Rattle.nz_log.specs.declared.atoms.Atom.{Atom}
use Rattle.nz_log.specs.declared.lits.Lit.{Lit}
use Rattle.nz_log.specs.Atoms.{clause_in, literal_in}
use Rattle.nz_log.specs.Axioms.{Axiom, IsClauseOf, axiom_step, link_of, unit_of, farkas_of, branch_of, cut_of}
use Rattle.nz_log.specs.Logs.{Origin, assertion_of, gate_of, axiom_of, chain_of, row_term, Entry, LogState, entry_at, literals_at}
use Rattle.nz_log.specs.Sound.{IsLog, IsMade}
use Rattle.nz_cform.specs.Covering.{IsRowAt}
use Rattle.nz_engine.specs.SearchLaws.{RowLaws}

-- ---- Sums

abbrev HasCoefficient : Part → Type 0
HasCoefficient p = is_zero p.coefficient ≡ false

abbrev pub AreNonzeroParts : List Part → Type 0
AreNonzeroParts ps = AllByRecursion HasCoefficient ps

with_part_nonzero : (u : Term) (c : Fraction) (ps : List Part) → AreNonzeroParts ps → AreNonzeroParts (with_part u c ps)
with_part_nonzero u c ps h = by_test (is_zero c) refl
  where
    by_test : (b : Bool) → is_zero c ≡ b → AreNonzeroParts (if b then ps else record { coefficient = c; unit = u } ∷ ps)
    by_test true e = h
    by_test false e = (e, h)

alone_nonzero : (op : Arithmetic) (q : Part) (ps : List Part) → HasCoefficient q → AreNonzeroParts ps → AreNonzeroParts (part_alone op q ∷ ps)
alone_nonzero Sum q ps h k = (h, k)
alone_nonzero Difference q ps h k = (neg-nonzero q.coefficient h, k)
alone_nonzero Product q ps h k = (h, k)
alone_nonzero Quotient q ps h k = (h, k)

module _ (number : Numbering) where
  by_tests : (op : Arithmetic) (p : Part) (ps : List Part) (q : Part) (b c : Bool) → HasCoefficient p → AreNonzeroParts ps → HasCoefficient q → AreNonzeroParts (part_joined number op ps q).result
      → AreNonzeroParts (if b then turned_into (λ d. with_part p.unit d ps) (operated op p.coefficient q.coefficient) else if c then at_once (part_alone op q ∷ p ∷ ps) else turned_into (λ rs. p ∷ rs) (part_joined number op ps q)).result
  by_tests op p ps q true c h hs k ks = with_part_nonzero p.unit (outcome op p.coefficient q.coefficient) ps hs
  by_tests op p ps q false true h hs k ks = alone_nonzero op q (p ∷ ps) k (h, hs)
  by_tests op p ps q false false h hs k ks = (h, ks)

  part_nonzero : (op : Arithmetic) (ps : List Part) (q : Part) → AreNonzeroParts ps → HasCoefficient q → AreNonzeroParts (part_joined number op ps q).result
  part_nonzero op [] q h k = alone_nonzero op q [] k tt
  part_nonzero op (p ∷ ps) q h k =
      by_tests op p ps q (are_same_term p.unit q.unit) (nat_lt (number q.unit) (number p.unit)) h.0 h.1 k (part_nonzero op ps q h.1 k)

  parts_nonzero : (op : Arithmetic) (ps qs : List Part) → AreNonzeroParts ps → AreNonzeroParts qs → AreNonzeroParts (parts_joined number op ps qs).result
  parts_nonzero op ps [] h k = h
  parts_nonzero op ps (q ∷ qs) h k = parts_nonzero op (part_joined number op ps q).result qs (part_nonzero op ps q h k.0) k.1

  difference_nonzero : FormsAreSums → (a b : Term) → AreNonzeroParts (minus number (form_of number a) (form_of number b)).result.parts
  difference_nonzero sums a b =
      parts_nonzero Difference (form_of number a).result.parts (form_of number b).result.parts (sums number a).nonzero (sums number b).nonzero

-- ---- Rows of arithmetic

-- a literal on a Boolean term, or a bound on a sum without a coefficient 0
abbrev pub IsRowLiteral : Literal → Type 0
IsRowLiteral (term_literal t sign) = is_boolean_term t ≡ true
IsRowLiteral (is_at_most ps b) = AreNonzeroParts ps
IsRowLiteral (is_below ps b) = AreNonzeroParts ps

abbrev AreRows : List (Computation Clause) → Type 0
AreRows cs = AllByRecursion (λ (c : Computation Clause). AllByRecursion IsRowLiteral c.result) cs

module _ (number : Numbering) (sums : FormsAreSums) where
  abbrev apart : (a b : Term) → AreNonzeroParts (minus number (form_of number a) (form_of number b)).result.parts
  apart a b = difference_nonzero number sums a b

  other_rows : (b : Bool) (rows : List (List (Computation Literal))) → AreRows (map in_turn rows) → AreRows (map in_turn (if b then [] else rows))
  other_rows true rows h = tt
  other_rows false rows h = h

  links_are : (h : Head) (ts : Terms) → AreRows (link_clauses number (apply h ts))
  links_are less (terms a (terms b no_terms)) = ((refl, (apart a b, tt)), ((refl, (apart b a, tt)), tt))
  links_are at_most (terms a (terms b no_terms)) = ((refl, (apart a b, tt)), ((refl, (apart b a, tt)), tt))
  links_are equality (terms a (terms b no_terms)) =
      other_rows (is_boolean_term a) _ ((refl, (apart a b, tt)), ((refl, (apart b a, tt)), ((refl, (apart a b, (apart b a, tt))), tt)))
  links_are is_int (terms a no_terms) =
      let u = apply to_int (terms a no_terms) in
      ((refl, (apart a u, tt)), ((refl, (apart u a, tt)), tt))
  links_are h ts = tt

  units_are : (h : Head) (ts : Terms) → IsTakenHead h ts → HaveOperands h ts → AreRows (unit_clauses number (apply h ts))
  units_are (choice real_sort) (terms c (terms a (terms b no_terms))) k o =
      let u = apply (choice real_sort) (terms c (terms a (terms b no_terms))) in
      let test : is_boolean_term c ≡ true = o.0 in
      ((test, (apart u a, tt)), ((test, (apart a u, tt)), ((test, (apart u b, tt)), ((test, (apart b u, tt)), tt))))
  units_are (choice int_sort) (terms c (terms a (terms b no_terms))) k o = absurd k
  units_are integer_quotient (terms a (terms b no_terms)) k o = absurd k
  units_are modulus (terms a (terms b no_terms)) k o = absurd k
  units_are magnitude (terms a no_terms) k o = absurd k
  units_are to_int (terms a no_terms) k o = absurd k
  units_are h ts k o = tt

-- ---- Gates

abbrev IsBooleanLiteral : Literal → Type 0
IsBooleanLiteral (term_literal t sign) = is_boolean_term t ≡ true
IsBooleanLiteral (is_at_most ps b) = ⊥
IsBooleanLiteral (is_below ps b) = ⊥

abbrev AreBooleans : List Literal → Type 0
AreBooleans c = AllByRecursion IsBooleanLiteral c

abbrev AreBooleanTerms : List Term → Type 0
AreBooleanTerms us = AllByRecursion (λ (u : Term). is_boolean_term u ≡ true) us

listed_booleans : (ts : Terms) → AllAre true ts → AreBooleanTerms (list_of ts)
listed_booleans no_terms h = tt
listed_booleans (terms t ts) h = (h.0, listed_booleans ts h.1)

each_literal : (f : Term → Literal) → ((u : Term) → is_boolean_term u ≡ true → IsBooleanLiteral (f u)) → (us : List Term) → AreBooleanTerms us → AreBooleans (map f us)
each_literal f g [] h = tt
each_literal f g (u ∷ us) h = (g u h.0, each_literal f g us h.1)

each_row : (f : Term → List Literal) → ((u : Term) → is_boolean_term u ≡ true → AreBooleans (f u)) → (us : List Term) → AreBooleanTerms us → AllByRecursion AreBooleans (map f us)
each_row f g [] h = tt
each_row f g (u ∷ us) h = (g u h.0, each_row f g us h.1)

equation_rows : (t u v : Term) (b test : Bool) → is_boolean_term t ≡ true → is_boolean_term u ≡ b → is_boolean_term v ≡ b → is_boolean_term u ≡ test
    → AllByRecursion AreBooleans
    (if test
    then (fails t ∷ fails u ∷ holds v ∷ []) ∷ (fails t ∷ holds u ∷ fails v ∷ []) ∷ (holds t ∷ holds u ∷ holds v ∷ []) ∷ (holds t ∷ fails u ∷ fails v ∷ []) ∷ []
    else [])
equation_rows t u v b false own first second e = tt
equation_rows t u v b true own first second e =
    let other : is_boolean_term v ≡ true = second ∙ sym first ∙ e in
    ((own, (e, (other, tt))), ((own, (e, (other, tt))), ((own, (e, (other, tt))), ((own, (e, (other, tt))), tt))))

gates_are : (h : Head) (ts : Terms) → IsTakenHead h ts → HaveOperands h ts → AllByRecursion AreBooleans (gate_clauses (apply h ts))
gates_are verum no_terms k o = ((refl, tt), tt)
gates_are falsum no_terms k o = ((refl, tt), tt)
gates_are negation (terms u no_terms) k o = ((refl, (o.0, tt)), ((refl, (o.0, tt)), tt))
gates_are conjunction ts k o =
    let t = apply conjunction ts in
    let us = listed_booleans ts o in
    AllByRecursion-append AreBooleans (map (λ (u : Term). fails t ∷ holds u ∷ []) (list_of ts)) ((holds t ∷ map fails (list_of ts)) ∷ [])
    (each_row (λ (u : Term). fails t ∷ holds u ∷ []) (λ u b. (refl, (b, tt))) (list_of ts) us) ((refl, each_literal fails (λ u b. b) (list_of ts) us), tt)
gates_are disjunction ts k o =
    let t = apply disjunction ts in
    let us = listed_booleans ts o in
    AllByRecursion-append AreBooleans (map (λ (u : Term). holds t ∷ fails u ∷ []) (list_of ts)) ((fails t ∷ map holds (list_of ts)) ∷ [])
    (each_row (λ (u : Term). holds t ∷ fails u ∷ []) (λ u b. (refl, (b, tt))) (list_of ts) us) ((refl, each_literal holds (λ u b. b) (list_of ts) us), tt)
gates_are exclusion (terms u (terms v no_terms)) k o =
    let row : AreBooleans (holds (apply exclusion (terms u (terms v no_terms))) ∷ holds u ∷ holds v ∷ []) = (refl, (o.0, (o.1.0, tt))) in
    (row, (row, (row, (row, tt))))
gates_are equality (terms u (terms v no_terms)) k o =
    equation_rows (apply equality (terms u (terms v no_terms))) u v o.0 (is_boolean_term u) refl o.1.0 o.1.1.0 refl
gates_are (choice bool_sort) (terms c (terms u (terms v no_terms))) k o =
    ((refl, (o.0, (o.1.0, tt))), ((refl, (o.0, (o.1.1.0, tt))), ((refl, (o.0, (o.1.0, tt))), ((refl, (o.0, (o.1.1.0, tt))), tt))))
gates_are h ts k o = tt

-- ---- Rows of a log

-- the literal is of a row of a term in the tables of arithmetic
pub record IsInTables (number : Numbering) (t : Term) (l : Literal) : Type 0 where
  pub row : Computation Clause
  pub tabled : Contains (link_clauses number t ++ unit_clauses number t) row
  pub has : Contains row.result l

-- A literal of a row of a term: where it is a bound, the row is of the tables of arithmetic.
pub record IsOfRow (number : Numbering) (t : Term) (l : Literal) : Type 0 where
  pub literal : IsRowLiteral l
  pub bound : is_linear_literal l ≡ true → IsInTables number t l

boolean_of_row : (number : Numbering) (t : Term) (l : Literal) → IsBooleanLiteral l → IsOfRow number t l
boolean_of_row number t (term_literal u sign) h = record { literal = h; bound = λ e. absurd (true≢false (sym e)) }
boolean_of_row number t (is_at_most ps b) h = absurd h
boolean_of_row number t (is_below ps b) h = absurd h

each_in : {X : Type 0} (P : X → Type 0) (xs : List X) (x : X) → AllByRecursion P xs → Contains xs x → P x
each_in P xs x h c = All-contains P xs x (All-from_recursion P xs h) c

module _ (laws : RowLaws) (number : Numbering) where
  gates_of : (t : Term) → IsTaken t → AllByRecursion AreBooleans (gate_clauses t)
  gates_of (apply h ts) k = gates_are h ts k.heads.0 (laws.operands h ts k.sorted.0)

  links_of : (t : Term) → AreRows (link_clauses number t)
  links_of (apply h ts) = links_are number laws.sums h ts

  units_of : (t : Term) → IsTaken t → AreRows (unit_clauses number t)
  units_of (apply h ts) k = units_are number laws.sums h ts k.heads.0 (laws.operands h ts k.sorted.0)

-- the clause of a place in a table
taken_row : (rows : List Clause) (j : ℕ) (c : Clause) → option_map clause_of (slice_get rows j) ≡ Some c → (row : Clause) × Contains rows row × (clause_of row ≡ c)
taken_row rows j c e =
    elim (slice_get rows j) as (λ o. slice_get rows j ≡ o → option_map clause_of o ≡ Some c → (row : Clause) × Contains rows row × (clause_of row ≡ c)) [
      | None ↦ λ at h. cc
      | Some row ↦ λ at h. (row, has_found rows j row at, same_Some (clause_of row) c h)
    ] refl e

computed_row : (rows : List (Computation Clause)) (j : ℕ) (c : Clause) → (Steps.clause_at rows j).result ≡ Some c
    → (row : Computation Clause) × Contains rows row × (clause_of row.result ≡ c)
computed_row rows j c e =
    elim (slice_get rows j) as (λ o. slice_get rows j ≡ o → (let made : Computation (Option Clause) = elim o [ None ↦ at_once None | Some d ↦ turned_into (λ x. Some (clause_of x)) d ] in made.result ≡ Some c)
    → (row : Computation Clause) × Contains rows row × (clause_of row.result ≡ c)) [
      | None ↦ λ at h. cc
      | Some row ↦ λ at h. (row, has_found rows j row at, same_Some (clause_of row.result) c h)
    ] refl e

module _ (laws : RowLaws) (ns : List Node) (table : IsTable ns) (levels : List (List ℕ)) (log : LogState) (order : IsLog ns levels log) where
  module _ (t : ℕ) (taken : IsTaken (term_in ns t)) (l : Lit) where
    abbrev Goal : Type 0
    Goal = IsOfRow (number_in ns) (term_in ns t) (literal_in ns log.atoms l)

    -- a literal of a clause that is a row
    in_row : (literals : List Lit) (row : Clause) → Contains literals l → clause_of row ≡ clause_in ns log.atoms literals → Contains row (literal_in ns log.atoms l)
    in_row literals row has is =
        once_from are_same_literal row (literal_in ns log.atoms l)
        (subst (λ (c : Clause). Contains c (literal_in ns log.atoms l)) (sym is) (map_has (literal_in ns log.atoms) literals l has))

    of_computed : (rows : List (Computation Clause)) (j : ℕ) (literals : List Lit) → AreRows rows
        → ((row : Computation Clause) → Contains rows row → Contains (link_clauses (number_in ns) (term_in ns t) ++ unit_clauses (number_in ns) (term_in ns t)) row)
        → Contains literals l → (Steps.clause_at rows j).result ≡ Some (clause_in ns log.atoms literals) → Goal
    of_computed rows j literals each among has e =
        let of = computed_row rows j (clause_in ns log.atoms literals) e in
        let inside = in_row literals of.0.result has of.2 in
        record {
          literal = each_in IsRowLiteral of.0.result (literal_in ns log.atoms l) (each_in (λ (c : Computation Clause). AllByRecursion IsRowLiteral c.result) rows of.0 each of.1) inside;
          bound = λ linear. record { row = of.0; tabled = among of.0 of.1; has = inside };
        }

    -- the step of an axiom, over the table itself
    step_here : (a : Axiom) (literals : List Lit)
        → ((more : List Node) (later : List Atom) → IsTable (ns ++ more) → ((i : ℕ) (x : Atom) → slice_get log.atoms i ≡ Some x → slice_get later i ≡ Some x)
        → IsClauseOf (ns ++ more) later a literals)
        → step_clause (number_in ns) (asserting []) [] (axiom_step ns log.atoms a) ≡ Some (clause_in ns log.atoms literals)
    step_here a literals f =
        (subst (λ (xs : List Node). IsClauseOf xs log.atoms a literals) (append-nil ns) (f [] log.atoms (subst IsTable (sym (append-nil ns)) table) (λ i x at. at))).clause

    by_origin : (i : ℕ) (e : Entry) (o : Origin) → IsMade ns levels log i e o → row_term o ≡ Some t → Contains e.literals l → Goal
    by_origin i e (assertion_of k) made is has = absurd cc
    by_origin i e (gate_of u j) made is has =
        let one : u ≡ t = same_Some u t is in
        let of = taken_row (gate_clauses (term_in ns u)) j (clause_in ns log.atoms e.literals) made.2 in
        let inside = in_row e.literals of.0 has of.2 in
        let each : AllByRecursion AreBooleans (gate_clauses (term_in ns u)) = subst (λ (v : ℕ). AllByRecursion AreBooleans (gate_clauses (term_in ns v))) (sym one) (gates_of laws (number_in ns) (term_in ns t) taken) in
        boolean_of_row (number_in ns) (term_in ns t) (literal_in ns log.atoms l)
        (each_in IsBooleanLiteral of.0 (literal_in ns log.atoms l) (each_in AreBooleans (gate_clauses (term_in ns u)) of.0 each of.1) inside)
    by_origin i e (axiom_of (link_of u j)) made is has =
        let one : u ≡ t = same_Some u t is in
        let links = link_clauses (number_in ns) (term_in ns t) in
        let units = unit_clauses (number_in ns) (term_in ns t) in
        of_computed links j e.literals (links_of laws (number_in ns) (term_in ns t)) (λ row c. Contains-append_left links units row c) has
        (subst (λ (v : ℕ). (Steps.clause_at (link_clauses (number_in ns) (term_in ns v)) j).result ≡ Some (clause_in ns log.atoms e.literals)) one
        (step_here (link_of u j) e.literals made.taken))
    by_origin i e (axiom_of (unit_of u j)) made is has =
        let one : u ≡ t = same_Some u t is in
        let links = link_clauses (number_in ns) (term_in ns t) in
        let units = unit_clauses (number_in ns) (term_in ns t) in
        of_computed units j e.literals (units_of laws (number_in ns) (term_in ns t) taken) (λ row c. Contains-append_right links units row c) has
        (subst (λ (v : ℕ). (Steps.clause_at (unit_clauses (number_in ns) (term_in ns v)) j).result ≡ Some (clause_in ns log.atoms e.literals)) one
        (step_here (unit_of u j) e.literals made.taken))
    by_origin i e (axiom_of (farkas_of ms)) made is has = absurd cc
    by_origin i e (axiom_of (branch_of b)) made is has = absurd cc
    by_origin i e (axiom_of (cut_of ms)) made is has = absurd cc
    by_origin i e (chain_of first ks) made is has = absurd cc

    by_entry : (i : ℕ) (o : Option Entry) → entry_at log i ≡ o → (g : Origin) → option_map (λ (e : Entry). e.origin) o ≡ Some g → row_term g ≡ Some t
        → Contains (elim o [ None ↦ [] | Some e ↦ e.literals ]) l → Goal
    by_entry i None at g is row has = absurd cc
    by_entry i (Some e) at g is row has =
        let same : e.origin ≡ g = same_Some e.origin g is in
        by_origin i e e.origin (order.clauses i e at).made (ap row_term same ∙ row) has

  -- each literal of a row in the log is so
  pub of_row : (i t : ℕ) → IsRowAt log i t → IsTaken (term_in ns t) → (l : Lit) → Contains (literals_at log i) l → IsOfRow (number_in ns) (term_in ns t) (literal_in ns log.atoms l)
  of_row i t row taken l has = by_entry t taken l i (entry_at log i) refl row.0 row.1 row.2 has
