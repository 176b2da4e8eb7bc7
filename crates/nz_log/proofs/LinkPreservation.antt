-- The clauses of the link table stay when the table of terms grows: they number no term but those of the table.
use Rattle.std.proofs.Common.{◌≡◌, ℕ, suc, ◌<◌, List, [], ◌∷◌, ◌++◌, length, map, get_or, Option, Some, if◌then◌else◌, refl, sym, ap, subst, ◌∙◌, arith}
use Rattle.std.specs.Prelude.{slice_get}
use Rattle.std.specs.List.{AllByRecursion}
use Rattle.std.proofs.lemmas.List.{length-append}
use Rattle.std.proofs.lemmas.Option.{slice_get-get_or}
use Rattle.std.proofs.lemmas.List.Elements.{recursion_from_All}
use Rattle.nz_fractions.specs.Fraction.{first_wide}
use Rattle.nz_spec.specs.numbers.Computation.{Computation, at_once, in_turn, turned_into}
use Rattle.nz_spec.specs.terms.Form.{Numbering}
use Rattle.nz_spec.specs.terms.FormOf.{number_in, TermHasItsNumber}
use Rattle.nz_spec.specs.clauses.Gates.{fails, holds, is_boolean_term, list_of}
use Rattle.nz_spec.specs.clauses.LinearLiteral.{is_at_most_zero, is_below_zero}
use Rattle.nz_spec.specs.clauses.Links.{IsArithmetic, at_most_literal, below_literal, link_clauses, links_over}
use Rattle.nz_spec.specs.clauses.Literal.{Clause}
use Rattle.nz_spec.specs.terms.Order.{HasCompanions, IsInTable, companions_of}
use Rattle.nz_spec.specs.clauses.Steps.{asserting, clause_at, link_step, step_taken}
use Rattle.nz_spec.specs.terms.Table.{Node, IsTable, TermOfNode, TermStays, term_in, terms_at}
use Rattle.nz_spec.specs.terms.Term.{Head, less, at_most, equality, is_int, to_int, falsum, Term, apply, Terms, no_terms, terms}
use Rattle.nz_log.specs.declared.atoms.Atom.{Atom}
use Rattle.nz_log.specs.declared.lits.Lit.{Lit}
use Rattle.nz_log.specs.Axioms.{IsAxiom, IsClauseOf, link_of}
use Rattle.nz_log.proofs.Axiomatic.{axiom_made}
use Rattle.nz_log.proofs.LiteralPreservation.{same_clause}
use Rattle.nz_log.proofs.NumberedForms.{AllTerms, same_minus}

-- ---- The terms of a table

module _ (node : TermOfNode) (ns : List Node) (table : IsTable ns) where
  are_there : (bound : ℕ) → bound < suc (length ns) → (ks : List ℕ) → AllByRecursion (λ k. k < bound) ks → AllTerms (IsInTable ns) (terms_at (term_in ns) ks)
  are_there bound within [] h = tt
  are_there bound within (k ∷ ks) h =
      let low : k < bound = h.0 in
      let there : k < length ns = omega (arith, low, within) in
      ((k, there, refl), are_there bound within ks h.1)

  pub closed : (h : Head) (ts : Terms) → IsInTable ns (apply h ts) → AllTerms (IsInTable ns) ts
  closed h ts there =
      let i = there.0 in
      let n : Node = get_or ns i (record { head = falsum; kids = [] }) in
      let at : slice_get ns i ≡ Some n = slice_get-get_or ns i (record { head = falsum; kids = [] }) there.1 in
      let both : apply n.head (terms_at (term_in ns) n.kids) ≡ apply h ts = sym (node ns table i n at) ∙ there.2 in
      let arguments : terms_at (term_in ns) n.kids ≡ ts = cc in
      let within : i < suc (length ns) = let low : i < length ns = there.1 in omega (arith, low) in
      subst (AllTerms (IsInTable ns)) arguments (are_there i within n.kids (recursion_from_All (λ k. k < i) n.kids (table.before i n at)))

-- a longer table numbers them alike
pub agrees : TermHasItsNumber → TermStays → (ns more : List Node) → IsTable ns → IsTable (ns ++ more) → (t : Term) → IsInTable ns t → number_in (ns ++ more) t ≡ number_in ns t
agrees own stays ns more table longer t there =
    let i = there.0 in
    let within : i < length (ns ++ more) = let low : i < length ns = there.1 in omega (arith, low, length-append ns more) in
    ap (number_in (ns ++ more)) (sym (stays ns more i there.1 ∙ there.2)) ∙ own (ns ++ more) longer i within ∙ sym (own ns table i there.1) ∙ ap (number_in ns) there.2

-- ---- Rows

module _ (number other : Numbering) (P : Term → Type 0) (agree : (t : Term) → P t → number t ≡ other t)
    (closed : (h : Head) (ts : Terms) → P (apply h ts) → AllTerms P ts) where
  pub most : (t u : Term) → P t → P u → at_most_literal number t u ≡ at_most_literal other t u
  most t u p q = ap (turned_into is_at_most_zero) (same_minus P number other agree closed t u p q)

  under : (t u : Term) → P t → P u → below_literal number t u ≡ below_literal other t u
  under t u p q = ap (turned_into is_below_zero) (same_minus P number other agree closed t u p q)

  same_rows : (t : Term) (h : Head) (args : List Term) → AllByRecursion P args → ((a : Term) → h ≡ is_int → args ≡ a ∷ [] → P (apply to_int (terms a no_terms)))
      → links_over number t h args ≡ links_over other t h args
  same_rows t less (a ∷ b ∷ []) p rounded =
      λ i. (at_once (fails t) ∷ under a b p.0 p.1.0 i ∷ []) ∷ (at_once (holds t) ∷ most b a p.1.0 p.0 i ∷ []) ∷ []
  same_rows t at_most (a ∷ b ∷ []) p rounded =
      λ i. (at_once (fails t) ∷ most a b p.0 p.1.0 i ∷ []) ∷ (at_once (holds t) ∷ under b a p.1.0 p.0 i ∷ []) ∷ []
  same_rows t equality (a ∷ b ∷ []) p rounded =
      λ i. if is_boolean_term a then []
      else
      (at_once (fails t) ∷ most a b p.0 p.1.0 i ∷ []) ∷ (at_once (fails t) ∷ most b a p.1.0 p.0 i ∷ [])
      ∷ (at_once (holds t) ∷ under a b p.0 p.1.0 i ∷ under b a p.1.0 p.0 i ∷ []) ∷ []
  same_rows t is_int (a ∷ []) p rounded =
      let u = apply to_int (terms a no_terms) in
      let there = rounded a refl refl in
      λ i. (at_once (fails t) ∷ most a u p.0 there i ∷ []) ∷ (at_once (holds t) ∷ under u a there p.0 i ∷ []) ∷ []
  same_rows t h args p rounded = refl

-- ---- Clauses

pub listed : (P : Term → Type 0) (ts : Terms) → AllTerms P ts → AllByRecursion P (list_of ts)
listed P no_terms h = tt
listed P (terms t ts) h = (h.0, listed P ts h.1)

-- a list of one term is that of these arguments
alone : (ts : Terms) (a : Term) → list_of ts ≡ a ∷ [] → ts ≡ terms a no_terms
alone no_terms a e = cc
alone (terms b no_terms) a e = let same : b ≡ a = cc in ap (λ c. terms c no_terms) same
alone (terms b (terms c ts)) a e = cc

companion : (ns : List Node) (h : Head) (ts : Terms) (a : Term) → AllByRecursion (IsInTable ns) (companions_of (apply h ts)) → h ≡ is_int → list_of ts ≡ a ∷ []
    → IsInTable ns (apply to_int (terms a no_terms))
companion ns h ts a all same one =
    let here : AllByRecursion (IsInTable ns) (companions_of (apply is_int ts)) = subst (λ g. AllByRecursion (IsInTable ns) (companions_of (apply g ts))) same all in
    subst (λ us. IsInTable ns (apply to_int us)) (alone ts a one) here.0

module _ (own : TermHasItsNumber) (stays : TermStays) (node : TermOfNode) (ns more : List Node) (table : IsTable ns) (longer : IsTable (ns ++ more)) (companions : HasCompanions ns) where
  same_clauses : (t : Term) → IsInTable ns t → link_clauses (number_in (ns ++ more)) t ≡ link_clauses (number_in ns) t
  same_clauses (apply h ts) there =
      let companion_there = subst (λ u. AllByRecursion (IsInTable ns) (companions_of u)) there.2 (companions there.0 there.1) in
      ap (map in_turn)
      (same_rows (number_in (ns ++ more)) (number_in ns) (IsInTable ns) (agrees own stays ns more table longer) (closed node ns table) (apply h ts) h (list_of ts)
      (listed (IsInTable ns) ts (closed node ns table h ts there))
      (λ a same one. companion ns h ts a companion_there same one))

  pub same_link : (t j : ℕ) → t < length ns
      → step_taken (number_in (ns ++ more)) (asserting []) [] (link_step (term_in (ns ++ more) t) j) ≡ step_taken (number_in ns) (asserting []) [] (link_step (term_in ns t) j)
  same_link t j within =
      ap (λ u. clause_at (link_clauses (number_in (ns ++ more)) u) j) (stays ns more t within)
      ∙ ap (λ cs. clause_at cs j) (same_clauses (term_in ns t) (t, within, refl))

-- so what such a clause is over a table it is over each that goes on from it
pub link_axiom : TermHasItsNumber → TermStays → TermOfNode → (ns : List Node) → IsTable ns → HasCompanions ns → (atoms : List Atom) (t j : ℕ) (c : List Lit) → t < length ns
    → IsArithmetic (term_in ns t) → IsClauseOf ns atoms (link_of t j) c → IsAxiom ns atoms (link_of t j) c
link_axiom own stays node ns table companions atoms t j c within arithmetic is =
    axiom_made stays ns atoms (link_of t j) c within arithmetic is.within
    (λ more longer there all.
    let same = same_link own stays node ns more table longer companions t j within in
    record {
      within = all;
      clause = ap (λ (s : Computation (Option Clause)). s.result) same ∙ is.clause ∙ ap Some (sym (same_clause stays ns more atoms c is.within));
      fits = ap (λ (s : Computation (Option Clause)). first_wide s.operations) same ∙ is.fits;
    })
