-- What was added is covered, with all that is listed with it, so a search names the atom of each Boolean term that it is made of.
use Rattle.std.proofs.Common.{◌≡◌, ◌⊎◌, inl, inr, ℕ, zero, suc, ◌<◌, true, List, [], ◌∷◌, ◌++◌, map, get_or, Option, Some, None, refl, sym, ap, subst, ◌∙◌, arith}
use Rattle.std.specs.Prelude.{All, Contains, IsSome, slice_get}
use Rattle.std.specs.List.{AllByRecursion}
use Rattle.std.proofs.lemmas.List.Elements.{All-contains, Contains-append_cases, Contains-append_left, Contains-append_right, Contains-push_cases, recursion_from_All}
use Rattle.std.proofs.lemmas.Option.{slice_get-get_or, slice_get_within}
use Rattle.nz_lists.proofs.Elements.{AllByRecursion-weaker}
use Rattle.nz_lists.proofs.Members.{each_of, map_has}
use Rattle.nz_spec.specs.clauses.Gates.{holds, is_boolean_term}
use Rattle.nz_spec.specs.search.Decide.{asserted_numbers}
use Rattle.nz_spec.specs.search.Search.{Search}
use Rattle.nz_spec.specs.terms.Order.{companions, companions_of, listing_order, listing_orders}
use Rattle.nz_spec.specs.terms.Table.{Node, IsTable, TermOfNode, term_in, terms_at}
use Rattle.nz_spec.specs.terms.Term.{Term, apply, falsum}
use Rattle.nz_log.specs.declared.atoms.Atom.TheVariants as atoms
use Rattle.nz_log.specs.declared.lits.Lit.{Lit}
use Rattle.nz_log.specs.Atoms.{HasTerm, lit_of, term_place}
use Rattle.nz_log.specs.Logs.{LogState, literals_at}
use Rattle.nz_search.specs.Asked.{NamesParts}
use Rattle.nz_search.specs.Levels.{Level, added_by_level, asserted_by_level, numbers_by_level}
use Rattle.nz_sat.specs.declared.clauses.Held.{Held}
use Rattle.nz_sat.specs.Numbers.{atom_literal}
use Rattle.nz_term.specs.declared.term_lits.TermLit.{TermLit}
use Rattle.nz_term.specs.TermLits.{yes}
use Rattle.nz_cform.specs.Covering.{Covers, HasCovered, kids_at}
use Rattle.nz_cform.specs.Forms.{FormState, IsCoveredWithin, covered_at}
use Rattle.nz_engine.specs.Checking.{AreHanded, IsPosed}
use Rattle.nz_engine.specs.Preparing.{HoldsUnit, IsAllAdded, IsOfForm, IsPrepared, IsSearched, PreparedState, boolean_terms}
use Rattle.nz_engine.proofs.AssertionPlaces.{place_of}
use Rattle.nz_engine.proofs.ClausePreservation.{literal_at_atom}
use Rattle.nz_engine.proofs.LevelPreservation.{some_of, some_within}
use Rattle.nz_engine.proofs.Onces.{boolean_there}

-- ---- What is listed with a covered term

-- The term has a number, which is covered.
record IsHere (ns : List Node) (s : FormState) (u : Term) : Type 0 where
  number : ℕ
  term : term_in ns number ≡ u
  covered : IsSome (covered_at s number)

module _ (node : TermOfNode) (ns : List Node) (table : IsTable ns) (log : LogState) (s : FormState) (covers : Covers ns log s) where
  of_arguments : (t : ℕ) → ((k : ℕ) → k < t → IsSome (covered_at s k) → (u : Term) → Contains (listing_order (term_in ns k)) u → IsHere ns s u) → (ks : List ℕ) → AllByRecursion (λ k. k < t) ks
      → AllByRecursion (λ k. IsSome (covered_at s k)) ks → (u : Term) → Contains (listing_orders (terms_at (term_in ns) ks)) u → IsHere ns s u
  of_arguments t ih [] below some u has = absurd (let inside : has.0 < 0 = has.1 in omega arith)
  of_arguments t ih (k ∷ ks) below some u has =
      elim (Contains-append_cases (listing_order (term_in ns k)) (listing_orders (terms_at (term_in ns) ks)) u has) [
        | inl first ↦ ih k below.0 some.0 u first
        | inr other ↦ of_arguments t ih ks below.1 some.1 u other
      ]

  part_below : (m t : ℕ) → t < m → IsSome (covered_at s t) → (u : Term) → Contains (listing_order (term_in ns t)) u → IsHere ns s u
  part_below zero t below some u has = absurd (omega (arith, below))
  part_below (suc m) t below some u has =
      let n = some_of (covered_at s t) some in
      let own : Node = get_or ns t (record { head = falsum; kids = [] }) in
      let at : slice_get ns t ≡ Some own = slice_get-get_or ns t (record { head = falsum; kids = [] }) (covers.within t n.0 n.1) in
      let args = terms_at (term_in ns) own.kids in
      let is : term_in ns t ≡ apply own.head args = node ns table t own at in
      let kids : kids_at ns t ≡ own.kids = ap (λ (o : Option Node). elim o [ None ↦ [] | Some x ↦ x.kids ]) at in
      elim (Contains-push_cases (listing_orders args ++ companions own.head args) (apply own.head args) u (subst (λ v. Contains (listing_order v) u) is has)) [
        | inl before ↦ elim (Contains-append_cases (listing_orders args) (companions own.head args) u before) [
          | inl parts ↦
              of_arguments t (λ k less. part_below m k (omega (arith, less, below))) own.kids (recursion_from_All (λ k. k < t) own.kids (table.before t own at))
              (AllByRecursion-weaker (IsCoveredWithin s n.0) (λ k. IsSome (covered_at s k)) (λ k h. some_within (covered_at s k) n.0 h) own.kids
              (recursion_from_All (IsCoveredWithin s n.0) own.kids (subst (All (IsCoveredWithin s n.0)) kids (covers.arguments t n.0 n.1)))) u parts
          | inr beside ↦
              let h = each_of (HasCovered ns s n.0) (companions_of (term_in ns t)) (covers.companions t n.0 n.1) u (subst (λ v. Contains (companions_of v) u) (sym is) beside) in
              record { number = h.number; term = h.term; covered = some_within (covered_at s h.number) n.0 h.covered }
        ]
        | inr same ↦ record { number = t; term = is ∙ same; covered = some }
      ]

  part_covered : (t : ℕ) → IsSome (covered_at s t) → (u : Term) → Contains (listing_order (term_in ns t)) u → IsHere ns s u
  part_covered t some u has = part_below (suc t) t (omega arith) some u has

-- ---- What was added

added_cases : (levels : List Level) (t : ℕ) → Contains (asserted_numbers (added_by_level levels)) t
    → Contains (asserted_numbers (asserted_by_level levels)) t ⊎ Contains (asserted_numbers (numbers_by_level levels)) t
added_cases [] t has = inl has
added_cases (l ∷ ls) t has =
    let asserted = asserted_numbers (asserted_by_level ls) in
    let numbers = asserted_numbers (numbers_by_level ls) in
    elim (Contains-append_cases (l.asserted ++ l.numbers) (asserted_numbers (added_by_level ls)) t has) [
      | inl first ↦ elim (Contains-append_cases l.asserted l.numbers t first) [
        | inl a ↦ inl (Contains-append_left l.asserted asserted t a)
        | inr n ↦ inr (Contains-append_left l.numbers numbers t n)
      ]
      | inr other ↦ elim (added_cases ls t other) [
        | inl a ↦ inl (Contains-append_right l.asserted asserted t a)
        | inr n ↦ inr (Contains-append_right l.numbers numbers t n)
      ]
    ]

-- the term of a unit clause that is held is a covered Boolean one
pub unit_covered : {ns : List Node} {levels : List Level} {roots : List (List ℕ)} {p : PreparedState} → IsPrepared ns levels roots p → (k t : ℕ) → HoldsUnit (asserted_by_level levels) p k t
    → IsSome (covered_at p.form t) × (is_boolean_term (term_in ns t) ≡ true)
unit_covered {ns} {levels} {roots} {p} ready k t u =
    let l = lit_of p.log.atoms (yes t) in
    let each = All-contains (λ (x : Held). All (λ (m : Lit). IsSearched ns p.log p.form m.atom) (literals_at p.log x.id)) p.sat.clauses u.held ready.searched u.there in
    let s : IsSearched ns p.log p.form l.atom =
    All-contains (λ (m : Lit). IsSearched ns p.log p.form m.atom) (literals_at p.log u.held.id) l each (subst (λ (c : List Lit). Contains c l) (sym u.literals) (0, omega arith, refl)) in
    let both : Some s.atom ≡ Some (atoms.Term t) = sym s.at ∙ u.named in
    let is : s.atom ≡ atoms.Term t = cc in
    subst (IsOfForm ns p.form l.atom) is s.of

module _ {ns : List Node} {levels : List Level} {roots : List (List ℕ)} {p : PreparedState} (ready : IsPrepared ns levels roots p) (all : IsAllAdded levels p) where
  asserted_covered : (t : ℕ) → Contains (asserted_numbers (asserted_by_level levels)) t → IsSome (covered_at p.form t)
  asserted_covered t has =
      let k = place_of (asserted_numbers (asserted_by_level levels)) t has in
      let inside = slice_get_within (asserted_numbers (asserted_by_level levels)) k.0 t k.1 in
      let given = all.given in
      (unit_covered ready k.0 t (ready.units k.0 t (omega (arith, inside, given)) k.1)).0

  number_covered : (t : ℕ) → Contains (asserted_numbers (numbers_by_level levels)) t → IsSome (covered_at p.form t)
  number_covered t has =
      let k = place_of (asserted_numbers (numbers_by_level levels)) t has in
      let inside = slice_get_within (asserted_numbers (numbers_by_level levels)) k.0 t k.1 in
      let numbered = all.numbered in
      let n = ready.numbers k.0 t (omega (arith, inside, numbered)) k.1 in
      subst (λ (o : Option ℕ). IsSome o) (sym n.covered) refl

  added_covered : (t : ℕ) → Contains (asserted_numbers (added_by_level levels)) t → IsSome (covered_at p.form t)
  added_covered t has = elim (added_cases levels t has) [ inl a ↦ asserted_covered t a | inr n ↦ number_covered t n ]

-- ---- A search that is handed its atoms

pub parts_named : TermOfNode → {ns : List Node} {levels : List Level} {assumed : List TermLit} {p : PreparedState} → IsPosed ns levels assumed p → {ids : List ℕ} {lits : List Lit} → AreHanded ns p assumed ids lits
    → (s : Search) → s.atoms ≡ map (atom_literal ns p.log.atoms) ids → NamesParts ns levels s
parts_named node {ns} {levels} {assumed} {p} posed {ids} {lits} n s named i t has part boolean =
    let ready = posed.standing.raised in
    let h = part_covered node ns posed.table p.log p.form ready.covers i (added_covered ready posed.all i has) t part in
    let own : is_boolean_term (term_in ns h.number) ≡ true = ap is_boolean_term h.term ∙ boolean in
    let ts = boolean_terms ns p.form.terms.ids in
    let there : Contains ts h.number = boolean_there ns p.form.terms.ids h.number ((n.terms.listed h.number).1 h.covered) own in
    let at : HasTerm p.log.atoms h.number = All-contains (HasTerm p.log.atoms) ts h.number n.there.covered there in
    let place = term_place p.log.atoms h.number in
    let places = map (term_place p.log.atoms) ts in
    let among : Contains ids place =
    All-contains (Contains ids) (places ++ p.form.bounds.ids) place n.numbers.each (Contains-append_left places p.form.bounds.ids place (map_has (term_place p.log.atoms) ts h.number there)) in
    let is : atom_literal ns p.log.atoms place ≡ holds t = literal_at_atom ns p.log.atoms (record { atom = place; sign = true }) (atoms.Term h.number) at ∙ ap holds h.term in
    subst (λ ls. Contains ls (holds t)) (sym named) (subst (Contains (map (atom_literal ns p.log.atoms) ids)) is (map_has (atom_literal ns p.log.atoms) ids place among))
