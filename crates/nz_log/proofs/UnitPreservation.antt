-- The clauses of the unit table stay when the table of terms grows: they number no term but those of the table.
use Rattle.std.proofs.Common.{◌≡◌, ℕ, ◌<◌, List, [], ◌∷◌, ◌++◌, length, map, Option, Some, None, refl, sym, ap, subst, ◌∙◌}
use Rattle.std.specs.List.{AllByRecursion}
use Rattle.nz_fractions.specs.Fraction.{Fraction, Arithmetic, Sum, Difference, first_wide, whole}
use Rattle.std.specs.Prelude.{pos}
use Rattle.nz_spec.specs.numbers.Computation.{Computation, and_then, at_once, in_turn, turned_into}
use Rattle.nz_spec.specs.terms.Form.{Form, Numbering, joined, negated_form, unit_form}
use Rattle.nz_spec.specs.terms.FormOf.{form_of, number_in, TermHasItsNumber}
use Rattle.nz_spec.specs.clauses.Gates.{fails, holds, list_of}
use Rattle.nz_spec.specs.terms.Linear.{constant_value}
use Rattle.nz_spec.specs.clauses.Links.{IsArithmetic, at_most_literal, minus, plus}
use Rattle.nz_spec.specs.clauses.Literal.{Clause, is_at_most}
use Rattle.nz_spec.specs.terms.Order.{HasCompanions, IsInTable, companions_of}
use Rattle.nz_spec.specs.clauses.Steps.{asserting, clause_at, step_taken, unit_step}
use Rattle.nz_spec.specs.terms.Table.{Node, IsTable, TermOfNode, TermStays, term_in}
use Rattle.nz_spec.specs.terms.Term.{Head, bool_sort, choice, integer_quotient, modulus, magnitude, to_int, Term, apply, Terms, no_terms, terms}
use Rattle.nz_spec.specs.clauses.Units.{at_most_number, at_most_zero, below_number, greatest_remainder, magnitude_rows, quotient_rows, remainder_rows, times_unit, unit_clauses, units_over}
use Rattle.nz_log.specs.declared.atoms.Atom.{Atom}
use Rattle.nz_log.specs.declared.lits.Lit.{Lit}
use Rattle.nz_log.specs.Axioms.{IsAxiom, IsClauseOf, unit_of}
use Rattle.nz_log.proofs.Axiomatic.{axiom_made}
use Rattle.nz_log.proofs.LiteralPreservation.{same_clause}
use Rattle.nz_log.proofs.LinkPreservation.{agrees, closed, listed, most}
use Rattle.nz_log.proofs.NumberedForms.{AllTerms, Among, form_in, negated_in, parts_in, same_form, same_joined}

-- ---- Rows

module _ (number other : Numbering) (P : Term → Type 0) (agree : (t : Term) → P t → number t ≡ other t)
    (inside : (h : Head) (ts : Terms) → P (apply h ts) → AllTerms P ts) where
  abbrev AmongOf : Computation Form → Type 0
  AmongOf c = Among P c.result.parts

  same_two : (op : Arithmetic) (c d x y : Computation Form) → c ≡ x → d ≡ y → AmongOf x → AmongOf y
      → and_then c (λ f. and_then d (λ g. joined number op f g)) ≡ and_then x (λ f. and_then y (λ g. joined other op f g))
  same_two op c d x y first second h k =
      ap (λ (e : Computation Form). and_then e (λ f. and_then d (λ g. joined number op f g))) first
      ∙ ap (λ (e : Computation Form). and_then x (λ f. and_then e (λ g. joined number op f g))) second
      ∙ ap (λ (e : Computation Form). and_then x (λ f. and_then y (λ g. e))) (same_joined P number other agree op x.result y.result h k)

  two_among : (op : Arithmetic) (x y : Computation Form) → AmongOf x → AmongOf y → AmongOf (and_then x (λ f. and_then y (λ g. joined other op f g)))
  two_among op x y h k = parts_in P other op x.result.parts y.result.parts h k

  same : (t : Term) → P t → form_of number t ≡ form_of other t
  same t p = same_form P number other agree inside t p

  among : (t : Term) → P t → AmongOf (form_of other t)
  among t p = form_in P inside other t p

  at_most_same : (t u : Term) → P t → P u → at_most_literal number t u ≡ at_most_literal other t u
  at_most_same t u p q = most number other P agree inside t u p q

  same_quotient : (u a : Term) (o : Option Fraction) → P u → P a → quotient_rows number u a o ≡ quotient_rows other u a o
  same_quotient u a None p q = refl
  same_quotient u a (Some k) p q =
      let m : Computation Form = at_once (times_unit k u) in
      let f = form_of number a in
      let g = form_of other a in
      let first = same_two Difference m f m g refl (same a q) (p, tt) (among a q) in
      let second = same_two Difference f m g m (same a q) refl (among a q) (p, tt) in
      λ i. (at_most_zero (first i) ∷ []) ∷ (at_most_number (greatest_remainder k) (second i) ∷ []) ∷ []

  same_remainder : (u q a : Term) (o : Option Fraction) → P u → P q → P a → remainder_rows number u q a o ≡ remainder_rows other u q a o
  same_remainder u q a None p r s = refl
  same_remainder u q a (Some k) p r s =
      let m : Computation Form = at_once (times_unit k q) in
      let own : Computation Form = at_once (unit_form u) in
      let f = form_of number a in
      let g = form_of other a in
      let rest = same_two Difference f m g m (same a s) refl (among a s) (r, tt) in
      let first = same_two Difference (minus number f m) own (minus other g m) own rest refl (two_among Difference g m (among a s) (r, tt)) (p, tt) in
      let sum = same_two Sum own m own m refl refl (p, tt) (r, tt) in
      let second = same_two Difference (plus number own m) f (plus other own m) g sum (same a s) (two_among Sum own m (p, tt) (r, tt)) (among a s) in
      λ i.
      (at_most_zero (first i) ∷ [])
      ∷ (at_most_zero (second i) ∷ [])
      ∷ (at_most_zero (turned_into negated_form own) ∷ [])
      ∷ (at_once (is_at_most (unit_form u).parts (greatest_remainder k)) ∷ [])
      ∷ []

  same_magnitude : (u a : Term) → P u → P a → magnitude_rows number u a ≡ magnitude_rows other u a
  same_magnitude u a p q =
      let own : Computation Form = at_once (unit_form u) in
      let f = form_of number a in
      let g = form_of other a in
      let turned = ap (turned_into negated_form) (same a q) in
      let below =
      same_two Difference (turned_into negated_form f) own (turned_into negated_form g) own turned refl (negated_in P g.result.parts (among a q)) (p, tt) in
      let sum = same_two Sum own f own g refl (same a q) (p, tt) (among a q) in
      λ i.
      (at_most_same a u q p i ∷ [])
      ∷ (at_most_zero (below i) ∷ [])
      ∷ (at_most_same u a p q i ∷ at_most_zero (sum i) ∷ [])
      ∷ []

  same_units : (t : Term) (h : Head) (args : List Term) → P t → AllByRecursion P args
      → ((a k : Term) → h ≡ modulus → args ≡ a ∷ k ∷ [] → P (apply integer_quotient (terms a (terms k no_terms)))) → units_over number t h args ≡ units_over other t h args
  same_units t (choice bool_sort) args own p divided = refl
  same_units t (choice s) (c ∷ a ∷ b ∷ []) own p divided =
      λ i.
      (at_once (fails c) ∷ at_most_same t a own p.1.0 i ∷ []) ∷ (at_once (fails c) ∷ at_most_same a t p.1.0 own i ∷ [])
      ∷ (at_once (holds c) ∷ at_most_same t b own p.1.1.0 i ∷ []) ∷ (at_once (holds c) ∷ at_most_same b t p.1.1.0 own i ∷ []) ∷ []
  same_units t integer_quotient (a ∷ k ∷ []) own p divided = same_quotient t a (constant_value k) own p.0
  same_units t modulus (a ∷ k ∷ []) own p divided =
      same_remainder t (apply integer_quotient (terms a (terms k no_terms))) a (constant_value k) own (divided a k refl refl) p.0
  same_units t magnitude (a ∷ []) own p divided = same_magnitude t a own p.0
  same_units t to_int (a ∷ []) own p divided =
      let u : Computation Form = at_once (unit_form t) in
      let rest = same_two Difference (form_of number a) u (form_of other a) u (same a p.0) refl (among a p.0) (own, tt) in
      λ i. (at_most_same t a own p.0 i ∷ []) ∷ (below_number (whole (pos 1)) (rest i) ∷ []) ∷ []
  same_units t h args own p divided = refl

-- ---- Clauses

-- a list of two terms is that of these arguments
two : (ts : Terms) (a k : Term) → list_of ts ≡ a ∷ k ∷ [] → ts ≡ terms a (terms k no_terms)
two no_terms a k e = cc
two (terms b no_terms) a k e = cc
two (terms b (terms c no_terms)) a k e = let first : b ≡ a = cc in let second : c ≡ k = cc in λ i. terms (first i) (terms (second i) no_terms)
two (terms b (terms c (terms d ts))) a k e = cc

companion : (ns : List Node) (h : Head) (ts : Terms) (a k : Term) → AllByRecursion (IsInTable ns) (companions_of (apply h ts)) → h ≡ modulus → list_of ts ≡ a ∷ k ∷ []
    → IsInTable ns (apply integer_quotient (terms a (terms k no_terms)))
companion ns h ts a k all same both =
    let here : AllByRecursion (IsInTable ns) (companions_of (apply modulus ts)) = subst (λ g. AllByRecursion (IsInTable ns) (companions_of (apply g ts))) same all in
    subst (λ us. IsInTable ns (apply integer_quotient us)) (two ts a k both) here.0

module _ (own : TermHasItsNumber) (stays : TermStays) (node : TermOfNode) (ns more : List Node) (table : IsTable ns) (longer : IsTable (ns ++ more)) (companions : HasCompanions ns) where
  same_clauses : (t : Term) → IsInTable ns t → unit_clauses (number_in (ns ++ more)) t ≡ unit_clauses (number_in ns) t
  same_clauses (apply h ts) there =
      let companion_there = subst (λ u. AllByRecursion (IsInTable ns) (companions_of u)) there.2 (companions there.0 there.1) in
      ap (map in_turn)
      (same_units (number_in (ns ++ more)) (number_in ns) (IsInTable ns) (agrees own stays ns more table longer) (closed node ns table) (apply h ts) h (list_of ts) there
      (listed (IsInTable ns) ts (closed node ns table h ts there)) (λ a k. companion ns h ts a k companion_there))

  same_unit : (t j : ℕ) → t < length ns
      → step_taken (number_in (ns ++ more)) (asserting []) [] (unit_step (term_in (ns ++ more) t) j) ≡ step_taken (number_in ns) (asserting []) [] (unit_step (term_in ns t) j)
  same_unit t j within =
      ap (λ u. clause_at (unit_clauses (number_in (ns ++ more)) u) j) (stays ns more t within)
      ∙ ap (λ cs. clause_at cs j) (same_clauses (term_in ns t) (t, within, refl))

-- so what such a clause is over a table it is over each that goes on from it
pub unit_axiom : TermHasItsNumber → TermStays → TermOfNode → (ns : List Node) → IsTable ns → HasCompanions ns → (atoms : List Atom) (t j : ℕ) (c : List Lit) → t < length ns
    → IsArithmetic (term_in ns t) → IsClauseOf ns atoms (unit_of t j) c → IsAxiom ns atoms (unit_of t j) c
unit_axiom own stays node ns table companions atoms t j c within arithmetic is =
    axiom_made stays ns atoms (unit_of t j) c within arithmetic is.within
    (λ more longer there all.
    let same = same_unit own stays node ns more table longer companions t j within in
    record {
      within = all;
      clause = ap (λ (s : Computation (Option Clause)). s.result) same ∙ is.clause ∙ ap Some (sym (same_clause stays ns more atoms c is.within));
      fits = ap (λ (s : Computation (Option Clause)). first_wide s.operations) same ∙ is.fits;
    })
