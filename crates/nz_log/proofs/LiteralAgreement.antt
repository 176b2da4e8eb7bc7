-- Literals by the numbers of atoms say what they say: two are one where their numbers and signs are.
use Rattle.std.proofs.Common.{◌≡◌, Bool, true, false, not, List, [], ◌∷◌, ◌++◌, map, Some, refl, sym, ap, ◌∙◌}
use Rattle.std.specs.List.{AllByRecursion}
use Rattle.std.proofs.lemmas.List.{map-append}
use Rattle.nz_lists.proofs.Elements.{AllByRecursion-append}
use Rattle.nz_lists.proofs.Tests.{same_tests}
use Rattle.nz_spec.specs.terms.Form as form
use Rattle.nz_spec.specs.terms.Form.{negated_part}
use Rattle.nz_fractions.proofs.Identities.{neg-back}
use Rattle.nz_spec.specs.clauses.Literal.{Literal, term_literal, is_at_most, is_below, negation_of, are_same_literal, once, without, clause_of, resolvent, TellsLiterals}
use Rattle.nz_spec.specs.terms.Table.{Node, IsTable, HasOneNumberEach, term_in, OneNumber}
use Rattle.nz_spec.specs.terms.Term as spec
use Rattle.nz_spec.specs.terms.Term.{are_same_sort, sort_of}
use Rattle.nz_term.specs.declared.heads.Sort.{Sort}
use Rattle.nz_term.specs.Constants as sorts
use Rattle.nz_lin.specs.declared.bound.Bound.{Bound}
use Rattle.nz_lin.specs.declared.form.Part.{Part}
use Rattle.nz_lin.specs.Bounds.{bounded}
use Rattle.nz_lin.specs.Forms.{NamesUnit, Numbered, parts_over}
use Rattle.nz_log.specs.declared.atoms.Atom.{Atom}
use Rattle.nz_log.specs.declared.atoms.Atom.TheVariants.{Term, AtMost}
use Rattle.nz_log.specs.declared.lits.Lit.{Lit}
use Rattle.nz_log.specs.Atoms.{AreAtoms, AreWithin, IsAtomIn, IsLitIn, IsNormal, LiteralsAgree, atom_in, clause_in, literal_in, with_sign}
use Rattle.nz_log.specs.Lits.{are_same_lit, lit_resolvent, negated_lit}
use Rattle.nz_log.specs.Same as own
use Rattle.nz_log.proofs.LiteralPreservation.{literal_at}
use Rattle.nz_log.proofs.LiteralSets.{lit_same, same_lit}
use Rattle.nz_log.proofs.Members.{each-at, each-without}
use Rattle.nz_log.proofs.NamedGates.{once_named, without_named}

-- ---- Twice negated

parts_back : (ps : List form.Part) → map negated_part (map negated_part ps) ≡ ps
parts_back [] = refl
parts_back (p ∷ ps) = λ i. record { coefficient = neg-back p.coefficient i; unit = p.unit } ∷ parts_back ps i

sign_back : (b : Bool) → not (not b) ≡ b
sign_back true = refl
sign_back false = refl

pub negated_twice : (l : Literal) → negation_of (negation_of l) ≡ l
negated_twice (term_literal t sign) = ap (term_literal t) (sign_back sign)
negated_twice (is_at_most ps b) = λ i. is_at_most (parts_back ps i) (neg-back b i)
negated_twice (is_below ps b) = λ i. is_below (parts_back ps i) (neg-back b i)

with_sign_turned : (sign : Bool) (l : Literal) → with_sign (not sign) l ≡ negation_of (with_sign sign l)
with_sign_turned true l = refl
with_sign_turned false l = sym (negated_twice l)

pub literal_turned : (ns : List Node) (atoms : List Atom) (l : Lit) → IsLitIn ns atoms l → literal_in ns atoms (negated_lit l) ≡ negation_of (literal_in ns atoms l)
literal_turned ns atoms l h =
    literal_at ns atoms (negated_lit l) h.atom h.at ∙ with_sign_turned l.sign (atom_in ns h.atom) ∙ ap negation_of (sym (literal_at ns atoms l h.atom h.at))

-- ---- What says the same

-- negations that are one are of one
negated_same : (k l : Literal) → negation_of k ≡ negation_of l → k ≡ l
negated_same k l e = sym (negated_twice k) ∙ ap negation_of e ∙ negated_twice l

sort_told : (s t : Sort) → sorts.sort_of s ≡ sorts.sort_of t → s ≡ t
sort_told s t e = own.same_sort s t (ap (λ (u : spec.Sort). are_same_sort (sorts.sort_of s) u) (sym e) ∙ own.sort_same s)

module _ (ns : List Node) (one : HasOneNumberEach ns) where
  same_parts : (ps qs : List Part) → AllByRecursion (NamesUnit ns) ps → AllByRecursion (NamesUnit ns) qs → parts_over ns ps ≡ parts_over ns qs → ps ≡ qs
  same_parts [] [] h k e = refl
  same_parts [] (q ∷ qs) h k e = cc
  same_parts (p ∷ ps) [] h k e = cc
  same_parts (p ∷ ps) (q ∷ qs) h k e =
      let P : form.Part = record { coefficient = p.coefficient; unit = term_in ns p.unit } in
      let Q : form.Part = record { coefficient = q.coefficient; unit = term_in ns q.unit } in
      let first : P ≡ Q = cc in
      let rest : parts_over ns ps ≡ parts_over ns qs = cc in
      let coefficient : p.coefficient ≡ q.coefficient = ap (λ (r : form.Part). r.coefficient) first in
      let term : term_in ns p.unit ≡ term_in ns q.unit = ap (λ (r : form.Part). r.unit) first in
      let unit : p.unit ≡ q.unit = one p.unit q.unit h.0.0 k.0.0 term in
      let sort : p.sort ≡ q.sort = sort_told p.sort q.sort (h.0.1 ∙ ap sort_of term ∙ sym k.0.1) in
      let here : p ≡ q = λ i. record { unit = unit i; sort = sort i; coefficient = coefficient i } in
      let others = same_parts ps qs h.1 k.1 rest in
      λ i. here i ∷ others i

  bound_is : (strict other : Bool) (numbered numbered' : Numbered) → strict ≡ other → numbered ≡ numbered'
      → (let b : Bound = record { sides = numbered; strict = strict } in b) ≡ record { sides = numbered'; strict = other }
  bound_is strict other numbered numbered' e f = λ i. record { sides = f i; strict = e i }

  same_bound : (b c : Bound) → b.strict ≡ false → c.strict ≡ false → AllByRecursion (NamesUnit ns) b.sides.parts → AllByRecursion (NamesUnit ns) c.sides.parts
      → is_at_most (parts_over ns b.sides.parts) b.sides.offset ≡ is_at_most (parts_over ns c.sides.parts) c.sides.offset → b ≡ c
  same_bound b c p q h k e =
      let units : parts_over ns b.sides.parts ≡ parts_over ns c.sides.parts = cc in
      let limit : b.sides.offset ≡ c.sides.offset = cc in
      let parts = same_parts b.sides.parts c.sides.parts h k units in
      let sides : b.sides ≡ c.sides = λ i. record { parts = parts i; offset = limit i } in
      bound_is b.strict c.strict b.sides c.sides (p ∙ sym q) sides

  -- a sum is at most its limit
  normal_in : (b : Bound) → b.strict ≡ false → atom_in ns (AtMost b) ≡ is_at_most (parts_over ns b.sides.parts) b.sides.offset
  normal_in b p = ap (λ (strict : Bool). bounded strict (parts_over ns b.sides.parts) b.sides.offset) p

  same_atom : (a b : Atom) → IsNormal a → IsNormal b → IsAtomIn ns a → IsAtomIn ns b → atom_in ns a ≡ atom_in ns b → a ≡ b
  same_atom (Term t) (Term u) p q h k e =
      let term : term_in ns t ≡ term_in ns u = cc in ap Term (one t u h k term)
  same_atom (Term t) (AtMost c) p q h k e =
      let both : term_literal (term_in ns t) true ≡ is_at_most (parts_over ns c.sides.parts) c.sides.offset = e ∙ normal_in c q in absurd cc
  same_atom (AtMost b) (Term u) p q h k e =
      let both : is_at_most (parts_over ns b.sides.parts) b.sides.offset ≡ term_literal (term_in ns u) true = sym (normal_in b p) ∙ e in absurd cc
  same_atom (AtMost b) (AtMost c) p q h k e =
      ap AtMost (same_bound b c p q h.names k.names (sym (normal_in b p) ∙ e ∙ normal_in c q))

  -- an atom isn't the negation of another
  not_other : (a b : Atom) → IsNormal a → IsNormal b → atom_in ns a ≡ negation_of (atom_in ns b) → ⊥
  not_other (Term t) (Term u) p q e = let both : term_literal (term_in ns t) true ≡ term_literal (term_in ns u) false = e in absurd cc
  not_other (Term t) (AtMost c) p q e =
      let both : term_literal (term_in ns t) true ≡ negation_of (is_at_most (parts_over ns c.sides.parts) c.sides.offset) = e ∙ ap negation_of (normal_in c q) in absurd cc
  not_other (AtMost b) (Term u) p q e =
      let both : is_at_most (parts_over ns b.sides.parts) b.sides.offset ≡ negation_of (term_literal (term_in ns u) true) = sym (normal_in b p) ∙ e in absurd cc
  not_other (AtMost b) (AtMost c) p q e =
      let both : is_at_most (parts_over ns b.sides.parts) b.sides.offset ≡ negation_of (is_at_most (parts_over ns c.sides.parts) c.sides.offset) =
      sym (normal_in b p) ∙ e ∙ ap negation_of (normal_in c q) in absurd cc

  signed_same : (r s : Bool) (a b : Atom) → IsNormal a → IsNormal b → IsAtomIn ns a → IsAtomIn ns b → with_sign r (atom_in ns a) ≡ with_sign s (atom_in ns b)
      → (a ≡ b) × (r ≡ s)
  signed_same true true a b p q h k e = (same_atom a b p q h k e, refl)
  signed_same true false a b p q h k e = absurd (not_other a b p q e)
  signed_same false true a b p q h k e = absurd (not_other b a q p (sym e))
  signed_same false false a b p q h k e = (same_atom a b p q h k (negated_same (atom_in ns a) (atom_in ns b) e), refl)

  module _ (tells : TellsLiterals) (atoms : List Atom) (are : AreAtoms atoms) where
    one_lit : (l m : Lit) → IsLitIn ns atoms l → IsLitIn ns atoms m → literal_in ns atoms l ≡ literal_in ns atoms m → l ≡ m
    one_lit l m h k e =
        let signed = signed_same l.sign m.sign h.atom k.atom (each-at IsNormal atoms l.atom h.atom are.normal h.at) (each-at IsNormal atoms m.atom k.atom are.normal k.at)
        h.within k.within (sym (literal_at ns atoms l h.atom h.at) ∙ e ∙ literal_at ns atoms m k.atom k.at) in
        let number : l.atom ≡ m.atom = are.once l.atom m.atom h.atom h.at (k.at ∙ ap Some (sym signed.0)) in
        λ i. record { atom = number i; sign = signed.1 i }

    pub agree : LiteralsAgree ns atoms
    agree l m h k =
        same_tests (are_same_literal (literal_in ns atoms l) (literal_in ns atoms m)) (are_same_lit l m)
        (λ e. ap (are_same_lit l) (sym (one_lit l m h k (tells.same (literal_in ns atoms l) (literal_in ns atoms m) e))) ∙ lit_same l)
        (λ e. ap (λ (n : Lit). are_same_literal (literal_in ns atoms l) (literal_in ns atoms n)) (sym (same_lit l m e)) ∙ tells.one (literal_in ns atoms l))

pub literals_agree : TellsLiterals → OneNumber → (ns : List Node) → IsTable ns → (atoms : List Atom) → AreAtoms atoms → LiteralsAgree ns atoms
literals_agree tells one ns table atoms are = agree ns (one ns table) tells atoms are

-- ---- Clauses

module _ (ns : List Node) (atoms : List Atom) (agree : LiteralsAgree ns atoms) where
  pub clause_named : (c : List Lit) → AreWithin ns atoms c → clause_in ns atoms (once are_same_lit c) ≡ clause_of (clause_in ns atoms c)
  clause_named c h = once_named (IsLitIn ns atoms) (literal_in ns atoms) are_same_lit are_same_literal agree c h

  pub resolvent_named : (l : Lit) (c d : List Lit) → IsLitIn ns atoms l → AreWithin ns atoms c → AreWithin ns atoms d
      → clause_in ns atoms (lit_resolvent l c d) ≡ resolvent (literal_in ns atoms l) (clause_in ns atoms c) (clause_in ns atoms d)
  resolvent_named l c d w h k =
      let P = IsLitIn ns atoms in
      let name = literal_in ns atoms in
      let front = without are_same_lit l c in
      let back = without are_same_lit (negated_lit l) d in
      let turned : IsLitIn ns atoms (negated_lit l) = record { atom = w.atom; at = w.at; within = w.within } in
      clause_named (front ++ back) (AllByRecursion-append P front back (each-without P are_same_lit l c h) (each-without P are_same_lit (negated_lit l) d k))
      ∙ ap clause_of
      (map-append name front back
      ∙ ap (λ xs. xs ++ clause_in ns atoms back) (without_named P name are_same_lit are_same_literal agree l c w h)
      ∙ ap (λ ys. without are_same_literal (name l) (clause_in ns atoms c) ++ ys)
      (without_named P name are_same_lit are_same_literal agree (negated_lit l) d turned k
      ∙ ap (λ (m : Literal). without are_same_literal m (clause_in ns atoms d)) (literal_turned ns atoms l w)))
