-- Atoms that say the same, in whatever order their units stand, are one: over a table units stand in the order of their numbers. And none says what the
-- negation of one does.
use Rattle.std.proofs.Common.{◌≡◌, ◌<◌, Bool, true, false, true≢false, List, [], ◌∷◌, ◌++◌, map, length, refl, arith}
use Rattle.std.specs.Prelude.{Contains, ⊤}
use Rattle.std.specs.List.{AllByRecursion}
use Rattle.std.proofs.lemmas.List.Elements.{Contains-append_left, Contains-append_right}
use Rattle.nz_lists.proofs.Members.{has_first, has_more}
use Rattle.nz_fractions.specs.Fraction.{Fraction}
use Rattle.nz_spec.specs.clauses.Literal.{Literal, term_literal, is_at_most, is_below, negation_of, SayTheSame}
use Rattle.nz_spec.specs.laws.Renumbering.{IsOrdered, SumsRenumber}
use Rattle.nz_spec.specs.terms.Form as spec
use Rattle.nz_spec.specs.terms.Form.{AreSameSum, as_written, reordered}
use Rattle.nz_spec.specs.terms.FormOf.{TermHasItsNumber, number_in}
use Rattle.nz_spec.specs.terms.Table.{Node, IsTable, term_in}
use Rattle.nz_spec.specs.terms.Term.{Term}
use Rattle.nz_lin.specs.declared.form.Part.{Part}
use Rattle.nz_lin.specs.Bounds.{bounded}
use Rattle.nz_lin.specs.Forms.{AreInOrder, AreUnits, NamesUnit, parts_over}
use Rattle.nz_log.specs.declared.atoms.Atom as log
use Rattle.nz_log.specs.declared.atoms.Atom.TheVariants as atoms
use Rattle.nz_log.specs.Atoms.{IsAtomIn, atom_in}

-- a literal says what it says
pub says_itself : (l : Literal) → SayTheSame l l
says_itself (term_literal t sign) = (refl, refl)
says_itself (is_at_most ps b) = (as_written refl, refl)
says_itself (is_below ps b) = (as_written refl, refl)

-- ---- Literals of atoms

abbrev pub IsPositive : Literal → Type 0
IsPositive (term_literal t true) = ⊤
IsPositive (term_literal t false) = ⊥
IsPositive (is_at_most ps b) = ⊤
IsPositive (is_below ps b) = ⊥

pub negated : (l : Literal) → IsPositive l → IsPositive (negation_of l) → ⊥
negated (term_literal t true) h k = absurd k
negated (term_literal t false) h k = absurd h
negated (is_at_most ps b) h k = absurd k
negated (is_below ps b) h k = absurd h

pub positive_said : (l m : Literal) → SayTheSame l m → IsPositive l → IsPositive m
positive_said (term_literal t true) (term_literal u true) same h = tt
positive_said (term_literal t true) (term_literal u false) same h = absurd (true≢false same.1)
positive_said (term_literal t true) (is_at_most qs c) same h = absurd same
positive_said (term_literal t true) (is_below qs c) same h = absurd same
positive_said (term_literal t false) m same h = absurd h
positive_said (is_at_most ps b) (term_literal u sign) same h = absurd same
positive_said (is_at_most ps b) (is_at_most qs c) same h = tt
positive_said (is_at_most ps b) (is_below qs c) same h = absurd same
positive_said (is_below ps b) m same h = absurd h

-- ---- Sums over a table

module _ (sums : SumsRenumber) (numbers : TermHasItsNumber) (ns : List Node) (table : IsTable ns) where
  abbrev units_of : List Part → List Term
  units_of ps = map (λ (p : spec.Part). p.unit) (parts_over ns ps)

  above : (p : Part) (ps : List Part) → p.unit < length ns → AllByRecursion (NamesUnit ns) ps → AllByRecursion (λ (q : Part). p.unit < q.unit) ps
      → AllByRecursion (λ (q : spec.Part). number_in ns (term_in ns p.unit) < number_in ns q.unit) (parts_over ns ps)
  above p [] below names less = tt
  above p (q ∷ qs) below names less =
      (omega (arith, numbers ns table p.unit below, numbers ns table q.unit names.0.0, less.0), above p qs below names.1 less.1)

  ordered : (us : List Term) (ps : List Part) → AllByRecursion (NamesUnit ns) ps → AreInOrder ps → ((u : Term) → Contains (units_of ps) u → Contains us u) → IsOrdered (number_in ns) us (parts_over ns ps)
  ordered us [] names order among = tt
  ordered us (p ∷ ps) names order among = (
    among (term_in ns p.unit) (has_first (term_in ns p.unit) (units_of ps)),
    above p ps names.0.0 names.1 order.0,
    ordered us ps names.1 order.1 (λ u has. among u (has_more (term_in ns p.unit) u (units_of ps) has)),
  )

  one_sum : (ps qs : List Part) → AreUnits ns ps → AreUnits ns qs → AreSameSum (parts_over ns ps) (parts_over ns qs) → parts_over ns ps ≡ parts_over ns qs
  one_sum ps qs h k (as_written is) = is
  one_sum ps qs h k (reordered r) =
      let us = units_of ps ++ units_of qs in
      sums.one (number_in ns) us (parts_over ns ps) (parts_over ns qs) (ordered us ps h.names h.in_order (λ u has. Contains-append_left (units_of ps) (units_of qs) u has))
      (ordered us qs k.names k.in_order (λ u has. Contains-append_right (units_of ps) (units_of qs) u has)) r.alike

  one_bound : (s t : Bool) (ps qs : List spec.Part) (b c : Fraction) → (AreSameSum ps qs → ps ≡ qs) → SayTheSame (bounded s ps b) (bounded t qs c) → bounded s ps b ≡ bounded t qs c
  one_bound true true ps qs b c one h = let is = one h.0 in let same = h.1 in λ i. is_below (is i) (same i)
  one_bound true false ps qs b c one h = absurd h
  one_bound false true ps qs b c one h = absurd h
  one_bound false false ps qs b c one h = let is = one h.0 in let same = h.1 in λ i. is_at_most (is i) (same i)

  no_bound : (t : Term) (s : Bool) (ps : List spec.Part) (b : Fraction) → SayTheSame (term_literal t true) (bounded s ps b) → ⊥
  no_bound t true ps b h = h
  no_bound t false ps b h = h

  no_term : (t : Term) (s : Bool) (ps : List spec.Part) (b : Fraction) → SayTheSame (bounded s ps b) (term_literal t true) → ⊥
  no_term t true ps b h = h
  no_term t false ps b h = h

  pub same_atoms : (a b : log.Atom) → IsAtomIn ns a → IsAtomIn ns b → SayTheSame (atom_in ns a) (atom_in ns b) → atom_in ns a ≡ atom_in ns b
  same_atoms (atoms.Term t) (atoms.Term u) h k same = let is = same.0 in λ i. term_literal (is i) true
  same_atoms (atoms.Term t) (atoms.AtMost c) h k same = absurd (no_bound (term_in ns t) c.strict (parts_over ns c.sides.parts) c.sides.offset same)
  same_atoms (atoms.AtMost b) (atoms.Term u) h k same = absurd (no_term (term_in ns u) b.strict (parts_over ns b.sides.parts) b.sides.offset same)
  same_atoms (atoms.AtMost b) (atoms.AtMost c) h k same =
      one_bound b.strict c.strict (parts_over ns b.sides.parts) (parts_over ns c.sides.parts) b.sides.offset c.sides.offset (one_sum b.sides.parts c.sides.parts h k) same
