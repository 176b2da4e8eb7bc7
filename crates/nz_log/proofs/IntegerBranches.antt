-- Branches on sums of integers: what the two literals say, and the clause that they are.
use Rattle.std.proofs.Common.{◌≡◌, ◌&&◌, Bool, true, false, List, [], ◌∷◌, map, Option, Some, None, Ok, if◌then◌else◌, refl, sym, ap, subst, ◌∙◌}
use Rattle.std.specs.Prelude.{IsTrue, slice_get}
use Rattle.nz_lists.proofs.Elements.{AllByRecursion-put}
use Rattle.nz_fractions.specs.Fraction.{Fraction, first_wide}
use Rattle.nz_spec.specs.numbers.Computation.{Computation, at_once, turned_into}
use Rattle.nz_spec.specs.clauses.Cuts.{branch_clause}
use Rattle.nz_spec.specs.clauses.Farkas.{bound_of}
use Rattle.nz_spec.specs.terms.Form as form
use Rattle.nz_spec.specs.terms.Form.{negated_part}
use Rattle.nz_spec.specs.terms.FormOf.{number_in}
use Rattle.nz_spec.specs.clauses.LinearLiteral.{HaveSortedUnits, are_integral, is_whole, parts_of}
use Rattle.nz_spec.specs.clauses.Literal.{Literal, Clause, clause_of, is_at_most, is_below, negation_of, once, term_literal}
use Rattle.nz_spec.specs.clauses.Steps.{IsSortedStep, branch_step, step_taken, asserting}
use Rattle.nz_spec.specs.terms.Table.{Node, term_in}
use Rattle.nz_lin.specs.declared.bound.Bound.{Bound}
use Rattle.nz_term.specs.declared.stops.ArithmeticStop.{ArithmeticStop}
use Rattle.nz_lin.specs.Bounds.{HasUnits, IsLiteral, bounded, literal_over}
use Rattle.nz_lin.specs.Comes.{IsDone}
use Rattle.nz_lin.specs.Forms.{parts_over}
use Rattle.nz_term.specs.Stops.{IsStopAt}
use Rattle.nz_log.specs.declared.atoms.Atom.{Atom}
use Rattle.nz_log.specs.declared.lits.Lit.{Lit}
use Rattle.nz_log.specs.Atoms.{AreWithin, IsLitIn, LiteralsAgree, Stay, atom_in, literal_in, with_sign}
use Rattle.nz_log.specs.Axioms.{IsClauseOf, above_literal, axiom_step, branch_of, first_wide_in_step, next_limit}
use Rattle.nz_log.specs.Lits.{are_same_lit}
use Rattle.nz_log.proofs.LiteralAgreement.{clause_named}
use Rattle.nz_log.proofs.LiteralPreservation.{lit_stays, literal_at}
use Rattle.nz_log.proofs.MultipleSums.{bound_said}

-- ---- The negation of a bound, with another limit

bounded_parts : (s : Bool) (ps : List form.Part) (q : Fraction) → parts_of (bounded s ps q) ≡ ps
bounded_parts true ps q = refl
bounded_parts false ps q = refl

negated_parts : (s : Bool) (ps : List form.Part) (q : Fraction) → parts_of (negation_of (bounded s ps q)) ≡ map negated_part ps
negated_parts true ps q = refl
negated_parts false ps q = refl

pub above_done : (ns : List Node) (b o r : Bound) (k l : Fraction) → literal_over ns o ≡ negation_of (literal_over ns b) → literal_over ns r ≡ is_at_most (parts_over ns o.sides.parts) l
    → k ≡ b.sides.offset → IsDone (next_limit k) l → IsDone (above_literal ns b) (literal_over ns r)
above_done ns b o r k l turned is read done =
    let ps = parts_over ns b.sides.parts in
    let qs = parts_over ns o.sides.parts in
    let here = subst (λ (q : Fraction). IsDone (next_limit q) l) read done in
    let parts = sym (bounded_parts o.strict qs o.sides.offset) ∙ ap parts_of turned ∙ negated_parts b.strict ps b.sides.offset in
    record {
      result = is ∙ ap (λ us. is_at_most us l) parts ∙ ap (λ (c : Fraction). is_at_most (map negated_part ps) c) here.result;
      fits = here.fits;
    }

-- ---- Literals of bounds keep their atoms

at_bound : (ns : List Node) (o : Option Atom) (sign s : Bool) (ps : List form.Part) (q : Fraction)
    → (let l : Literal = elim o [ None ↦ term_literal (term_in ns 0) sign | Some a ↦ with_sign sign (atom_in ns a) ] in l) ≡ bounded s ps q → (a : Atom) × (o ≡ Some a)
at_bound ns (Some a) sign s ps q e = (a, refl)
at_bound ns None sign true ps q e = let both : term_literal (term_in ns 0) sign ≡ is_below ps q = e in absurd cc
at_bound ns None sign false ps q e = let both : term_literal (term_in ns 0) sign ≡ is_at_most ps q = e in absurd cc

bound_kept : (ns : List Node) (old new : List Atom) → Stay old new → (l : Lit) (b : Bound) → literal_in ns old l ≡ literal_over ns b → literal_in ns new l ≡ literal_over ns b
bound_kept ns old new stay l b e =
    let there = at_bound ns (slice_get old l.atom) l.sign b.strict (parts_over ns b.sides.parts) b.sides.offset e in
    literal_at ns new l there.0 (stay l.atom there.0 there.1) ∙ sym (literal_at ns old l there.0 there.1) ∙ e

-- ---- The clause

module _ (ps : List form.Part) (k : Fraction) (integral : IsTrue (are_integral ps)) (whole_ : IsTrue (is_whole k)) where
  abbrev two_sided : Fraction → Option Clause
  two_sided c = Some (clause_of (is_at_most ps k ∷ is_at_most (map negated_part ps) c ∷ []))

  branch_taken : branch_clause ps k ≡ turned_into two_sided (next_limit k)
  branch_taken =
      ap (λ (t : Bool). if t then turned_into two_sided (next_limit k) else at_once None) (ap (λ (t : Bool). t && is_whole k) integral ∙ whole_)

  pub branch_stops : (ns : List Node) (s : ArithmeticStop) → IsStopAt (first_wide (next_limit k).operations) s → IsStopAt (first_wide_in_step ns (branch_step ps k)) s
  branch_stops ns s h = subst (λ (c : Computation (Option Clause)). IsStopAt (first_wide c.operations) s) (sym branch_taken) h

  branch_is : (ns : List Node) (atoms : List Atom) → LiteralsAgree ns atoms → (b r : Bound) (first second : Lit) → parts_over ns b.sides.parts ≡ ps → b.sides.offset ≡ k → b.strict ≡ false
      → literal_in ns atoms first ≡ literal_over ns b → literal_in ns atoms second ≡ literal_over ns r → IsDone (above_literal ns b) (literal_over ns r)
      → IsLitIn ns atoms first → IsLitIn ns atoms second → IsClauseOf ns atoms (branch_of first) (once are_same_lit (first ∷ second ∷ []))
  branch_is ns atoms agree b r first second parts limit normal one two done own other =
      let lits : List Lit = first ∷ second ∷ [] in
      let step : axiom_step ns atoms (branch_of first) ≡ branch_step ps k =
      ap (λ l. branch_step (bound_of l).parts (bound_of l).limit) one ∙ ap (λ x. branch_step x.parts x.limit) (bound_said ns b) ∙ (λ i. branch_step (parts i) (limit i)) in
      let taken : step_taken (number_in ns) (asserting []) [] (axiom_step ns atoms (branch_of first)) ≡ turned_into two_sided (next_limit k) =
      ap (step_taken (number_in ns) (asserting []) []) step ∙ branch_taken in
      let at_most : literal_in ns atoms first ≡ is_at_most ps k =
      one ∙ ap (λ (s : Bool). bounded s (parts_over ns b.sides.parts) b.sides.offset) normal ∙ (λ i. is_at_most (parts i) (limit i)) in
      let above_ : literal_in ns atoms second ≡ is_at_most (map negated_part ps) (next_limit k).result =
      two ∙ done.result ∙ (λ i. is_at_most (map negated_part (parts i)) (next_limit (limit i)).result) in
      let within : AreWithin ns atoms lits = (own, (other, tt)) in
      record {
        within = AllByRecursion-put (IsLitIn ns atoms) are_same_lit lits [] tt within;
        clause = ap (λ (c : Computation (Option Clause)). c.result) taken ∙ ap Some (λ i. clause_of (sym at_most i ∷ sym above_ i ∷ [])) ∙ ap Some (sym (clause_named ns atoms agree lits within));
        fits = ap (λ (c : Computation (Option Clause)). first_wide c.operations) taken ∙ sym (ap (λ (q : Fraction). first_wide (next_limit q).operations) limit) ∙ done.fits;
      }

-- ---- The two literals, one after another

module _ (m1 m2 : List Atom) (stay : Stay m1 m2) (b r : Bound) (first second : Lit) (one : (ns : List Node) → literal_in ns m1 first ≡ literal_over ns b)
    (one_in : (ns : List Node) → HasUnits ns b → IsLitIn ns m1 first) (two : (ns : List Node) → literal_in ns m2 second ≡ literal_over ns r)
    (two_in : (ns : List Node) → HasUnits ns r → IsLitIn ns m2 second) (next : (ns : List Node) → HasUnits ns b → IsLiteral ns (above_literal ns b) (Ok r)) where
  pub first_says : (ns : List Node) → literal_in ns m2 first ≡ literal_over ns b
  first_says ns = bound_kept ns m1 m2 stay first b (one ns)

  pub first_in : (ns : List Node) → HasUnits ns b → IsLitIn ns m2 first
  first_in ns units = lit_stays ns m1 m2 stay first (one_in ns units)

  second_in : (ns : List Node) → HasUnits ns b → IsLitIn ns m2 second
  second_in ns units = two_in ns (next ns units).1

  abbrev pub two_lits : List Lit
  two_lits = once are_same_lit (first ∷ second ∷ [])

  pub both_in : (ns : List Node) → HasUnits ns b → AreWithin ns m2 two_lits
  both_in ns units = AllByRecursion-put (IsLitIn ns m2) are_same_lit (first ∷ second ∷ []) [] tt (first_in ns units, (second_in ns units, tt))

  pub branch_over : b.strict ≡ false → ((ns : List Node) → HasUnits ns b → IsTrue (are_integral (parts_over ns b.sides.parts))) → IsTrue (is_whole b.sides.offset)
      → (ns : List Node) → LiteralsAgree ns m2 → HasUnits ns b → IsClauseOf ns m2 (branch_of first) two_lits
  branch_over normal integral whole_ ns agree units =
      branch_is (parts_over ns b.sides.parts) b.sides.offset (integral ns units) whole_ ns m2 agree b r first second refl refl normal (first_says ns) (two ns) (next ns units).0
      (first_in ns units) (second_in ns units)

  -- the step is in order where the units have values of their sorts
  pub branch_sorted : (ns : List Node) → HaveSortedUnits (parts_over ns b.sides.parts) → IsSortedStep (axiom_step ns m2 (branch_of first))
  branch_sorted ns sorted =
      subst IsSortedStep (sym (ap (λ l. branch_step (bound_of l).parts (bound_of l).limit) (first_says ns) ∙ ap (λ x. branch_step x.parts x.limit) (bound_said ns b))) sorted
