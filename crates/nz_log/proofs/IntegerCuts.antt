-- Cuts: the sum of multiples of literals, rounded, and the clause that it gives.
use Rattle.std.proofs.Common.{◌≡◌, Bool, List, [], ◌∷◌, ◌++◌, Option, Some, None, if◌then◌else◌, sym, ap, subst, ◌∙◌}
use Rattle.std.specs.Prelude.{IsTrue}
use Rattle.std.specs.List.{AllByRecursion, list_all}
use Rattle.std.proofs.lemmas.List.{map-append}
use Rattle.nz_lists.proofs.Elements.{AllByRecursion-append, AllByRecursion-put}
use Rattle.nz_fractions.specs.Fraction.{Fraction, first_wide}
use Rattle.nz_spec.specs.numbers.Computation.{Computation, and_then, at_once, turned_into}
use Rattle.nz_spec.specs.clauses.Cuts.{cut_clause, rounded_limit}
use Rattle.nz_spec.specs.clauses.Farkas as farkas
use Rattle.nz_spec.specs.clauses.Farkas.{is_multiple, negations_of, sum_of_multiples}
use Rattle.nz_spec.specs.terms.FormOf.{number_in}
use Rattle.nz_spec.specs.clauses.LinearLiteral.{HaveSortedUnits, are_integral, parts_of}
use Rattle.nz_spec.specs.clauses.Literal.{Literal, Clause, clause_of, is_at_most, once}
use Rattle.nz_spec.specs.clauses.Steps.{IsSortedStep, cut_step, step_taken, asserting}
use Rattle.nz_spec.specs.terms.Table.{Node}
use Rattle.nz_lin.specs.declared.bound.Bound.{Bound}
use Rattle.nz_term.specs.declared.stops.ArithmeticStop.{ArithmeticStop}
use Rattle.nz_lin.specs.Bounds.{bound_over, literal_over}
use Rattle.nz_lin.specs.Comes.{IsDone}
use Rattle.nz_lin.specs.Forms.{parts_over}
use Rattle.nz_term.specs.Stops.{IsStopAt}
use Rattle.nz_log.specs.declared.atoms.Atom.{Atom}
use Rattle.nz_log.specs.declared.lits.Lit.{Lit}
use Rattle.nz_log.specs.declared.multiples.LitMultiple.{LitMultiple}
use Rattle.nz_log.specs.Atoms.{AreWithin, IsLitIn, LiteralsAgree, Stay, clause_in, literal_in}
use Rattle.nz_log.specs.Axioms.{AreMultiplesIn, IsClauseOf, axiom_step, cut_of, first_wide_in_step, multiples_in, negated_lits}
use Rattle.nz_log.specs.Lits.{are_same_lit}
use Rattle.nz_log.proofs.LiteralAgreement.{clause_named}
use Rattle.nz_log.proofs.Axiomatic.{negations_named, negations_within}
use Rattle.nz_log.proofs.LiteralPreservation.{axiom_in_stays, multiples_stay, step_stays}
use Rattle.nz_fractions.proofs.FirstOperations.{first_wide-none}
use Rattle.nz_log.proofs.Operations.{stop_before, stop_behind}

-- ---- The computation

module _ (ns : List Node) (qs : List farkas.Multiple) (multiples : IsTrue (list_all is_multiple qs)) (integral : IsTrue (are_integral (sum_of_multiples (number_in ns) qs).result.parts)) where
  abbrev sum : Computation farkas.Bound
  sum = sum_of_multiples (number_in ns) qs

  abbrev rounded_clause : Fraction → Option Clause
  rounded_clause c = Some (clause_of (negations_of qs ++ is_at_most sum.result.parts c ∷ []))

  abbrev limit : Computation Fraction
  limit = rounded_limit sum.result

  abbrev cut_over : farkas.Bound → Computation (Option Clause)
  cut_over x = if are_integral x.parts then turned_into (λ c. Some (clause_of (negations_of qs ++ is_at_most x.parts c ∷ []))) (rounded_limit x) else at_once None

  cut_taken : cut_clause (number_in ns) qs ≡ and_then sum (λ x. turned_into rounded_clause limit)
  cut_taken =
      ap (λ (t : Bool). if t then and_then sum cut_over else at_once None) multiples
      ∙ ap (λ (t : Bool). and_then sum (λ x. if t then turned_into rounded_clause limit else at_once None)) integral

  pub cut_sum_stops : (s : ArithmeticStop) → IsStopAt (first_wide sum.operations) s → IsStopAt (first_wide_in_step ns (cut_step qs)) s
  cut_sum_stops s h = subst (λ (c : Computation (Option Clause)). IsStopAt (first_wide c.operations) s) (sym cut_taken) (stop_before sum.operations limit.operations s h)

  pub cut_limit_stops : (x : farkas.Bound) (s : ArithmeticStop) → IsDone sum x → IsStopAt (first_wide (rounded_limit x).operations) s → IsStopAt (first_wide_in_step ns (cut_step qs)) s
  cut_limit_stops x s done h =
      subst (λ (c : Computation (Option Clause)). IsStopAt (first_wide c.operations) s) (sym cut_taken)
      (stop_behind sum.operations limit.operations s done.fits (subst (λ (y : farkas.Bound). IsStopAt (first_wide (rounded_limit y).operations) s) done.result h))

  module _ (old new : List Atom) (stay : Stay old new) (ms : List LitMultiple) (is : multiples_in ns old ms ≡ qs) (inside : AreMultiplesIn ns old ms) (b r : Bound) (l : Fraction) (last : Lit)
      (summed : IsDone sum (bound_over ns b)) (rounded : IsDone (rounded_limit (bound_over ns b)) l) (made : literal_over ns r ≡ is_at_most (parts_over ns b.sides.parts) l)
      (says : literal_in ns new last ≡ literal_over ns r) (own : IsLitIn ns new last) where
    abbrev lits : List Lit
    lits = negated_lits ms ++ last ∷ []

    inside_new : AreMultiplesIn ns new ms
    inside_new = axiom_in_stays ns old new stay (cut_of ms) inside

    within : AreWithin ns new lits
    within = AllByRecursion-append (IsLitIn ns new) (negated_lits ms) (last ∷ []) (negations_within ns new ms inside_new) (own, tt)

    done : IsDone limit l
    done = subst (λ (x : farkas.Bound). IsDone (rounded_limit x) l) summed.result rounded

    last_says : literal_in ns new last ≡ is_at_most sum.result.parts limit.result
    last_says = says ∙ made ∙ (λ i. is_at_most (summed.result i).parts (done.result i))

    named : clause_in ns new lits ≡ negations_of qs ++ is_at_most sum.result.parts limit.result ∷ []
    named =
        map-append (literal_in ns new) (negated_lits ms) (last ∷ [])
        ∙ ap (λ (c : Clause). c ++ literal_in ns new last ∷ []) (negations_named ns new ms inside_new ∙ ap negations_of (multiples_stay ns old new stay ms inside ∙ is))
        ∙ ap (λ (m : Literal). negations_of qs ++ m ∷ []) last_says

    step : axiom_step ns new (cut_of ms) ≡ cut_step qs
    step = step_stays ns old new stay (cut_of ms) inside ∙ ap cut_step is

    pub cut_is : LiteralsAgree ns new → IsClauseOf ns new (cut_of ms) (once are_same_lit lits)
    cut_is agree =
        let taken : step_taken (number_in ns) (asserting []) [] (axiom_step ns new (cut_of ms)) ≡ and_then sum (λ x. turned_into rounded_clause limit) = ap (step_taken (number_in ns) (asserting []) []) step ∙ cut_taken in
        record {
          within = AllByRecursion-put (IsLitIn ns new) are_same_lit lits [] tt within;
          clause = ap (λ (c : Computation (Option Clause)). c.result) taken ∙ ap (λ c. Some (clause_of c)) (sym named) ∙ ap Some (sym (clause_named ns new agree lits within));
          fits = ap (λ (c : Computation (Option Clause)). first_wide c.operations) taken ∙ first_wide-none sum.operations limit.operations summed.fits ∙ done.fits;
        }

pub cut_within : (ns : List Node) (atoms : List Atom) (ms : List LitMultiple) (last : Lit) → AreMultiplesIn ns atoms ms → IsLitIn ns atoms last
    → AreWithin ns atoms (once are_same_lit (negated_lits ms ++ last ∷ []))
cut_within ns atoms ms last inside own =
    let lits = negated_lits ms ++ last ∷ [] in
    AllByRecursion-put (IsLitIn ns atoms) are_same_lit lits [] tt (AllByRecursion-append (IsLitIn ns atoms) (negated_lits ms) (last ∷ []) (negations_within ns atoms ms inside) (own, tt))

-- ---- The sorts of the units

sorted_multiples : (ns : List Node) (atoms : List Atom) (ms : List LitMultiple) → AllByRecursion (λ (m : LitMultiple). HaveSortedUnits (parts_of (literal_in ns atoms m.literal))) ms
    → AllByRecursion (λ (m : farkas.Multiple). HaveSortedUnits (parts_of m.literal)) (multiples_in ns atoms ms)
sorted_multiples ns atoms [] h = tt
sorted_multiples ns atoms (m ∷ ms) h = (h.0, sorted_multiples ns atoms ms h.1)

pub cut_sorted : (ns : List Node) (old new : List Atom) → Stay old new → (ms : List LitMultiple) → AreMultiplesIn ns old ms
    → AllByRecursion (λ (m : LitMultiple). HaveSortedUnits (parts_of (literal_in ns old m.literal))) ms → IsSortedStep (axiom_step ns new (cut_of ms))
cut_sorted ns old new stay ms inside h = subst IsSortedStep (sym (step_stays ns old new stay (cut_of ms) inside)) (sorted_multiples ns old ms h)

-- atoms that stayed are those that are there
pub joined_stay : (old mid new : List Atom) → Stay old mid → mid ≡ new → Stay old new
joined_stay old mid new stay same = subst (Stay old) same stay
