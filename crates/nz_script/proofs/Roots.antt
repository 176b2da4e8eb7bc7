-- What is written is no parameter, or one that fits.
use Rattle.std.proofs.Common.{Bool, true, false, List, Option, Some, None, subst, if◌then◌else◌}
use Rattle.std.specs.Prelude.{option_map}
use Rattle.nz_lists.proofs.Options.{IfFound, map_found, if_found}
use Rattle.nz_spec.specs.terms.Term.{Sort, int_sort, parameter, to_real, Term, apply, Terms, no_terms, terms}
use Rattle.nz_spec.specs.terms.Operators.{Operator, true_operator, false_operator, not_operator, and_operator, or_operator, implies_operator, xor_operator, equals_operator, distinct_operator, ite_operator, at_most_operator, less_operator, at_least_operator, greater_operator, plus_operator, times_operator, minus_operator, over_operator, div_operator, mod_operator, abs_operator, to_real_operator, to_int_operator, is_int_operator, has_sort, as_real, takes, term_count, operands_of, operand_sort, read_at, operator_head, applied}
use Rattle.nz_spec.specs.terms.Definitions.{Definition, instance_of, instances_of, all_placed, RootFits, expansion}
use Rattle.nz_script.specs.commands.Elaboration.{Scope, ScopeFits, TermFits}
use Rattle.nz_spec.specs.terms.WellSorted.{SortsTell}
use Rattle.nz_script.proofs.Placed.{HaveSorts, AllAre, ArePlaced, are_placed, at_place}
use Rattle.nz_script.proofs.WrittenTerms.{IsConstant, are_constants, StaysSo, IsScope, term_found}

abbrev HasRoot : Definition → Type 0
HasRoot d = RootFits d.parameters d.body

module _ (told : SortsTell) (ss : List Sort) where
  real_if : (b : Bool) (t : Term) → RootFits ss t → RootFits ss (if b then apply to_real (terms t no_terms) else t)
  real_if true t h = tt
  real_if false t h = h

  real_fits : (t : Term) → RootFits ss t → RootFits ss (as_real t)
  real_fits t h = real_if (has_sort int_sort t) t h

  -- no operator is a parameter
  operator_fits : (o : Operator) (s : Sort) (us : Terms) → RootFits ss (apply (operator_head o s) us)
  operator_fits true_operator s us = tt
  operator_fits false_operator s us = tt
  operator_fits not_operator s us = tt
  operator_fits and_operator s us = tt
  operator_fits or_operator s us = tt
  operator_fits implies_operator s us = tt
  operator_fits xor_operator s us = tt
  operator_fits equals_operator s us = tt
  operator_fits distinct_operator s us = tt
  operator_fits ite_operator s us = tt
  operator_fits at_most_operator s us = tt
  operator_fits less_operator s us = tt
  operator_fits at_least_operator s us = tt
  operator_fits greater_operator s us = tt
  operator_fits plus_operator s us = tt
  operator_fits times_operator s us = tt
  operator_fits minus_operator s us = tt
  operator_fits over_operator s us = tt
  operator_fits div_operator s us = tt
  operator_fits mod_operator s us = tt
  operator_fits abs_operator s us = tt
  operator_fits to_real_operator s us = tt
  operator_fits to_int_operator s us = tt
  operator_fits is_int_operator s us = tt

  operators_at : (o : Operator) (ts : Terms) (m : Option Sort) → IfFound (RootFits ss) (option_map (λ s. apply (operator_head o s) (read_at s ts)) m)
  operators_at o ts None = tt
  operators_at o ts (Some s) = operator_fits o s (read_at s ts)

  operators : (o : Operator) (ts : Terms) → AllAre (RootFits ss) ts → IfFound (RootFits ss) (applied o ts)
  operators o ts h =
      if_found (RootFits ss) (takes o (term_count ts)) (option_map (λ s. apply (operator_head o s) (read_at s ts)) (operand_sort (operands_of o) ts)) None
      (operators_at o ts (operand_sort (operands_of o) ts)) tt

  instance_fits : (rs : List Sort) (us : Terms) → HaveSorts rs us → AllAre (RootFits ss) us → (t : Term) → RootFits rs t → RootFits ss (instance_of us t)
  instance_fits rs us m g (apply (parameter i s) ts) k = (at_place (RootFits ss) rs us i s m g k (parameter i s) (instances_of us ts)).0
  instance_fits rs us m g (apply h ts) k = tt

  uses : (d : Definition) (ts : Terms) → HasRoot d → AllAre (RootFits ss) ts → IfFound (RootFits ss) (expansion d ts)
  uses d ts k h =
      map_found (ArePlaced (RootFits ss) d.parameters) (RootFits ss) (λ us. instance_of us d.body) (all_placed d.parameters ts)
      (λ us p. instance_fits d.parameters us p.1 p.0 d.body k) (are_placed (RootFits ss) told real_fits d.parameters ts h)

  stays_fitting : StaysSo (RootFits ss) IsConstant HasRoot
  stays_fitting = record { numerals = λ n. tt; decimals = λ n places. tt; constants = λ c i. tt; operators = operators; uses = uses }

  scope_fits : (sc : Scope) → ScopeFits ss sc → IsScope (RootFits ss) IsConstant HasRoot sc
  scope_fits sc h = record { constants = are_constants sc.constants; definitions = h.definitions; bound = h.bound }

pub terms_fit : SortsTell → TermFits
terms_fit told ss sc h t u e = subst (IfFound (RootFits ss)) e (term_found (RootFits ss) IsConstant HasRoot (stays_fitting told ss) sc t (scope_fits told ss sc h))
