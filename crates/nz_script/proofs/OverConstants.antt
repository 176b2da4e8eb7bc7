-- Terms over constants: more constants serve as well, and what is written is over those in scope.
use Rattle.std.proofs.Common.{ℕ, zero, suc, ◌<◌, Bool, true, false, List, [], ◌∷◌, length, Option, Some, None, refl, if◌then◌else◌, arith}
use Rattle.std.specs.Prelude.{Contains, option_map}
use Rattle.std.specs.List.{AllByRecursion}
use Rattle.std.proofs.lemmas.List.Elements.{Contains-append_right}
use Rattle.nz_lists.proofs.Options.{IfFound, map_found, if_found}
use Rattle.nz_script.specs.commands.Expression.{Expression}
use Rattle.nz_spec.specs.terms.Term.{Constant, Sort, bool_sort, int_sort, real_sort, Head, constant, parameter, integer, decimal_number, verum, falsum, negation, conjunction, disjunction, implication, exclusion, equality, distinction, choice, less, at_most, greater, at_least, sum, difference, product, quotient, integer_quotient, modulus, magnitude, to_real, to_int, is_int, Term, apply, Terms, no_terms, terms}
use Rattle.nz_spec.specs.terms.Operators.{Operator, true_operator, false_operator, not_operator, and_operator, or_operator, implies_operator, xor_operator, equals_operator, distinct_operator, ite_operator, at_most_operator, less_operator, at_least_operator, greater_operator, plus_operator, times_operator, minus_operator, over_operator, div_operator, mod_operator, abs_operator, to_real_operator, to_int_operator, is_int_operator, has_sort, as_real, as_reals, takes, term_count, operands_of, operand_sort, read_at, operator_head, applied}
use Rattle.nz_spec.specs.terms.Definitions.{Definition, term_at, instance_node, instance_of, instances_of, all_placed, expansion}
use Rattle.nz_script.specs.commands.Elaboration.{term_of}
use Rattle.nz_spec.specs.terms.OverConstants.{IsHeadOver, IsOver, AreOver}
use Rattle.nz_spec.specs.terms.WellSorted.{SortsTell}
use Rattle.nz_script.proofs.Placed.{AllAre, ArePlaced, are_placed}
use Rattle.nz_script.proofs.WrittenTerms.{AreBound, StaysSo, term_found}

-- ---- More constants

-- each constant of the first list is one of the second
abbrev pub AreAmong : List Constant → List Constant → Type 0
AreAmong cs ds = (c : Constant) → Contains cs c → Contains ds c

head_weaker : (cs ds : List Constant) → AreAmong cs ds → (h : Head) → IsHeadOver cs h → IsHeadOver ds h
head_weaker cs ds among (constant c) over = among c over
head_weaker cs ds among (parameter i s) over = tt
head_weaker cs ds among (integer n) over = tt
head_weaker cs ds among (decimal_number n places) over = tt
head_weaker cs ds among verum over = tt
head_weaker cs ds among falsum over = tt
head_weaker cs ds among negation over = tt
head_weaker cs ds among conjunction over = tt
head_weaker cs ds among disjunction over = tt
head_weaker cs ds among implication over = tt
head_weaker cs ds among exclusion over = tt
head_weaker cs ds among equality over = tt
head_weaker cs ds among distinction over = tt
head_weaker cs ds among (choice s) over = tt
head_weaker cs ds among less over = tt
head_weaker cs ds among at_most over = tt
head_weaker cs ds among greater over = tt
head_weaker cs ds among at_least over = tt
head_weaker cs ds among (sum s) over = tt
head_weaker cs ds among (difference s) over = tt
head_weaker cs ds among (product s) over = tt
head_weaker cs ds among quotient over = tt
head_weaker cs ds among integer_quotient over = tt
head_weaker cs ds among modulus over = tt
head_weaker cs ds among magnitude over = tt
head_weaker cs ds among to_real over = tt
head_weaker cs ds among to_int over = tt
head_weaker cs ds among is_int over = tt

mutual
  pub over_weaker : (cs ds : List Constant) → AreAmong cs ds → (t : Term) → IsOver cs t → IsOver ds t
  over_weaker cs ds among (apply h ts) over = (head_weaker cs ds among h over.0, all_weaker cs ds among ts over.1)

  all_weaker : (cs ds : List Constant) → AreAmong cs ds → (ts : Terms) → AreOver cs ts → AreOver ds ts
  all_weaker cs ds among no_terms over = tt
  all_weaker cs ds among (terms t ts) over = (over_weaker cs ds among t over.0, all_weaker cs ds among ts over.1)

-- ---- What is written

each_later : (x : Constant) (xs ys : List Constant) → AllByRecursion (Contains xs) ys → AllByRecursion (Contains (x ∷ xs)) ys
each_later x xs [] h = tt
each_later x xs (y ∷ ys) h = (Contains-append_right (x ∷ []) xs y h.0, each_later x xs ys h.1)

each_in_list : (xs : List Constant) → AllByRecursion (Contains xs) xs
each_in_list [] = tt
each_in_list (x ∷ xs) =
    let first : 0 < length (x ∷ xs) = omega arith in
    ((0, first, refl), each_later x xs xs (each_in_list xs))

module _ (told : SortsTell) (cs : List Constant) where
  -- a definition whose body is over these constants
  abbrev pub IsBodyOver : Definition → Type 0
  IsBodyOver d = IsOver cs d.body

  are_over : (ts : Terms) → AllAre (IsOver cs) ts → AreOver cs ts
  are_over no_terms h = tt
  are_over (terms t ts) h = (h.0, are_over ts h.1)

  real_if : (b : Bool) (t : Term) → IsOver cs t → IsOver cs (if b then apply to_real (terms t no_terms) else t)
  real_if true t h = (tt, (h, tt))
  real_if false t h = h

  real_over : (t : Term) → IsOver cs t → IsOver cs (as_real t)
  real_over t h = real_if (has_sort int_sort t) t h

  reals_over : (ts : Terms) → AreOver cs ts → AreOver cs (as_reals ts)
  reals_over no_terms h = tt
  reals_over (terms t ts) h = (real_over t h.0, reals_over ts h.1)

  read_over : (s : Sort) (ts : Terms) → AreOver cs ts → AreOver cs (read_at s ts)
  read_over bool_sort ts h = h
  read_over int_sort ts h = h
  read_over real_sort ts h = reals_over ts h

  -- no operator is a constant
  operator_over : (o : Operator) (s : Sort) → IsHeadOver cs (operator_head o s)
  operator_over true_operator s = tt
  operator_over false_operator s = tt
  operator_over not_operator s = tt
  operator_over and_operator s = tt
  operator_over or_operator s = tt
  operator_over implies_operator s = tt
  operator_over xor_operator s = tt
  operator_over equals_operator s = tt
  operator_over distinct_operator s = tt
  operator_over ite_operator s = tt
  operator_over at_most_operator s = tt
  operator_over less_operator s = tt
  operator_over at_least_operator s = tt
  operator_over greater_operator s = tt
  operator_over plus_operator s = tt
  operator_over times_operator s = tt
  operator_over minus_operator s = tt
  operator_over over_operator s = tt
  operator_over div_operator s = tt
  operator_over mod_operator s = tt
  operator_over abs_operator s = tt
  operator_over to_real_operator s = tt
  operator_over to_int_operator s = tt
  operator_over is_int_operator s = tt

  operators_at : (o : Operator) (ts : Terms) (m : Option Sort) → AreOver cs ts → IfFound (IsOver cs) (option_map (λ s. apply (operator_head o s) (read_at s ts)) m)
  operators_at o ts None h = tt
  operators_at o ts (Some s) h = (operator_over o s, read_over s ts h)

  operators : (o : Operator) (ts : Terms) → AllAre (IsOver cs) ts → IfFound (IsOver cs) (applied o ts)
  operators o ts h =
      if_found (IsOver cs) (takes o (term_count ts)) (option_map (λ s. apply (operator_head o s) (read_at s ts)) (operand_sort (operands_of o) ts)) None
      (operators_at o ts (operand_sort (operands_of o) ts) (are_over ts h)) tt

  placed_over : (us : Terms) (i : ℕ) (s : Sort) (ts : Terms) → AllAre (IsOver cs) us → AreOver cs ts → IsOver cs (elim (term_at us i) [ Some t ↦ t | None ↦ apply (parameter i s) ts ])
  placed_over us i s ts h k = at us i (parameter i s) tt h
    where
      at : (vs : Terms) (j : ℕ) (p : Head) → IsHeadOver cs p → AllAre (IsOver cs) vs → IsOver cs (elim (term_at vs j) [ Some t ↦ t | None ↦ apply p ts ])
      at no_terms j p o g = (o, k)
      at (terms v vs) zero p o g = g.0
      at (terms v vs) (suc j) p o g = at vs j p o g.1

  node_over : (us : Terms) → AllAre (IsOver cs) us → (h : Head) → IsHeadOver cs h → (ts : Terms) → AreOver cs ts → IsOver cs (instance_node us h ts)
  node_over us g (parameter i s) o ts k = placed_over us i s ts g k
  node_over us g h o ts k = (o, k)

  mutual
    instance_over : (us : Terms) → AllAre (IsOver cs) us → (t : Term) → IsOver cs t → IsOver cs (instance_of us t)
    instance_over us g (apply h ts) k = node_over us g h k.0 (instances_of us ts) (instances_over us g ts k.1)

    instances_over : (us : Terms) → AllAre (IsOver cs) us → (ts : Terms) → AreOver cs ts → AreOver cs (instances_of us ts)
    instances_over us g no_terms k = tt
    instances_over us g (terms t ts) k = (instance_over us g t k.0, instances_over us g ts k.1)

  uses : (d : Definition) (ts : Terms) → IsBodyOver d → AllAre (IsOver cs) ts → IfFound (IsOver cs) (expansion d ts)
  uses d ts k h =
      map_found (ArePlaced (IsOver cs) d.parameters) (IsOver cs) (λ us. instance_of us d.body) (all_placed d.parameters ts)
      (λ us p. instance_over us p.0 d.body k) (are_placed (IsOver cs) told real_over d.parameters ts h)

  stays_over : StaysSo (IsOver cs) (Contains cs) IsBodyOver
  stays_over = record { numerals = λ n. (tt, tt); decimals = λ n places. (tt, tt); constants = λ c i. (i, tt); operators = operators; uses = uses }

  -- a scope of these constants, whose definitions and bound terms are over them
  pub written_over : (definitions : List Definition) (bound : List (List ℕ × Term)) → AllByRecursion IsBodyOver definitions → AreBound (IsOver cs) bound → (e : Expression)
      → IfFound (IsOver cs) (term_of (record { constants = cs; definitions = definitions; bound = bound }) e)
  written_over definitions bound h k e =
      term_found (IsOver cs) (Contains cs) IsBodyOver stays_over (record { constants = cs; definitions = definitions; bound = bound }) e
      (record { constants = each_in_list cs; definitions = h; bound = k })

  -- so is it of a term that is placed at a sort
  pub placed_is_over : (t : Term) → IsOver cs t → IsOver cs (as_real t)
  placed_is_over t h = real_over t h
