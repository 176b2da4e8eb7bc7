-- A term that is written is well sorted, in a scope whose constants, definitions and bound terms are.
use Rattle.std.proofs.Common.{◌≡◌, Bool, true, false, List, Option, None, refl, ap, ◌∙◌, if◌then◌else◌}
use Rattle.std.specs.Prelude.{option_map}
use Rattle.nz_script.specs.commands.Expression.{Expression}
use Rattle.std.proofs.lemmas.Bool.{and_from}
use Rattle.nz_lists.proofs.Options.{IfFound, map_found}
use Rattle.nz_spec.specs.terms.Term.{Sort, bool_sort, int_sort, real_sort, Head, constant, parameter, integer, decimal_number, to_real, head_sort, Term, apply, Terms, no_terms, terms, sort_of}
use Rattle.nz_spec.specs.terms.Operators.{Operator, true_operator, to_real_operator, has_sort, term_count, as_real, as_reals, takes, operands_of, operand_sort, read_at, operator_head, applied}
use Rattle.nz_spec.specs.terms.Definitions.{Definition, instance_node, instance_of, instances_of, all_placed, expansion}
use Rattle.nz_script.specs.commands.Elaboration.{Scope, term_of}
use Rattle.nz_spec.specs.terms.WellSorted.{AreOperands, IsApplied, IsSortedHead, IsWellSorted, AreWellSorted, IsSortedDefinition, SameSorts, SortsTell}
use Rattle.nz_script.proofs.ReadOperands.{count_read, operands_read}
use Rattle.nz_script.proofs.Placed.{HaveSorts, AllAre, IsPlaced, ArePlaced, are_placed, at_place}
use Rattle.nz_script.proofs.WrittenTerms.{IsConstant, StaysSo, IsScope, term_found}

module _ (told : SortsTell) (ss : List Sort) where
  abbrev IsTerm : Option Term → Type 0
  IsTerm o = IfFound (IsWellSorted ss) o

  real_if : (b : Bool) (t : Term) → has_sort int_sort t ≡ b → IsWellSorted ss t → IsWellSorted ss (if b then apply to_real (terms t no_terms) else t)
  real_if true t e h =
      (record { operator = to_real_operator; sort = int_sort; is = refl; count = refl; operands = and_from (has_sort int_sort t) true e refl }, (h, tt))
  real_if false t e h = h

  pub sorted_real : (t : Term) → IsWellSorted ss t → IsWellSorted ss (as_real t)
  sorted_real t h = real_if (has_sort int_sort t) t refl h

  sorted_reals : (ts : Terms) → AreWellSorted ss ts → AreWellSorted ss (as_reals ts)
  sorted_reals no_terms h = tt
  sorted_reals (terms t ts) h = (sorted_real t h.0, sorted_reals ts h.1)

  -- ---- Operators

  sorted_read : (s : Sort) (ts : Terms) → AreWellSorted ss ts → AreWellSorted ss (read_at s ts)
  sorted_read bool_sort ts h = h
  sorted_read int_sort ts h = h
  sorted_read real_sort ts h = sorted_reals ts h

  -- an operator's head is no constant, parameter or number
  head_applied : (o : Operator) (s : Sort) (us : Terms) → IsApplied (operator_head o s) us → IsSortedHead ss (operator_head o s) us
  head_applied true_operator s us i = i
  head_applied o s us i = i

  applied_by : (o : Operator) (ts : Terms) (b : Bool) → takes o (term_count ts) ≡ b → AreWellSorted ss ts
      → IsTerm (if b then option_map (λ s. apply (operator_head o s) (read_at s ts)) (operand_sort (operands_of o) ts) else None)
  applied_by o ts true e i =
      map_found (λ s. AreOperands (operands_of o) s (read_at s ts)) (IsWellSorted ss) (λ s. apply (operator_head o s) (read_at s ts)) (operand_sort (operands_of o) ts)
      (λ s r.
      let counted : takes o (term_count (read_at s ts)) ≡ true = ap (takes o) (count_read s ts) ∙ e in
      (head_applied o s (read_at s ts) (record { operator = o; sort = s; is = refl; count = counted; operands = r }), sorted_read s ts i))
      (operands_read (operands_of o) ts)
  applied_by o ts false e i = tt

  operators : (o : Operator) (ts : Terms) → AreWellSorted ss ts → IsTerm (applied o ts)
  operators o ts i = applied_by o ts (takes o (term_count ts)) refl i

  sorted_all : (ts : Terms) → AllAre (IsWellSorted ss) ts → AreWellSorted ss ts
  sorted_all no_terms h = tt
  sorted_all (terms t ts) h = (h.0, sorted_all ts h.1)

  all_sorted : (ts : Terms) → AreWellSorted ss ts → AllAre (IsWellSorted ss) ts
  all_sorted no_terms h = tt
  all_sorted (terms t ts) h = (h.0, all_sorted ts h.1)

  -- ---- Definitions

  node_placed : (rs : List Sort) (us : Terms) → HaveSorts rs us → AreWellSorted ss us → (h : Head) (ts : Terms) → IsSortedHead rs h ts
      → AreWellSorted ss (instances_of us ts) → SameSorts ts (instances_of us ts) → IsPlaced (IsWellSorted ss) (head_sort h) (instance_node us h (instances_of us ts))
  node_placed rs us m g (parameter i s) ts k j e = at_place (IsWellSorted ss) rs us i s m (all_sorted us g) k.0 (parameter i s) (instances_of us ts)
  node_placed rs us m g (constant c) ts k j e = ((ap (instances_of us) k, j), refl)
  node_placed rs us m g (integer n) ts k j e = ((ap (instances_of us) k, j), refl)
  node_placed rs us m g (decimal_number n places) ts k j e = ((ap (instances_of us) k, j), refl)
  node_placed rs us m g h ts k j e = ((told.operands h ts (instances_of us ts) e k, j), refl)

  mutual
    instance_placed : (rs : List Sort) (us : Terms) → HaveSorts rs us → AreWellSorted ss us → (t : Term) → IsWellSorted rs t → IsPlaced (IsWellSorted ss) (sort_of t) (instance_of us t)
    instance_placed rs us m g (apply h ts) k =
        let inside = instances_placed rs us m g ts k.1 in
        node_placed rs us m g h ts k.0 inside.0 inside.1

    instances_placed : (rs : List Sort) (us : Terms) → HaveSorts rs us → AreWellSorted ss us → (ts : Terms) → AreWellSorted rs ts → AreWellSorted ss (instances_of us ts) × SameSorts ts (instances_of us ts)
    instances_placed rs us m g no_terms k = (tt, tt)
    instances_placed rs us m g (terms t ts) k =
        let first = instance_placed rs us m g t k.0 in
        let others = instances_placed rs us m g ts k.1 in
        ((first.0, others.0), (first.1, others.1))

  expansions : (d : Definition) (ts : Terms) → IsSortedDefinition d → AllAre (IsWellSorted ss) ts → IsTerm (expansion d ts)
  expansions d ts k h =
      map_found (ArePlaced (IsWellSorted ss) d.parameters) (IsWellSorted ss) (λ us. instance_of us d.body) (all_placed d.parameters ts)
      (λ us p. (instance_placed d.parameters us p.1 (sorted_all us p.0) d.body k).0) (are_placed (IsWellSorted ss) told sorted_real d.parameters ts h)

  stays_sorted : StaysSo (IsWellSorted ss) IsConstant IsSortedDefinition
  stays_sorted =
      record {
        numerals = λ n. (refl, tt);
        decimals = λ n places. (refl, tt);
        constants = λ c i. (refl, tt);
        operators = λ o ts h. operators o ts (sorted_all ts h);
        uses = expansions;
      }

  -- a scope in which all is well sorted
  abbrev pub IsSortedScope : Scope → Type 0
  IsSortedScope sc = IsScope (IsWellSorted ss) IsConstant IsSortedDefinition sc

  pub term_sorted : (sc : Scope) (e : Expression) → IsSortedScope sc → IsTerm (term_of sc e)
  term_sorted sc e g = term_found (IsWellSorted ss) IsConstant IsSortedDefinition stays_sorted sc e g
