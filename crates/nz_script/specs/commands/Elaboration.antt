-- The terms that are written (SMT-LIB 2.6, sections 3.6 and 4.2.3, and the theories Core and Reals_Ints): names in scope,
-- sorts, `let` in parallel, and definitions by their bodies.
use Rattle.std.specs.Prelude.{◌≡◌, ℕ, ◌||◌, Bool, List, [], ◌∷◌, ◌++◌, Option, Some, None, option_and_then, is_some, codes, bytes_eq, if◌then◌else◌}
use Rattle.std.specs.List.{AllByRecursion}
use Rattle.nz_script.specs.commands.Expression.{Numeric, numeric_head, Expression, written_number, written_name, written_use, written_let, Expressions, no_expressions, expressions, Locals, no_locals, locals}
use Rattle.nz_spec.specs.terms.Term.{Sort, bool_sort, int_sort, real_sort, head_fits, Constant, constant, Term, apply, Terms, no_terms}
use Rattle.nz_spec.specs.terms.Operators.{Operator, abs_operator, and_operator, applied, at_least_operator, at_most_operator, distinct_operator, div_operator, equals_operator, false_operator, greater_operator, implies_operator, is_int_operator, ite_operator, less_operator, minus_operator, mod_operator, not_operator, or_operator, over_operator, plus_operator, times_operator, to_int_operator, to_real_operator, true_operator, xor_operator}
use Rattle.nz_spec.specs.terms.Definitions.{Definition, RootFits, expansion, terms_onto}

-- ---- Names of operators and sorts

abbrev pub operator_table : List (List ℕ × Operator)
operator_table =
    (codes "true", true_operator) ∷ (codes "false", false_operator) ∷ (codes "not", not_operator) ∷ (codes "and", and_operator) ∷
    (codes "or", or_operator) ∷ (codes "=>", implies_operator) ∷ (codes "xor", xor_operator) ∷ (codes "=", equals_operator) ∷
    (codes "distinct", distinct_operator) ∷ (codes "ite", ite_operator) ∷ (codes "<=", at_most_operator) ∷
    (codes "<", less_operator) ∷ (codes ">=", at_least_operator) ∷ (codes ">", greater_operator) ∷ (codes "+", plus_operator) ∷
    (codes "*", times_operator) ∷ (codes "-", minus_operator) ∷ (codes "/", over_operator) ∷ (codes "div", div_operator) ∷
    (codes "mod", mod_operator) ∷ (codes "abs", abs_operator) ∷ (codes "to_real", to_real_operator) ∷
    (codes "to_int", to_int_operator) ∷ (codes "is_int", is_int_operator) ∷ []

-- what is listed first with a name
abbrev pub listed : {A : Type 0} → List (List ℕ × A) → List ℕ → Option A
listed [] name = None
listed (p ∷ ps) name = if bytes_eq name p.0 then Some p.1 else listed ps name

abbrev pub operator_named : List ℕ → Option Operator
operator_named name = listed operator_table name

abbrev pub is_operator : List ℕ → Bool
is_operator name = is_some (operator_named name)

abbrev pub sort_named : List ℕ → Option Sort
sort_named name =
    if bytes_eq name (codes "Bool") then Some bool_sort
    else (if bytes_eq name (codes "Int") then Some int_sort
    else (if bytes_eq name (codes "Real") then Some real_sort
    else None))

-- ---- Names in scope

-- Constants and definitions, and the names that `let` or a definition's parameters bind, the innermost first.
pub record Scope : Type 0 where
  pub constants : List Constant
  pub definitions : List Definition
  pub bound : List (List ℕ × Term)

abbrev pub constant_named : List Constant → List ℕ → Option Constant
constant_named [] name = None
constant_named (c ∷ cs) name = if bytes_eq c.name name then Some c else constant_named cs name

abbrev pub definition_named : List Definition → List ℕ → Option Definition
definition_named [] name = None
definition_named (d ∷ ds) name = if bytes_eq d.name name then Some d else definition_named ds name

-- a live name, or an operator: it isn't declared again
abbrev pub is_declared : List Constant → List Definition → List ℕ → Bool
is_declared cs ds name = is_operator name || is_some (constant_named cs name) || is_some (definition_named ds name)

-- the scope with these names bound to these terms too
abbrev pub binding : Scope → List (List ℕ × Term) → Scope
binding sc ps = record { constants = sc.constants; definitions = sc.definitions; bound = ps ++ sc.bound }

-- ---- Terms of what is written

-- what a name alone stands for: a bound term, a truth value, a constant, or a definition without parameters
abbrev pub name_term : Scope → List ℕ → Option Term
name_term sc name =
    elim (listed sc.bound name) [
      | Some t ↦ Some t
      | None ↦ (elim (operator_named name) [
        | Some o ↦ applied o no_terms
        | None ↦ (elim (constant_named sc.constants name) [
          | Some c ↦ Some (apply (constant c) no_terms)
          | None ↦ option_and_then (λ d. expansion d no_terms) (definition_named sc.definitions name)
        ])
      ])
    ]

-- what a name stands for over arguments: an operator, or a definition; no bound name and no constant takes any
abbrev pub application : Scope → List ℕ → Terms → Option Term
application sc name ts =
    if is_some (listed sc.bound name) then None
    else (elim (operator_named name) [
      | Some o ↦ applied o ts
      | None ↦ (if is_some (constant_named sc.constants name) then None else option_and_then (λ d. expansion d ts) (definition_named sc.definitions name))
    ])

-- the term of a number, where it is within the bounds on numbers
abbrev pub number_term : Option Numeric → Option Term
number_term (Some n) = if head_fits (numeric_head n) then Some (apply (numeric_head n) no_terms) else None
number_term None = None

-- a name with what it stands for, before others
abbrev pub bound_onto : List ℕ → Option Term → Option (List (List ℕ × Term)) → Option (List (List ℕ × Term))
bound_onto name (Some t) (Some ps) = Some ((name, t) ∷ ps)
bound_onto name t ps = None

-- The term that is written so in a scope, if there is one. The bindings of a `let` are read in the scope of the whole, all at
-- once, and its body under all of them.
abbrev mutual
  pub term_of : Scope → Expression → Option Term
  term_of sc (written_number n) = number_term n
  term_of sc (written_name name) = name_term sc name
  term_of sc (written_use name es) = option_and_then (application sc name) (terms_of sc es)
  term_of sc (written_let ls e) = elim (bindings_of sc ls) [ Some ps ↦ term_of (binding sc ps) e | None ↦ None ]

  pub terms_of : Scope → Expressions → Option Terms
  terms_of sc no_expressions = Some no_terms
  terms_of sc (expressions e es) = terms_onto (term_of sc e) (terms_of sc es)

  pub bindings_of : Scope → Locals → Option (List (List ℕ × Term))
  bindings_of sc no_locals = Some []
  bindings_of sc (locals name e ls) = bound_onto name (term_of sc e) (bindings_of sc ls)

-- ---- Laws

-- What is bound, and the bodies of definitions, are no parameters, or parameters that fit.
pub record ScopeFits (ss : List Sort) (sc : Scope) : Type 0 where
  pub bound : AllByRecursion (λ (p : List ℕ × Term). RootFits ss p.1) sc.bound
  pub definitions : AllByRecursion (λ (d : Definition). RootFits d.parameters d.body) sc.definitions

-- So is the term of what is written.
abbrev pub TermFits : Type 0
TermFits = (ss : List Sort) (sc : Scope) → ScopeFits ss sc → (e : Expression) (u : Term) → term_of sc e ≡ Some u → RootFits ss u
