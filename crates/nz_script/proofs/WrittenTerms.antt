-- What stays so under operators and uses of definitions, and holds of all that is in scope, holds of each term that is written.
use Rattle.std.proofs.Common.{ℕ, Bool, true, false, List, [], ◌∷◌, ◌++◌, Option, Some, None, if◌then◌else◌, bytes_eq}
use Rattle.std.specs.Prelude.{option_and_then, is_some}
use Rattle.std.specs.Bool.{⊤}
use Rattle.std.specs.List.{AllByRecursion}
use Rattle.nz_script.specs.commands.Expression.{Numeric, written_integer, written_decimal, Expression, written_number, written_name, written_use, written_let, Expressions, no_expressions, expressions, Locals, no_locals, locals}
use Rattle.nz_spec.specs.terms.Term.{Constant, constant, integer, decimal_number, head_fits, Term, apply, Terms, no_terms}
use Rattle.nz_spec.specs.terms.Operators.{Operator, applied}
use Rattle.nz_script.specs.commands.Elaboration.{listed, operator_named, Scope, constant_named, definition_named, binding, name_term, application, number_term, bound_onto, term_of, terms_of, bindings_of}
use Rattle.nz_spec.specs.terms.Definitions.{Definition, terms_onto, expansion}
use Rattle.nz_lists.proofs.Options.{IfFound, and_then_found, if_found}
use Rattle.nz_script.proofs.Placed.{AllAre}

-- each name is bound to a term that is so
abbrev pub AreBound : (Term → Type 0) → List (List ℕ × Term) → Type 0
AreBound P ps = AllByRecursion (λ (p : List ℕ × Term). P p.1) ps

-- where it doesn't matter which constants are in scope
abbrev pub IsConstant : Constant → Type 0
IsConstant c = ⊤

pub are_constants : (cs : List Constant) → AllByRecursion IsConstant cs
are_constants [] = tt
are_constants (c ∷ cs) = (tt, are_constants cs)

module _ (P : Term → Type 0) (Q : Constant → Type 0) (R : Definition → Type 0) where
  -- Constants that are Q, operators, and uses of definitions that are R, all over no terms, are P.
  pub record NamesAreSo : Type 0 where
    pub constants : (c : Constant) → Q c → P (apply (constant c) no_terms)
    pub operators : (o : Operator) → IfFound P (applied o no_terms)
    pub uses : (d : Definition) → R d → IfFound P (expansion d no_terms)

  -- Numbers, constants that are Q, operators, and uses of definitions that are R, all over terms that are P, are P.
  pub record StaysSo : Type 0 where
    pub numerals : (n : ℕ) → P (apply (integer n) no_terms)
    pub decimals : (n places : ℕ) → P (apply (decimal_number n places) no_terms)
    pub constants : (c : Constant) → Q c → P (apply (constant c) no_terms)
    pub operators : (o : Operator) (ts : Terms) → AllAre P ts → IfFound P (applied o ts)
    pub uses : (d : Definition) (ts : Terms) → R d → AllAre P ts → IfFound P (expansion d ts)

  pub record IsScope (sc : Scope) : Type 0 where
    pub constants : AllByRecursion Q sc.constants
    pub definitions : AllByRecursion R sc.definitions
    pub bound : AreBound P sc.bound

  listed_found : (ps : List (List ℕ × Term)) (name : List ℕ) → AreBound P ps → IfFound P (listed ps name)
  listed_found [] name h = tt
  listed_found (p ∷ ps) name h = if_found P (bytes_eq name p.0) (Some p.1) (listed ps name) h.0 (listed_found ps name h.1)

  constant_found : (cs : List Constant) (name : List ℕ) → AllByRecursion Q cs → IfFound Q (constant_named cs name)
  constant_found [] name h = tt
  constant_found (c ∷ cs) name h = if_found Q (bytes_eq c.name name) (Some c) (constant_named cs name) h.0 (constant_found cs name h.1)

  definition_found : (ds : List Definition) (name : List ℕ) → AllByRecursion R ds → IfFound R (definition_named ds name)
  definition_found [] name h = tt
  definition_found (d ∷ ds) name h = if_found R (bytes_eq d.name name) (Some d) (definition_named ds name) h.0 (definition_found ds name h.1)

  module _ (k : NamesAreSo) where
    name_by : (l : Option Term) (o : Option Operator) (c : Option Constant) (d : Option Definition) → IfFound P l → IfFound Q c → IfFound R d
        → IfFound P (elim l [ Some t ↦ Some t | None ↦ (elim o [ Some o ↦ applied o no_terms | None ↦ (elim c [ Some c ↦ Some (apply (constant c) no_terms) | None ↦ option_and_then (λ d. expansion d no_terms) d ]) ]) ])
    name_by (Some t) o c d h i j = h
    name_by None (Some o) c d h i j = k.operators o
    name_by None None (Some c) d h i j = k.constants c i
    name_by None None None d h i j = and_then_found R P (λ d. expansion d no_terms) d k.uses j

    pub name_found : (sc : Scope) (name : List ℕ) → IsScope sc → IfFound P (name_term sc name)
    name_found sc name g =
        name_by (listed sc.bound name) (operator_named name) (constant_named sc.constants name) (definition_named sc.definitions name) (listed_found sc.bound name g.bound) (constant_found sc.constants name g.constants)
        (definition_found sc.definitions name g.definitions)

  module _ (k : StaysSo) where
    named : NamesAreSo
    named = record { constants = k.constants; operators = λ o. k.operators o no_terms tt; uses = λ d r. k.uses d no_terms r tt }

    bound_append : (ps qs : List (List ℕ × Term)) → AreBound P ps → AreBound P qs → AreBound P (ps ++ qs)
    bound_append [] qs h i = i
    bound_append (p ∷ ps) qs h i = (h.0, bound_append ps qs h.1 i)

    bound_scope : (sc : Scope) (ps : List (List ℕ × Term)) → IsScope sc → AreBound P ps → IsScope (binding sc ps)
    bound_scope sc ps g h = record { constants = g.constants; definitions = g.definitions; bound = bound_append ps sc.bound h g.bound }

    application_by : (b c : Bool) (o : Option Operator) (d : Option Definition) (ts : Terms) → IfFound R d → AllAre P ts
        → IfFound P (if b then None else (elim o [ Some o ↦ applied o ts | None ↦ (if c then None else option_and_then (λ d. expansion d ts) d) ]))
    application_by true c o d ts j h = tt
    application_by false c (Some o) d ts j h = k.operators o ts h
    application_by false true None d ts j h = tt
    application_by false false None d ts j h = and_then_found R P (λ d. expansion d ts) d (λ d r. k.uses d ts r h) j

    applications : (sc : Scope) (name : List ℕ) (ts : Terms) → IsScope sc → AllAre P ts → IfFound P (application sc name ts)
    applications sc name ts g h =
        application_by (is_some (listed sc.bound name)) (is_some (constant_named sc.constants name)) (operator_named name) (definition_named sc.definitions name) ts
        (definition_found sc.definitions name g.definitions) h

    fitting_found : (b : Bool) (t : Term) → P t → IfFound P (if b then Some t else None)
    fitting_found true t h = h
    fitting_found false t h = tt

    number_found : (n : Option Numeric) → IfFound P (number_term n)
    number_found (Some (written_integer n)) = fitting_found (head_fits (integer n)) (apply (integer n) no_terms) (k.numerals n)
    number_found (Some (written_decimal n places)) = fitting_found (head_fits (decimal_number n places)) (apply (decimal_number n places) no_terms) (k.decimals n places)
    number_found None = tt

    both_onto : (o : Option Term) (r : Option Terms) → IfFound P o → IfFound (AllAre P) r → IfFound (AllAre P) (terms_onto o r)
    both_onto (Some t) (Some ts) h i = (h, i)
    both_onto (Some t) None h i = tt
    both_onto None r h i = tt

    under : (sc : Scope) (m : Option (List (List ℕ × Term))) (body : Expression) → IfFound (AreBound P) m → ((ps : List (List ℕ × Term)) → AreBound P ps → IfFound P (term_of (binding sc ps) body))
        → IfFound P (elim m [ Some ps ↦ term_of (binding sc ps) body | None ↦ None ])
    under sc (Some ps) body h each = each ps h
    under sc None body h each = tt

    pair_onto : (name : List ℕ) (o : Option Term) (m : Option (List (List ℕ × Term))) → IfFound P o → IfFound (AreBound P) m → IfFound (AreBound P) (bound_onto name o m)
    pair_onto name (Some t) (Some ps) h i = (h, i)
    pair_onto name o m h i = tt

    mutual
      pub term_found : (sc : Scope) (e : Expression) → IsScope sc → IfFound P (term_of sc e)
      term_found sc (written_number n) g = number_found n
      term_found sc (written_name name) g = name_found named sc name g
      term_found sc (written_use name es) g = and_then_found (AllAre P) P (application sc name) (terms_of sc es) (λ us h. applications sc name us g h) (terms_found sc es g)
      term_found sc (written_let ls e) g = under sc (bindings_of sc ls) e (bindings_found sc ls g) (λ ps h. term_found (binding sc ps) e (bound_scope sc ps g h))

      terms_found : (sc : Scope) (es : Expressions) → IsScope sc → IfFound (AllAre P) (terms_of sc es)
      terms_found sc no_expressions g = tt
      terms_found sc (expressions e es) g = both_onto (term_of sc e) (terms_of sc es) (term_found sc e g) (terms_found sc es g)

      bindings_found : (sc : Scope) (ls : Locals) → IsScope sc → IfFound (AreBound P) (bindings_of sc ls)
      bindings_found sc no_locals g = tt
      bindings_found sc (locals name e ls) g = pair_onto name (term_of sc e) (bindings_of sc ls) (term_found sc e g) (bindings_found sc ls g)
