-- What elaboration makes of terms that are written: terms in the table.
use Rattle.std.specs.Prelude.{◌≡◌, ℕ, ◌<◌, Bool, true, false, List, [], length, map, All, Option, Some, option_and_then}
use Rattle.nz_script.specs.commands.Expression.{Expression, Expressions, Locals}
use Rattle.nz_spec.specs.terms.Term.{Sort, Head, Term, apply, Terms, no_terms}
use Rattle.nz_spec.specs.terms.Normal.{normal_of, normals_of}
use Rattle.nz_spec.specs.terms.Table.{Node, term_in, terms_at}
use Rattle.nz_script.specs.commands.Elaboration.{Scope, is_declared, terms_of, application, bindings_of}
use Rattle.nz_spec.specs.terms.Definitions.{all_placed}
use Rattle.nz_script.specs.commands.Scoping.{has_unknown, have_unknown}
use Rattle.nz_script.specs.commands.Script.{asked_expressions}
use Rattle.nz_command.specs.declared.command.Question.{Question}
use Rattle.nz_command.specs.Requests.{question_view}
use Rattle.nz_elaborate.specs.declared.typed.Typed.{Typed}
use Rattle.nz_elaborate.specs.Typed.{IsTyped, AreTyped}
use Rattle.nz_elaborate.specs.Names.{AreBoundAs}

-- There is a term, and this is its normal one, with its sort.
pub record StandsAs (o : Option Term) (ns : List Node) (x : Typed) : Type 0 where
  pub term : Term
  pub is : o ≡ Some term
  pub typed : IsTyped ns x term

-- There are terms, and these are theirs, one for one.
pub record StandAs (o : Option Terms) (ns : List Node) (xs : List Typed) : Type 0 where
  pub terms : Terms
  pub are : o ≡ Some terms
  pub typed : AreTyped ns xs terms

-- There are terms where these sorts are wanted, and these are the numbers of their normal ones.
pub record Places (ss : List Sort) (ts : Terms) (ns : List Node) (ids : List ℕ) : Type 0 where
  pub terms : Terms
  pub are : all_placed ss ts ≡ Some terms
  pub within : All (λ i. i < length ns) ids
  pub normal : terms_at (term_in ns) ids ≡ normals_of terms

-- There are bindings, and the frame gives each name the term that they give it.
pub record Binds (sc : Scope) (ls : Locals) (ns : List Node) (frame : List (List ℕ × Option Typed)) : Type 0 where
  pub pairs : List (List ℕ × Term)
  pub are : bindings_of sc ls ≡ Some pairs
  pub same : AreBoundAs ns frame pairs

-- a name over the terms of these arguments
abbrev pub application_of : Scope → List ℕ → Expressions → Option Term
application_of sc name es = option_and_then (application sc name) (terms_of sc es)

-- the term of this head alone is normal
abbrev pub IsNormalLeaf : Head → Type 0
IsNormalLeaf h = normal_of (apply h no_terms) ≡ apply h no_terms

-- ---- What is told of a term that is written

-- a name isn't in scope, where none is bound
abbrev pub is_unknown_in : Scope → Expression → Bool
is_unknown_in sc e = has_unknown (is_declared sc.constants sc.definitions) [] e

-- the terms that are asked for
abbrev pub asked : List Question → Expressions
asked questions = asked_expressions (map question_view questions)

abbrev pub are_unknown_in : Scope → Expressions → Bool
are_unknown_in sc es = have_unknown (is_declared sc.constants sc.definitions) [] es

-- Names clash, and none is unknown.
pub record ClashesFirst (unknown clash : Bool) : Type 0 where
  pub known : unknown ≡ false
  pub clashes : clash ≡ true

-- No name is unknown, none clash, and this holds.
pub record IsWellNamed (unknown clash : Bool) (P : Type 0) : Type 0 where
  pub known : unknown ≡ false
  pub distinct : clash ≡ false
  pub holds : P
