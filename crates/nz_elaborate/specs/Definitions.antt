-- Definitions: their parameters and their bodies.
use Rattle.std.specs.Prelude.{◌≡◌, ℕ, ◌||◌, Bool, List, [], ◌∷◌, ◌++◌, map, Option, Some, None, option_map, option_and_then}
use Rattle.std.specs.List.{list_any}
use Rattle.nz_command.specs.declared.command.Parameter as code
use Rattle.nz_command.specs.Requests.{parameter_view}
use Rattle.nz_script.specs.commands.Expression.{Expression}
use Rattle.nz_script.specs.commands.Request.{Parameter, WrittenSort}
use Rattle.nz_spec.specs.terms.Term.{Sort, parameter, Term, apply, no_terms}
use Rattle.nz_spec.specs.terms.Table.{Node}
use Rattle.nz_script.specs.commands.Elaboration.{Scope, is_declared, term_of}
use Rattle.nz_spec.specs.terms.Operators.{placed}
use Rattle.nz_script.specs.commands.Scoping.{has_unknown, clash, has_clash}
use Rattle.nz_script.specs.commands.Script.{is_unknown_sort, sorts_written, sort_written, parameter_names, parameter_sorts, parameters_from}
use Rattle.nz_term.specs.Constants.{sort_of}
use Rattle.nz_elaborate.specs.declared.typed.Typed.{Typed}
use Rattle.nz_term.specs.declared.heads.Sort as sort
use Rattle.nz_elaborate.specs.declared.names.Definition.{Definition}
use Rattle.nz_elaborate.specs.declared.faults.Found.{Found}
use Rattle.nz_elaborate.specs.declared.faults.Found.TheVariants as found
use Rattle.nz_elaborate.specs.Names.{AreBoundAs}
use Rattle.nz_elaborate.specs.Elaborate.{StandsAs}

-- the parameters, as they are written
abbrev pub parameters_of : List code.Parameter → List Parameter
parameters_of parameters = map parameter_view parameters

-- the scope of a body, in which the parameters alone are bound
abbrev pub under_parameters : Scope → List (List ℕ) → List Sort → Scope
under_parameters sc names sorts = record { constants = sc.constants; definitions = sc.definitions; bound = parameters_from 0 names sorts }

-- a sort or a name of the body is unknown
abbrev pub definition_unknown : Scope → List Parameter → WrittenSort → Expression → Bool
definition_unknown sc parameters sort body =
    list_any is_unknown_sort (parameter_sorts parameters) || is_unknown_sort sort || has_unknown (is_declared sc.constants sc.definitions) (parameter_names parameters) body

-- names of parameters clash, or those of a `let` of the body
abbrev pub definition_clash : List Parameter → Expression → Bool
definition_clash parameters body = clash (parameter_names parameters) || has_clash body

-- a body of this sort under these parameters
abbrev pub body_term : Scope → List (List ℕ) → Option (List Sort) → Option Sort → Expression → Option Term
body_term sc names (Some sorts) (Some sort) body = option_and_then (placed sort) (term_of (under_parameters sc names sorts) body)
body_term sc names sorts sort body = None

abbrev pub definition_term : Scope → List Parameter → WrittenSort → Expression → Option Term
definition_term sc parameters sort body = body_term sc (parameter_names parameters) (sorts_written (parameter_sorts parameters)) (sort_written sort) body

-- a term where one of this sort is wanted, if it is one
abbrev pub placed_at : Option Sort → Option Term → Option Term
placed_at (Some s) o = option_and_then (placed s) o
placed_at None o = None

-- the parameter of this place and this sort, if it is one
abbrev pub parameter_at : ℕ → Option Sort → Option Term
parameter_at i o = option_map (λ s. apply (parameter i s) no_terms) o

-- sorts, and behind them that of a parameter that is found
abbrev pub sorts_with : List sort.Sort → Found → List sort.Sort
sorts_with ss (found.Term x) = ss ++ x.sort ∷ []
sorts_with ss (found.Fault f) = ss

-- The parameters have these sorts, and this is the body.
pub record HasBody (sc : Scope) (parameters : List Parameter) (sort : WrittenSort) (body : Expression) (ns : List Node) (d : Definition) : Type 0 where
  pub sorted : sorts_written (parameter_sorts parameters) ≡ Some (map sort_of d.parameters.items)
  pub stands : StandsAs (definition_term sc parameters sort body) ns d.body

-- The parameters have these sorts, and the frame binds their names to them by their places.
pub record BindsParameters (parameters : List Parameter) (sorts : List Sort) (ns : List Node) (frame : List (List ℕ × Option Typed)) : Type 0 where
  pub sorted : sorts_written (parameter_sorts parameters) ≡ Some sorts
  pub bound : AreBoundAs ns frame (parameters_from 0 (parameter_names parameters) sorts)
