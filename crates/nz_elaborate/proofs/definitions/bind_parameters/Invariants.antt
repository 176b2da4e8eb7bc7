use Rattle.std.proofs.Common.{◌≡◌, ℕ, false, List, map, drop}
use Rattle.std.specs.Prelude.{◌||◌, IfSome, None}
use Rattle.std.specs.List.{list_any}
use Rattle.nz_command.specs.Requests.{parameter_view}
use Rattle.nz_script.specs.commands.Scoping.{clash}
use Rattle.nz_script.specs.commands.Script.{is_unknown_sort, parameter_names, parameter_sorts, sorts_written}
use Rattle.nz_term.specs.Constants.{sort_of}
use Rattle.nz_elaborate.specs.Names.{IsBoundWithin, bound_in}
use Rattle.nz_elaborate.specs.Typed.{Grows}
use Rattle.nz_elaborate.specs.Faults.{Settles}
use Rattle.nz_elaborate.proofs.ScopeNames.{BindLeads, HasNames}
use Rattle.nz_elaborate.proofs.DefinitionParts.{HasParameters}
use Rattle.nz_elaborate.proofs.definitions.bind_parameters.Given as goal

abbrev pub invariant-loop-place : goal.invariant-loop-place
invariant-loop-place l = record {
  grown : Grows l.fn.terms l.terms;
  within : (name : List ℕ) → IfSome (bound_in l.listed.bound.frame name) (IsBoundWithin l.terms);
  binds : HasNames (parameter_names (map parameter_view l.parameters)) l.listed.bound.frame (parameter_names (map parameter_view (drop l.place l.parameters)));
  names : BindLeads l.listed.bound.fault l.listed.bound.frame (parameter_names (map parameter_view (drop l.place l.parameters)))
      (list_any is_unknown_sort (parameter_sorts (map parameter_view (drop l.place l.parameters)))) false
      (list_any is_unknown_sort (parameter_sorts (map parameter_view l.parameters))) (clash (parameter_names (map parameter_view l.parameters)) || false);
  found : Settles l.listed.bound.fault
      (HasParameters (map parameter_view l.parameters) (map parameter_view (drop l.place l.parameters)) l.place (map sort_of l.listed.sorts.items) l.terms l.listed.bound.frame)
      (sorts_written (parameter_sorts (map parameter_view l.parameters)) ≡ None);
}
