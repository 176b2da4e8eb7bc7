use Rattle.std.proofs.Common.{◌≡◌, ◌+◌, ◌∷◌, ◌||◌, List, false, map, drop, ap, subst}
use Rattle.std.specs.List.{list_any}
use Rattle.std.proofs.lemmas.List.{drop_all}
use Rattle.nz_command.specs.Requests.{parameter_view, sort_view}
use Rattle.nz_script.specs.commands.Request.{Parameter}
use Rattle.nz_script.specs.commands.Scoping.{clash}
use Rattle.nz_script.specs.commands.Script.{is_unknown_sort, parameter_names, parameter_sorts}
use Rattle.nz_term.specs.Constants.{sort_of}
use Rattle.nz_elaborate.specs.Names.{named_by, is_operator_entry}
use Rattle.nz_elaborate.specs.Faults.{fault_in, term_in_found}
use Rattle.nz_elaborate.proofs.TableGrowth.{grows_none}
use Rattle.nz_elaborate.proofs.FaultOrder.{settles_none}
use Rattle.nz_elaborate.proofs.ScopeNames.{BindLeads, empty_within, has_none, has_next, leads_start, bind_next, frame_within, found_bound_within}
use Rattle.nz_elaborate.proofs.DefinitionParts.{parameters_start, parameters_next, parameters_end, parameters_turn}
use Rattle.nz_elaborate.proofs.definitions.bind_parameters.Goals as goal

pub loop-place-init : goal.loop-place-init
loop-place-init c =
    let all : List Parameter = map parameter_view c.args.parameters.now in
    let empty = c.new.ensures.empty in
    let fault = c.new.ensures.fault in
    record {
      grown = grows_none _;
      within = empty_within c.args.terms.now c.new.result.frame empty;
      binds = has_none (parameter_names all) c.new.result.frame empty;
      names = leads_start c.new.result.fault c.new.result.frame (parameter_names all) (list_any is_unknown_sort (parameter_sorts all)) false fault empty;
      found = settles_none c.new.result.fault _ _ fault
          (parameters_start all (map sort_of c.in_ok-with_capacity.field-0.items) c.args.terms.now c.new.result.frame (ap (map sort_of) c.in_ok-with_capacity.ensures.items) empty);
    }

pub loop-place-preserved : goal.loop-place-preserved
loop-place-preserved c =
    let before = c.loop-place.invariant in
    let here = c.in_ok-found.ensures in
    let ps = c.args.parameters.now in
    let i = c.loop-place.place in
    let p = c.index-parameters-place.result in
    let found = c.in_ok-found.found in
    let frame = c.loop-place.listed.bound.frame in
    let later = c.add.new.self.bound.frame in
    let more_bound = c.in_ok-add.ensures.bound in
    let all : List Parameter = map parameter_view ps in
    let rest : List Parameter = map parameter_view (drop i ps) in
    let more : List Parameter = map parameter_view (drop (i + 1) ps) in
    let turn : rest ≡ record { name = p.name.now; sort = sort_view p.sort } ∷ more = parameters_turn ps i p c.loop-place-test.true c.index-parameters-place.is in
    record {
      grown = c.grows_twice.ensures.twice _ _ _ before.grown here.grows;
      within = frame_within c.loop-place.terms c.parameter_term.new.terms frame later p.name.now (term_in_found found) here.grows before.within
          (found_bound_within c.parameter_term.new.terms found here.within) more_bound;
      binds = has_next (parameter_names all) (parameter_names rest) (parameter_names more) frame later p.name.now (term_in_found found) (ap parameter_names turn) more_bound before.binds;
      names = bind_next c.loop-place.listed.bound.fault (fault_in found) c.add.new.self.bound.fault frame later p.name.now (term_in_found found) (parameter_names more)
          (is_operator_entry (named_by c.args.names.now p.name.now)) (is_unknown_sort (sort_view p.sort)) false (list_any is_unknown_sort (parameter_sorts more)) false
          (list_any is_unknown_sort (parameter_sorts all)) (clash (parameter_names all) || false) (c.requires.operators p.name.now) here.names c.in_ok-add.ensures.fault more_bound
          (subst (λ r. BindLeads c.loop-place.listed.bound.fault frame (parameter_names r) (list_any is_unknown_sort (parameter_sorts r)) false (list_any is_unknown_sort (parameter_sorts all))
          (clash (parameter_names all) || false)) turn before.names);
      found = parameters_next c.loop-place.terms c.parameter_term.new.terms c.loop-place.listed.bound.fault _ found c.add.new.self.bound.fault frame later p.name.now all rest more (sort_view p.sort) i
          c.loop-place.listed.sorts.items c.add.new.self.sorts.items here.grows c.in_ok-add.ensures.fault more_bound c.in_ok-add.ensures.sorts turn here.found here.sort before.found;
    }

pub returns-clause-found : goal.returns-clause-found
returns-clause-found c =
    parameters_end c.loop-place.terms c.loop-place.listed.bound.fault (map parameter_view c.args.parameters.now) _ c.loop-place.place (map sort_of c.loop-place.listed.sorts.items)
    c.loop-place.listed.bound.frame (ap (map parameter_view) (drop_all c.loop-place.place c.args.parameters.now c.loop-place-test.false)) c.loop-place.invariant.found
