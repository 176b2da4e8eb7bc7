use Rattle.std.proofs.Common.{[], map, List}
use Rattle.std.specs.List.{list_any}
use Rattle.nz_command.specs.View.{view}
use Rattle.nz_command.specs.Requests.{parameter_view, sort_view}
use Rattle.nz_script.specs.commands.Request.{Parameter}
use Rattle.nz_script.specs.commands.Scoping.{clash, has_unknown, has_clash}
use Rattle.nz_script.specs.commands.Script.{is_unknown_sort, sort_written, parameter_names, parameter_sorts}
use Rattle.nz_script.specs.commands.Elaboration.{is_declared}
use Rattle.nz_term.specs.Constants.{sort_of}
use Rattle.nz_elaborate.specs.Names.{IsScope}
use Rattle.nz_elaborate.specs.Elaborate.{IsWellNamed}
use Rattle.nz_elaborate.specs.Definitions.{definition_unknown, definition_clash, definition_term, HasBody}
use Rattle.nz_elaborate.proofs.FaultOrder.{told_unknown, told_clash, ok_each}
use Rattle.nz_elaborate.proofs.ScopeNames.{within_of_scope, within_kept, within_push, pushed}
use Rattle.nz_elaborate.proofs.TermAnswers.{no_term_answered}
use Rattle.nz_elaborate.proofs.DefinitionParts.{definition_told, definition_is, parameters_sorted, body_answered}
use Rattle.nz_elaborate.proofs.definitions.elaborate_body.Goals as goal

pub expression_term-requires : goal.expression_term-requires
expression_term-requires c =
    record {
      within = within_push c.bind_parameters.new.terms c.args.names.now [] c.push.new.self.items c.in_ok-bound.field-0.bound.frame
          (pushed c.new-frames.result.items [] c.push.new.self.items c.in_ok-bound.field-0.bound.frame c.new-frames.ensures.items c.in_ok-push.ensures.items)
          (within_kept c.args.terms.now c.bind_parameters.new.terms c.in_ok-bound.ensures.grows c.args.names.now []
          (within_of_scope c.args.terms.now c.args.names.now c.requires.scope.0 c.requires.scope.1)) c.in_ok-bound.ensures.within;
    }

pub returns-clause-unknown : goal.returns-clause-unknown
returns-clause-unknown c = λ err sc s.
    told_unknown _ c.settled.result _ _ c.settled.ensures.answer
    (definition_told c.args.terms.now c.args.names.now c.push.new.self.items c.in_ok-bound.field-0.bound.frame c.in_ok-bound.field-0.bound.fault c.in_ok-found.found c.after.result c.in_ok-found-2.found
    (map parameter_view c.args.parameters.now) (sort_view c.args.sort.now) (view c.args.body.now) sc
    (pushed c.new-frames.result.items [] c.push.new.self.items c.in_ok-bound.field-0.bound.frame c.new-frames.ensures.items c.in_ok-push.ensures.items) s c.in_ok-bound.ensures.binds
    c.in_ok-bound.ensures.names c.in_ok-found.ensures.names c.after.ensures.after c.in_ok-found-2.ensures.names) err

pub returns-clause-clash : goal.returns-clause-clash
returns-clause-clash c = λ err sc s.
    told_clash _ c.settled.result _ _ c.settled.ensures.answer
    (definition_told c.args.terms.now c.args.names.now c.push.new.self.items c.in_ok-bound.field-0.bound.frame c.in_ok-bound.field-0.bound.fault c.in_ok-found.found c.after.result c.in_ok-found-2.found
    (map parameter_view c.args.parameters.now) (sort_view c.args.sort.now) (view c.args.body.now) sc
    (pushed c.new-frames.result.items [] c.push.new.self.items c.in_ok-bound.field-0.bound.frame c.new-frames.ensures.items c.in_ok-push.ensures.items) s c.in_ok-bound.ensures.binds
    c.in_ok-bound.ensures.names c.in_ok-found.ensures.names c.after.ensures.after c.in_ok-found-2.ensures.names) err

pub returns-clause-refused : goal.returns-clause-refused
returns-clause-refused c = λ err sc s.
    no_term_answered c.placed_found.new.terms c.in_ok-found-2.found (definition_term sc (map parameter_view c.args.parameters.now) (sort_view c.args.sort.now) (view c.args.body.now)) c.settled.result
    _ _ c.settled.ensures.answer
    (definition_told c.args.terms.now c.args.names.now c.push.new.self.items c.in_ok-bound.field-0.bound.frame c.in_ok-bound.field-0.bound.fault c.in_ok-found.found c.after.result c.in_ok-found-2.found
    (map parameter_view c.args.parameters.now) (sort_view c.args.sort.now) (view c.args.body.now) sc
    (pushed c.new-frames.result.items [] c.push.new.self.items c.in_ok-bound.field-0.bound.frame c.new-frames.ensures.items c.in_ok-push.ensures.items) s c.in_ok-bound.ensures.binds
    c.in_ok-bound.ensures.names c.in_ok-found.ensures.names c.after.ensures.after c.in_ok-found-2.ensures.names)
    (definition_is c.args.terms.now c.bind_parameters.new.terms c.expression_term.new.terms c.placed_found.new.terms c.args.names.now c.push.new.self.items c.in_ok-bound.field-0.bound.frame
    c.in_ok-bound.field-0.bound.fault c.in_ok-found.found c.after.result c.in_ok-found-2.found (map parameter_view c.args.parameters.now) (map sort_of c.in_ok-bound.field-0.sorts.items)
    (sort_view c.args.sort.now) (view c.args.body.now) sc c.in_ok-bound.ensures.grows
    (pushed c.new-frames.result.items [] c.push.new.self.items c.in_ok-bound.field-0.bound.frame c.new-frames.ensures.items c.in_ok-push.ensures.items) s c.in_ok-bound.ensures.found
    c.in_ok-found.ensures.found c.after.ensures.after c.in_ok-found-2.ensures.found) err

pub returns-clause-found : goal.returns-clause-found
returns-clause-found c =
    let ps : List Parameter = map parameter_view c.args.parameters.now in
    let w = sort_view c.args.sort.now in
    let body = view c.args.body.now in
    let sorts = c.in_ok-bound.field-0.sorts.items in
    ok_each c.settled.result (IsScope c.args.terms.now c.args.names.now [])
    (λ sc d. IsWellNamed (definition_unknown sc ps w body) (definition_clash ps body) (HasBody sc ps w body c.placed_found.new.terms d))
    (λ sc s.
    body_answered c.placed_found.new.terms c.in_ok-found-2.found c.settled.result (definition_unknown sc ps w body) (definition_clash ps body) sc ps w body sorts c.settled.ensures.answer
    (definition_told c.args.terms.now c.args.names.now c.push.new.self.items c.in_ok-bound.field-0.bound.frame c.in_ok-bound.field-0.bound.fault c.in_ok-found.found c.after.result c.in_ok-found-2.found
    (map parameter_view c.args.parameters.now) (sort_view c.args.sort.now) (view c.args.body.now) sc
    (pushed c.new-frames.result.items [] c.push.new.self.items c.in_ok-bound.field-0.bound.frame c.new-frames.ensures.items c.in_ok-push.ensures.items) s c.in_ok-bound.ensures.binds
    c.in_ok-bound.ensures.names c.in_ok-found.ensures.names c.after.ensures.after c.in_ok-found-2.ensures.names)
    (definition_is c.args.terms.now c.bind_parameters.new.terms c.expression_term.new.terms c.placed_found.new.terms c.args.names.now c.push.new.self.items c.in_ok-bound.field-0.bound.frame
    c.in_ok-bound.field-0.bound.fault c.in_ok-found.found c.after.result c.in_ok-found-2.found (map parameter_view c.args.parameters.now) (map sort_of c.in_ok-bound.field-0.sorts.items)
    (sort_view c.args.sort.now) (view c.args.body.now) sc c.in_ok-bound.ensures.grows
    (pushed c.new-frames.result.items [] c.push.new.self.items c.in_ok-bound.field-0.bound.frame c.new-frames.ensures.items c.in_ok-push.ensures.items) s c.in_ok-bound.ensures.found
    c.in_ok-found.ensures.found c.after.ensures.after c.in_ok-found-2.ensures.found)
    c.settled.ensures.parameters c.settled.ensures.body
    (λ t.
    parameters_sorted c.bind_parameters.new.terms c.in_ok-bound.field-0.bound.fault sc ps (map sort_of sorts) c.in_ok-bound.field-0.bound.frame (sort_written w) body t
    (list_any is_unknown_sort (parameter_sorts ps)) (clash (parameter_names ps)) (is_unknown_sort w) (has_unknown (is_declared sc.constants sc.definitions) (parameter_names ps) body) (has_clash body)
    c.in_ok-bound.ensures.names c.in_ok-bound.ensures.found))

pub returns-in_err-found-clause-grows : goal.returns-in_err-found-clause-grows
returns-in_err-found-clause-grows c = c.grows_twice.ensures.twice _ _ _ c.in_ok-bound.ensures.grows c.in_err-found.ensures.grows

pub returns-in_err-found-2-clause-grows : goal.returns-in_err-found-2-clause-grows
returns-in_err-found-2-clause-grows c = c.grows_twice.ensures.twice _ _ _ c.in_ok-bound.ensures.grows (c.grows_twice.ensures.twice _ _ _ c.in_ok-found.ensures.grows c.in_err-found-2.ensures.grows)

pub returns-clause-grows : goal.returns-clause-grows
returns-clause-grows c = c.grows_twice.ensures.twice _ _ _ c.in_ok-bound.ensures.grows (c.grows_twice.ensures.twice _ _ _ c.in_ok-found.ensures.grows c.in_ok-found-2.ensures.grows)
