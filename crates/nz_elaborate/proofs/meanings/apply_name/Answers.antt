use Rattle.std.proofs.Common.{◌≡◌, None, Some, sym, ap, ◌∙◌}
use Rattle.std.proofs.lemmas.Result.{IfOk-weaker}
use Rattle.nz_elaborate.specs.declared.names.Named.TheVariants as kinds
use Rattle.nz_elaborate.specs.Names.{named_by, bound_by}
use Rattle.nz_elaborate.specs.Faults.{IsAppliedAs}
use Rattle.nz_elaborate.proofs.NameTerms.{FindsUse, uses_operator, uses_definition, not_bound}
use Rattle.nz_elaborate.proofs.meanings.apply_name.Goals as goal

pub returns-in-Some-Operator-clause-found : goal.returns-in-Some-Operator-clause-found
returns-in-Some-Operator-clause-found c =
    let free : bound_by c.args.frames.now.items c.args.name.now ≡ None = sym c.bound_term.ensures.bound ∙ not_bound c.bound_term.result (sym c.is_some.ensures ∙ c.if-is_some.false) in
    let named : named_by c.args.names.now c.args.name.now ≡ Some (kinds.Operator c.in-Some-Operator.operator) = c.in-Some-Operator.ensures.named ∙ ap Some c.in-Some-Operator.field-0-is in
    IfOk-weaker c.found_by.result (IsAppliedAs c.apply.result) (FindsUse c.args.terms.now c.args.names.now c.args.frames.now.items c.args.name.now c.args.arguments.now c.apply.new.terms)
    (uses_operator c.args.terms.now c.apply.new.terms c.args.names.now c.args.frames.now.items c.args.name.now c.args.arguments.now c.in-Some-Operator.operator c.apply.result free named
    c.apply.ensures.applied c.apply.ensures.refused)
    c.found_by.ensures.found

pub returns-in-Some-Definition-clause-found : goal.returns-in-Some-Definition-clause-found
returns-in-Some-Definition-clause-found c =
    let free : bound_by c.args.frames.now.items c.args.name.now ≡ None = sym c.bound_term.ensures.bound ∙ not_bound c.bound_term.result (sym c.is_some.ensures ∙ c.if-is_some.false) in
    let named : named_by c.args.names.now c.args.name.now ≡ Some (kinds.Definition c.in-Some-Definition.definition) = c.in-Some-Definition.ensures.named ∙ ap Some c.in-Some-Definition.field-0-is in
    IfOk-weaker c.found_by-in-Some-Definition.result (IsAppliedAs c.expand.result) (FindsUse c.args.terms.now c.args.names.now c.args.frames.now.items c.args.name.now c.args.arguments.now c.expand.new.terms)
    (uses_definition c.args.terms.now c.expand.new.terms c.args.names.now c.args.frames.now.items c.args.name.now c.args.arguments.now c.in-Some-Definition.definition c.expand.result free named
    c.expand.ensures.found c.expand.ensures.refused)
    c.found_by-in-Some-Definition.ensures.found
