use Rattle.std.proofs.Common.{◌≡◌, None, Some, ap, ◌∙◌}
use Rattle.std.proofs.lemmas.Result.{IfOk-weaker}
use Rattle.nz_elaborate.specs.declared.names.Named.TheVariants as kinds
use Rattle.nz_elaborate.specs.Names.{named_by, bound_by}
use Rattle.nz_elaborate.specs.Faults.{IsAppliedAs}
use Rattle.nz_elaborate.proofs.NameTerms.{FindsName, finds_operator, finds_definition}
use Rattle.nz_elaborate.proofs.meanings.name_term.Goals as goal

pub returns-in-Some-Operator-clause-found : goal.returns-in-Some-Operator-clause-found
returns-in-Some-Operator-clause-found c =
    let free : bound_by c.args.frames.now.items c.args.name.now ≡ None = cc in
    let named : named_by c.args.names.now c.args.name.now ≡ Some (kinds.Operator c.in-Some-Operator.operator) = c.in-Some-Operator.ensures.named ∙ ap Some c.in-Some-Operator.field-0-is in
    IfOk-weaker c.found_by.result (IsAppliedAs c.apply.result) (FindsName c.args.terms.now c.args.names.now c.args.frames.now.items c.args.name.now c.apply.new.terms)
    (finds_operator c.args.terms.now c.apply.new.terms c.args.names.now c.args.frames.now.items c.args.name.now c.in-Some-Operator.operator c.apply.result free named c.apply.ensures.applied
    c.apply.ensures.refused)
    c.found_by.ensures.found

pub returns-in-Some-Definition-clause-found : goal.returns-in-Some-Definition-clause-found
returns-in-Some-Definition-clause-found c =
    let free : bound_by c.args.frames.now.items c.args.name.now ≡ None = cc in
    let named : named_by c.args.names.now c.args.name.now ≡ Some (kinds.Definition c.in-Some-Definition.definition) = c.in-Some-Definition.ensures.named ∙ ap Some c.in-Some-Definition.field-0-is in
    IfOk-weaker c.found_by-in-Some-Definition.result (IsAppliedAs c.expand.result) (FindsName c.args.terms.now c.args.names.now c.args.frames.now.items c.args.name.now c.expand.new.terms)
    (finds_definition c.args.terms.now c.expand.new.terms c.args.names.now c.args.frames.now.items c.args.name.now c.in-Some-Definition.definition c.expand.result free named c.expand.ensures.found
    c.expand.ensures.refused)
    c.found_by-in-Some-Definition.ensures.found
