use Rattle.std.proofs.Common.{◌≡◌, ◌∙◌, map, is_some, IfSome, true, false, Err, ap, sym, subst, rules}
use Rattle.std.proofs.lemmas.Result.{IfOk-weaker}
use Rattle.nz_command.specs.View.{view as written}
use Rattle.nz_command.specs.Requests.{sort_view, parameter_view}
use Rattle.nz_script.specs.commands.Script.{scope_of, definition_of}
use Rattle.nz_script.specs.commands.Command.{refused}
use Rattle.nz_sort.specs.Acts.{rule_of}
use Rattle.nz_sort.specs.Live.{Standing}
use Rattle.nz_sort.proofs.DefinitionRules.{unmade_definition, redeclared_definition, nonlinear_definition, linear_definition}
use Rattle.nz_sort.proofs.LiveStates.{companions_made, live_scope, looked_up, typed_kept}
use Rattle.nz_sort.proofs.CommandRules.{broken_by, broken_in_each}
use Rattle.nz_sort.proofs.live.Live.definition.Goals as goal

pub is_linear-requires : goal.is_linear-requires
is_linear-requires c =
    let names = ap (λ (st : Standing). st.names) c.self.view_is in
    record { within = (c.in_ok-definition.ensures.found (scope_of c.requires.live.0) (live_scope _ c.args.self.now _ _ names c.requires.live.1)).holds.stands.typed.within }

pub returns-then-is_some-clause-refused : goal.returns-then-is_some-clause-refused
returns-then-is_some-clause-refused c =
    let names = ap (λ (st : Standing). st.names) c.self.view_is in
    let ps = map parameter_view c.args.parameters.now in
    let w = sort_view c.args.sort.now in
    let body = written c.args.body.now in
    let there : is_some c.get.result ≡ true = search rules in
    broken_in_each _ c.args.self.now (λ s. definition_of s c.args.name.now ps w body) (rule_of c.redeclared.result)
    (λ s live.
    let scope = live_scope _ c.args.self.now s _ names live in
    subst (λ refusal. IfSome (rule_of refusal) (λ e. definition_of s c.args.name.now ps w body ≡ refused e)) (sym c.redeclared.ensures.refusal)
    (redeclared_definition s c.args.name.now ps w body c.elaborate_body-made.new.terms c.elaborate_body-made.result
    (looked_up _ c.args.self.now s _ c.args.name.now c.get.result names live c.get.ensures.named c.get.ensures.none ∙ there)
    (λ is. c.elaborate_body-made.ensures.unknown is (scope_of s) scope)
    (λ is. c.elaborate_body-made.ensures.clash is (scope_of s) scope)
    (IfOk-weaker c.elaborate_body-made.result _ _ (λ d found. found (scope_of s) scope) c.elaborate_body-made.ensures.found)
    (λ is. c.elaborate_body-made.ensures.refused is (scope_of s) scope)))

pub returns-in_err-definition-clause-refused : goal.returns-in_err-definition-clause-refused
returns-in_err-definition-clause-refused c =
    let names = ap (λ (st : Standing). st.names) c.self.view_is in
    let ps = map parameter_view c.args.parameters.now in
    let w = sort_view c.args.sort.now in
    let body = written c.args.body.now in
    let absent : is_some c.get.result ≡ false = search rules in
    broken_by _ c.args.self.now (λ s. definition_of s c.args.name.now ps w body) c.in_err-definition.field-0.0 c.from_residual.result c.from_residual.ensures.1
    (λ s live.
    let scope = live_scope _ c.args.self.now s _ names live in
    unmade_definition s c.args.name.now ps w body c.in_err-definition.field-0.0
    (looked_up _ c.args.self.now s _ c.args.name.now c.get.result names live c.get.ensures.named c.get.ensures.none ∙ absent)
    (λ is. c.elaborate_body-made.ensures.unknown (c.in_err-definition.was ∙ ap Err is) (scope_of s) scope)
    (λ is. c.elaborate_body-made.ensures.clash (c.in_err-definition.was ∙ ap Err is) (scope_of s) scope)
    (λ is. c.elaborate_body-made.ensures.refused (c.in_err-definition.was ∙ ap Err is) (scope_of s) scope))

pub returns-then-not-is_linear-clause-refused : goal.returns-then-not-is_linear-clause-refused
returns-then-not-is_linear-clause-refused c = λ s live.
    let names = ap (λ (st : Standing). st.names) c.self.view_is in
    let absent : is_some c.get.result ≡ false = search rules in
    nonlinear_definition s c.args.name.now (map parameter_view c.args.parameters.now) (sort_view c.args.sort.now) (written c.args.body.now) c.elaborate_body-made.new.terms c.in_ok-definition.definition
    (looked_up _ c.args.self.now s _ c.args.name.now c.get.result names live c.get.ensures.named c.get.ensures.none ∙ absent)
    (c.in_ok-definition.ensures.found (scope_of s) (live_scope _ c.args.self.now s _ names live)) (sym c.is_linear.ensures.linear ∙ c.if-not-is_linear.true)

pub returns-clause-grows : goal.returns-clause-grows
returns-clause-grows c = c.grows_twice.ensures.twice _ _ _ c.in_ok-definition.ensures.grows c.in_ok-add_companions.ensures.grows

pub returns-clause-companions : goal.returns-clause-companions
returns-clause-companions c =
    companions_made c.args.terms.now c.elaborate_body-made.new.terms c.add_companions.new.terms c.mark-mark.result c.mark-mark.ensures.mark c.in_ok-definition.ensures.grows c.requires.live.1.companions
    c.in_ok-add_companions.ensures.companions

pub returns-clause-accepted : goal.returns-clause-accepted
returns-clause-accepted c = λ s live.
    let names = ap (λ (st : Standing). st.names) c.self.view_is in
    let absent : is_some c.get.result ≡ false = search rules in
    linear_definition c.terms_fit.ensures.fits s c.args.name.now (map parameter_view c.args.parameters.now) (sort_view c.args.sort.now) (written c.args.body.now)
    c.elaborate_body-made.new.terms c.add_companions.new.terms c.in_ok-definition.definition (live_scope c.args.terms.now c.args.self.now s _ names live).fits
    (looked_up _ c.args.self.now s _ c.args.name.now c.get.result names live c.get.ensures.named c.get.ensures.none ∙ absent)
    (c.in_ok-definition.ensures.found (scope_of s) (live_scope _ c.args.self.now s _ names live)) (sym c.is_linear.ensures.linear ∙ c.if-not-is_linear.false)
    (λ t typed. typed_kept c.elaborate_body-made.new.terms c.add_companions.new.terms c.in_ok-add_companions.ensures.grows c.in_ok-definition.definition.body t typed)
