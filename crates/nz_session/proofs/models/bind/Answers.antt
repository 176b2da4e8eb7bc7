use Rattle.std.proofs.Common.{◌≡◌, Some, option_map, sym, ap, ◌∙◌, arith}
use Rattle.std.specs.Prelude.{slice_get}
use Rattle.std.proofs.lemmas.Result.{on_ok_weaker}
use Rattle.nz_spec.specs.terms.Term.{constant}
use Rattle.nz_spec.specs.terms.Table.{Node}
use Rattle.nz_term.specs.Constants.{constant_of}
use Rattle.nz_term.specs.Heads.{head_of}
use Rattle.nz_term.specs.Values.{value_of}
use Rattle.nz_session.proofs.LiveModels.{bound_past, given_binding, given_pair, valued_past}
use Rattle.nz_session.proofs.models.bind.Goals as goal

pub returns-then-id-len : goal.returns-then-id-len
returns-then-id-len c =
    let ns = c.args.terms.now in
    let ps = c.args.assign.now in
    record {
      bindings = bound_past ns ps c.args.id c.args.bindings.now (omega (arith, c.len.ensures.len));
      values = valued_past ns ps c.args.id c.args.values.now (omega (arith, c.len.ensures.len));
    }

pub returns : goal.returns
returns c =
    let ns = c.args.terms.now in
    let ps = c.args.assign.now in
    let id = c.args.id in
    let k = c.in_ok-constant.constant in
    let law = c.assigns_by_number.ensures.listed in
    let table = c.known_table.ensures.table in
    let copied : k ≡ c.in-Constant.constant.now = c.in_ok-constant.ensures.cases in
    let head : option_map (λ (n : Node). n.head) (slice_get ns id) ≡ Some (constant (constant_of k)) =
    c.head.ensures.head ∙ ap (λ h. Some (head_of h)) c.in-Constant.is ∙ ap (λ x. Some (constant (constant_of x))) (sym copied) in
    let bound = given_binding law ns table ps id (constant_of k) (value_of c.value_in-value.result) c.args.bindings.now c.push-2.new.self head c.value_in-value.ensures.value in
    let valued = given_pair law ns table ps id (constant_of k) (value_of c.value_in.result) c.args.values.now c.push.new.self head c.value_in.ensures.value c.in_ok-push.ensures.grown in
    record {
      bindings = on_ok_weaker c.push-2.result bound c.push-2.ensures.grown;
      values = on_ok_weaker c.push-2.result (λ grown. valued) c.push-2.ensures.grown;
    }
