use Rattle.std.proofs.Common.{◌≡◌, true, false, length, subst}
use Rattle.nz_spec.specs.terms.Normal.{normal_node}
use Rattle.nz_spec.specs.terms.Table.{term_in, terms_at}
use Rattle.nz_spec.specs.terms.Operators.{takes, operator_head}
use Rattle.nz_term.specs.Constants.{sort_of}
use Rattle.nz_elaborate.specs.Typed.{StandsFor}
use Rattle.nz_elaborate.specs.Operators.{operator_meaning, operands_meaning}
use Rattle.nz_elaborate.proofs.OperatorApplications.{refused_count, refused_operands, applied_to}
use Rattle.nz_elaborate.proofs.apply.apply.Goals as goal

pub returns-then-not-takes-clause-refused : goal.returns-then-not-takes-clause-refused
returns-then-not-takes-clause-refused c = λ err ts typed.
    let none : takes (operator_meaning c.args.operator) (length c.args.arguments.now) ≡ false = cc in
    refused_count (operator_meaning c.args.operator) c.args.terms.now c.args.arguments.now ts none typed

pub returns-in_default-clause-refused : goal.returns-in_default-clause-refused
returns-in_default-clause-refused c = λ err ts typed.
    let counts : takes (operator_meaning c.args.operator) (length c.args.arguments.now) ≡ true = cc in
    refused_operands (operator_meaning c.args.operator) (operands_meaning c.operands_of.result) c.args.terms.now c.args.arguments.now ts counts c.operands_of.ensures.operands
    (c.in_default.ensures.sort c.args.terms.now ts typed) typed

pub returns-in_err-id-clause-grows : goal.returns-in_err-id-clause-grows
returns-in_err-id-clause-grows c = c.grows_twice.ensures.twice _ _ _ c.in_ok-kids.ensures.grows c.in_err-id.ensures.grows

pub returns-clause-grows : goal.returns-clause-grows
returns-clause-grows c = c.grows_twice.ensures.twice _ _ _ c.in_ok-kids.ensures.grows c.in_ok-id.ensures.grows

pub returns-clause-applied : goal.returns-clause-applied
returns-clause-applied c = λ ts typed.
    let o = operator_meaning c.args.operator in
    let s = sort_of c.in-Some.sort in
    let mid = c.read_at.new.terms in
    let new = c.normal_term.new.terms in
    let counts : takes o (length c.args.arguments.now) ≡ true = cc in
    let made : StandsFor new c.in_ok-id.id (normal_node (operator_head o s) (terms_at (term_in mid) c.in_ok-kids.kids.items)) =
    subst (λ ids. StandsFor new c.in_ok-id.id (normal_node (operator_head o s) (terms_at (term_in mid) ids))) c.as_slice.ensures.value c.in_ok-id.ensures.made in
    applied_to o (operands_meaning c.operands_of.result) s c.args.terms.now mid new c.args.arguments.now c.in_ok-kids.kids.items (record { id = c.in_ok-id.id; sort = c.sort_over.result }) ts
    counts c.operands_of.ensures.operands (c.in-Some.ensures.sort c.args.terms.now ts typed) (c.in_ok-kids.ensures.read ts typed) made c.sort_over.ensures.sort typed
