use Rattle.std.proofs.Common.{◌≡◌, sym, subst, rules}
use Rattle.std.proofs.lemmas.Result.{on_ok_weaker}
use Rattle.nz_spec.specs.terms.Table.{term_in, terms_at}
use Rattle.nz_spec.specs.terms.Term.{Head}
use Rattle.nz_term.specs.Heads.{head_of, operator_of}
use Rattle.nz_taken_samples.specs.Sorted.{IsRowOf}
use Rattle.nz_taken_samples.proofs.TakenTerms.{operator_row}
use Rattle.nz_taken_samples.proofs.taken.need_row.Goals as goal

pub returns-in-Operator : goal.returns-in-Operator
returns-in-Operator c =
    let ts = terms_at (term_in c.args.terms.now) c.args.kids.now in
    let is : head_of c.args.head ≡ operator_of c.in-Operator.operator = search rules in
    record { row = on_ok_weaker c.need_operator.result (λ taken. subst (λ (h : Head). IsRowOf h ts) (sym is) (operator_row c.in-Operator.operator ts taken)) c.need_operator.ensures.taken }
