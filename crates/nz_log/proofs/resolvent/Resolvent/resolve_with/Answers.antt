-- The resolvent is made of the set of the first clause.
use Rattle.std.proofs.Common.{ap, fold, ◌∙◌}
use Rattle.std.proofs.lemmas.Result.{on_ok_weaker}
use Rattle.nz_spec.specs.clauses.Literal.{with_one, without}
use Rattle.nz_log.specs.declared.lits.Lit.{Lit}
use Rattle.nz_log.specs.Lits.{are_same_lit}
use Rattle.nz_log.proofs.LiteralSets.{resolvent_of_set}
use Rattle.nz_log.proofs.resolvent.Resolvent.resolve_with.Goals as goal

pub returns : goal.returns
returns c = record {
  resolvent = on_ok_weaker c.add_others.result
      (λ added d is.
      added
      ∙ ap (λ s. fold (with_one are_same_lit) s (without are_same_lit c.not.result c.args.clause.now)) c.remove.ensures.removed
      ∙ ap (λ (l : Lit). fold (with_one are_same_lit) (without are_same_lit c.args.on c.args.self.now) (without are_same_lit l c.args.clause.now)) c.not.ensures.negation
      ∙ resolvent_of_set c.args.on d c.args.clause.now c.args.self.now is)
      c.add_others.ensures.added;
}
