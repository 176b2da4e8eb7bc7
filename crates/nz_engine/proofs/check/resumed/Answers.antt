use Rattle.std.proofs.Common.{rules, [], sym, subst}
use Rattle.std.proofs.lemmas.Result.{IfOk-weaker}
use Rattle.nz_search.specs.Levels.{added_by_level}
use Rattle.nz_engine.specs.Engines.{IsKept}
use Rattle.nz_engine.specs.Preparing.{IsPrepared, nothing_prepared}
use Rattle.nz_engine.proofs.LevelPreservation.{standing}
use Rattle.nz_engine.proofs.check.resumed.Goals as goal

pub returns-in-Prepared-clause-stands : goal.returns-in-Prepared-clause-stands
returns-in-Prepared-clause-stands c = λ ns levels kept.
    let h = subst (IsKept ns levels) c.in-Prepared.is kept in
    (h.more, h.standing)

pub returns-in-Theory-clause-stands : goal.returns-in-Theory-clause-stands
returns-in-Theory-clause-stands c =
    IfOk-weaker c.new.result _ _
    (λ p is ns levels kept.
    let h : IsPrepared ns levels (added_by_level levels) (nothing_prepared c.in-Theory.theory) = search rules in
    ([], standing ns levels [] p (subst (IsPrepared ns levels (added_by_level levels)) (sym is) h))) c.new.ensures.empty
