-- What was prepared stands over the table as it is, also without some learned clauses.
use Rattle.std.proofs.Common.{◌∙◌, subst, sym}
use Rattle.std.proofs.lemmas.Result.{IfOk-weaker}
use Rattle.nz_search.specs.Levels.{added_by_level}
use Rattle.nz_engine.specs.declared.check.Retained.TheVariants as kept
use Rattle.nz_engine.specs.Keeping.{KeepsClauses}
use Rattle.nz_engine.specs.Preparing.{nothing_prepared}
use Rattle.nz_engine.proofs.KeptClauses.{keeps_itself}
use Rattle.nz_engine.proofs.KeptState.{prepared_over}
use Rattle.nz_engine.proofs.check.begun.Goals as goal

pub returns-in-Prepared : goal.returns-in-Prepared
returns-in-Prepared c =
    record {
      stands = λ front ns is kept.
          c.shed.ensures.stands ns c.args.levels.now (added_by_level c.args.levels.now)
          (prepared_over c.term_stays.ensures.stays c.logs_stay.ensures.stay c.covers_stay.ensures.stay front ns c.args.levels.now c.in-Prepared.prepared is (c.in-Prepared.ensures.low front kept));
      keeps = record { low = kept.Prepared c.in-Prepared.prepared; lowered = c.in-Prepared.ensures.keeps; keeps = c.shed.ensures.keeps };
      theory = c.shed.ensures.theory ∙ c.in-Prepared.ensures.theory;
    }

pub returns-in-Theory-clause-keeps : goal.returns-in-Theory-clause-keeps
returns-in-Theory-clause-keeps c =
    let none = nothing_prepared c.in-Theory.theory in
    IfOk-weaker c.new.result _ _
    (λ p is. record { low = kept.Theory c.in-Theory.theory; lowered = c.in-Theory.ensures.keeps; keeps = subst (KeepsClauses none) (sym is) (keeps_itself none) }) c.new.ensures.empty
