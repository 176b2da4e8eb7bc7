use Rattle.std.proofs.Common.{◌∙◌, true≢false, ap, sym, subst}
use Rattle.std.proofs.Math.Seq.{take-length}
use Rattle.nz_engine.specs.Engines.{IsKept, prepared_of, theory_of}
use Rattle.nz_engine.specs.Keeping.{IsKeptTo}
use Rattle.nz_engine.proofs.check.lowered.Goals as goal

pub returns-then-is_above : goal.returns-then-is_above
returns-then-is_above c = record {
  low = λ ns kept. c.cut_to.ensures.low ns c.args.levels.now (take-length c.args.levels.now) (subst (IsKept ns c.args.levels.now) c.in-Prepared.is kept);
  keeps = record {
    same = λ none. absurd (true≢false (sym c.if-is_above.true ∙ c.is_above.ensures.above ∙ ap (λ k. (prepared_of k).above) (sym c.in-Prepared.is) ∙ none));
    cuts = λ above. subst (λ k. IsKeptTo k c.args.levels.now c.cut_to.result) (sym c.in-Prepared.is) c.cut_to.ensures.keeps;
  };
  theory = c.cut_to.ensures.theory ∙ ap theory_of (sym c.in-Prepared.is);
}
