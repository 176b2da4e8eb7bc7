use Rattle.std.proofs.Common.{◌∙◌, ap, sym, subst}
use Rattle.nz_reals.specs.Starts.{MayRestart}
use Rattle.nz_reals.specs.State.{Theory}
use Rattle.nz_engine.specs.Engines.{Begins, EngineState, IsKept, table_of, theory_of}
use Rattle.nz_engine.proofs.KeptState.{kept_either}
use Rattle.nz_engine.proofs.AssertionPlaces.{level_goes_on}
use Rattle.nz_engine.proofs.engine.EngineDecide.push.Goals as goal

pub lowered-requires : goal.lowered-requires
lowered-requires c =
    let ns = table_of c.self.inside.seen in
    record { kept = (ns, subst (IsKept ns c.self.inside.levels) (sym c.take_kept-kept.ensures.taken) c.self.invariant) }

pub invariant_of-self : goal.invariant_of-self
invariant_of-self c =
    let ns = table_of c.self.inside.seen in
    let levels = c.self.inside.levels in
    let stay = c.logs_stay.ensures.stay in
    kept_either c.push.result stay ns levels _ c.push.new.self c.lowered.result (level_goes_on stay levels) c.push.ensures.ok c.push.ensures.err
    (c.lowered.ensures.low ns (subst (IsKept ns levels) (sym c.take_kept-kept.ensures.taken) c.self.invariant))

pub returns-clause-begins : goal.returns-clause-begins
returns-clause-begins c = λ ts may.
    subst (λ (t : Theory). MayRestart t (table_of c.self.inside.seen) ts) (sym (c.lowered.ensures.theory ∙ ap theory_of c.take_kept-kept.ensures.taken)) (subst (λ (e : EngineState). Begins e ts) (sym c.self.view_is) may)
