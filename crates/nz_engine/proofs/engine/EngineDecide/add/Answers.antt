use Rattle.std.proofs.Common.{◌<◌, ◌∙◌, length, ap, sym, subst}
use Rattle.nz_reals.specs.Starts.{MayRestart}
use Rattle.nz_reals.specs.State.{Theory}
use Rattle.nz_engine.specs.Engines.{Begins, EngineState, IsKept, table_of, theory_of}
use Rattle.nz_engine.proofs.KeptState.{kept_either}
use Rattle.nz_engine.proofs.AssertionPlaces.{added_goes_on}
use Rattle.nz_engine.proofs.engine.EngineDecide.add.Goals as goal

pub lowered-requires : goal.lowered-requires
lowered-requires c =
    let ns = table_of c.self.inside.seen in
    record { kept = (ns, subst (IsKept ns c.self.inside.levels) (sym c.take_kept-kept.ensures.taken) c.self.invariant) }

pub invariant_of-self : goal.invariant_of-self
invariant_of-self c =
    let ns = table_of c.self.inside.seen in
    let levels = c.self.inside.levels in
    let stay = c.logs_stay.ensures.stay in
    let some : 0 < length levels = subst (λ (e : EngineState). 0 < length e.levels) (sym c.self.view_is) c.requires.some in
    kept_either c.add.result stay ns levels _ c.add.new.self c.lowered.result (added_goes_on stay c.args.terms.now levels c.args.term some) c.add.ensures.ok c.add.ensures.err
    (c.lowered.ensures.low ns (subst (IsKept ns levels) (sym c.take_kept-kept.ensures.taken) c.self.invariant))

pub returns-clause-begins : goal.returns-clause-begins
returns-clause-begins c = λ ts may.
    subst (λ (t : Theory). MayRestart t (table_of c.self.inside.seen) ts) (sym (c.lowered.ensures.theory ∙ ap theory_of c.take_kept-kept.ensures.taken)) (subst (λ (e : EngineState). Begins e ts) (sym c.self.view_is) may)
