use Rattle.std.proofs.Common.{◌≡◌, ◌-◌, ◌∙◌, length, take, ap, sym, subst}
use Rattle.nz_reals.specs.Starts.{MayRestart}
use Rattle.nz_reals.specs.State.{Theory}
use Rattle.nz_engine.specs.Engines.{Begins, EngineState, IsKept, table_of, theory_of}
use Rattle.nz_engine.proofs.KeptState.{kept_low, take_again}
use Rattle.nz_engine.proofs.engine.EngineDecide.pop.Goals as goal

pub cut_kept-requires : goal.cut_kept-requires
cut_kept-requires c =
    let ns = table_of c.self.inside.seen in
    let levels = c.self.inside.levels in
    record { kept = (ns, levels, subst (IsKept ns levels) (sym c.take_kept-kept.ensures.taken) c.self.invariant) }

pub invariant_of-self : goal.invariant_of-self
invariant_of-self c =
    let ns = table_of c.self.inside.seen in
    let levels = c.self.inside.levels in
    let new = c.pop.new.self in
    let front : take (length new) levels ≡ new = take_again (length levels - c.args.count) levels new c.pop.ensures.rest in
    kept_low ns new c.cut_kept.result (c.cut_kept.ensures.low ns levels front (subst (IsKept ns levels) (sym c.take_kept-kept.ensures.taken) c.self.invariant))

pub returns-clause-begins : goal.returns-clause-begins
returns-clause-begins c = λ ts may.
    subst (λ (t : Theory). MayRestart t (table_of c.self.inside.seen) ts) (sym (c.cut_kept.ensures.theory ∙ ap theory_of c.take_kept-kept.ensures.taken)) (subst (λ (e : EngineState). Begins e ts) (sym c.self.view_is) may)
