use Rattle.std.proofs.Common.{[], subst, sym}
use Rattle.nz_engine.specs.Engines.{IsAtRest}
use Rattle.nz_engine.proofs.KeptState.{empty_rest}
use Rattle.nz_engine.proofs.engine.Engine.new.Goals as goal

pub invariant_of-result : goal.invariant_of-result
invariant_of-result c =
    subst (IsAtRest []) (sym c.new-2.ensures.empty)
    (empty_rest c.theories_restart.ensures.restart [] (record { before = λ i n at. absurd cc; once = λ i j n at to. absurd cc; fits = λ i n at. absurd cc; leaves = λ i n at. absurd cc }))
