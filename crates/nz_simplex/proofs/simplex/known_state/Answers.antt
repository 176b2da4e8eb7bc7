-- What its fields keep.
use Rattle.std.proofs.Common.{subst}
use Rattle.nz_simplex.specs.State.{State, IsSound}
use Rattle.nz_simplex.proofs.simplex.known_state.Goals as goal

pub returns : goal.returns
returns g c = record { sound = subst (λ (s : State). IsSound s) c.simplex.view_is c.simplex.invariant.sound }
