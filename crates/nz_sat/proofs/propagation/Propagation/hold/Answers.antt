-- Where none are watched.
use Rattle.std.proofs.Common.{◌≡◌, [], ◌∷◌, ◌++◌, refl, subst, rules}
use Rattle.nz_sat.specs.Watched.{MayHold}
use Rattle.nz_sat.proofs.Holding.{lone_watched}
use Rattle.nz_sat.proofs.propagation.Propagation.hold.Goals as goal

pub returns-in_ok-push-in-None-clause-watched : goal.returns-in_ok-push-in-None-clause-watched
returns-in_ok-push-in-None-clause-watched c t w may =
    let p = c.args.self.now in
    let more : c.push.new.self.items ≡ p.lone.items ++ c.args.held ∷ [] = search rules in
    lone_watched c.args.log.now p (record p { lone = c.push.new.self }) t c.args.held more refl w (subst (MayHold c.args.log.now t p.head c.args.held) c.in-None.is may)
