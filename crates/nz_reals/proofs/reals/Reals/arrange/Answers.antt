use Rattle.std.proofs.Common.{rules, ◌≡◌, true, arith}
use Rattle.nz_reals.proofs.Arranged.{arranged_first, arranged_restarts}
use Rattle.nz_reals.proofs.reals.Reals.arrange.Goals as goal

pub follow-followed-requires-clause-arranged : goal.follow-followed-requires-clause-arranged
follow-followed-requires-clause-arranged c =
    let is : c.is_fresh.result ≡ true = search rules in
    let fresh = c.is_fresh.ensures.fresh is in
    arranged_first c.args.log.now.atoms c.args.atoms.now c.args.self.now fresh.0 fresh.1 c.stored.ensures.sound

pub returns-clause-restarts : goal.returns-clause-restarts
returns-clause-restarts c = λ ns ts within tabled over may.
    arranged_restarts c.args.log.now.atoms c.args.atoms.now c.args.self.now c.follow-followed.new.self c.follow-followed.ensures.arranged c.stored-2.ensures.sound c.stored-2.ensures.forms c.atom_count.ensures.atoms c.one_number.ensures.one
    c.tells_literals.ensures.tells ns ts within tabled over

pub returns-clause-fresh : goal.returns-clause-fresh
returns-clause-fresh c = λ some.
    let is : c.is_fresh.result ≡ true = search rules in
    let fresh = c.is_fresh.ensures.fresh is in
    let none = fresh.0 in
    absurd (omega (arith, some, none))
