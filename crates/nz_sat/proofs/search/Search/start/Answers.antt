-- The clauses that have but one literal, and then what follows.
use Rattle.std.proofs.Common.{◌≡◌, true, None, rules, is_some}
use Rattle.nz_sat.proofs.Beginnings.{starts_falsified, starts_so}
use Rattle.nz_sat.proofs.TrailGrowth.{none_told}
use Rattle.nz_sat.proofs.WatchedTrails.{goes_watched}
use Rattle.nz_sat.proofs.search.Search.start.Goals as goal

pub returns-then-is_some-clause-comes : goal.returns-then-is_some-clause-comes
returns-then-is_some-clause-comes c held h =
    let v = c.assert_lone-falsified.ensures in
    let some : is_some c.assert_lone-falsified.result ≡ true = search rules in
    starts_falsified c.args.log.now held c.args.self.now h c.requires.none c.assert_lone-falsified.new.trail v.visits c.assert_lone-falsified.result
    (none_told c.assert_lone-falsified.result some) v.falsified

pub propagate-requires : goal.propagate-requires
propagate-requires c =
    let s = c.args.self.now in
    let v = c.assert_lone-falsified.ensures.visits in
    record { watched = goes_watched c.args.log.now s.propagation s.trail c.assert_lone-falsified.new.trail v.goes_on v.size c.requires.watched }

pub returns-clause-comes : goal.returns-clause-comes
returns-clause-comes c held h =
    let v = c.assert_lone-falsified.ensures in
    let p = c.propagate.ensures in
    let none : c.assert_lone-falsified.result ≡ None = search rules in
    starts_so c.args.log.now held c.args.self.now h c.requires.none c.assert_lone-falsified.new.trail v.visits (v.hold none) c.propagate.new.trail c.propagate.new.self
    p.visits p.keeps p.watched c.propagate.result p.all p.falsified
