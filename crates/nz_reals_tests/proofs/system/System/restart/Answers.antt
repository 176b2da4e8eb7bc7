use Rattle.std.proofs.Common.{◌≡◌, rules, true}
use Rattle.std.proofs.lemmas.Bool.{OnTrue_at}
use Rattle.nz_reals_tests.proofs.TheoryOverLog.{order_restarted}
use Rattle.nz_reals_tests.proofs.system.System.restart.Goals as goal

pub invariant_of-self-2 : goal.invariant_of-self-2
invariant_of-self-2 c =
    let s = c.self.inside in
    let known : s.known ≡ true = search rules in
    let h = OnTrue_at known c.self.invariant in
    order_restarted s.terms s.log s.reals c.restart.new.self s.atoms.items c.clear.new.self.items h c.clear.ensures.items (c.restart.ensures.over s.terms h.over) (c.in_ok-restart.ensures.of s.log.atoms) c.in_ok-restart.ensures.untold
