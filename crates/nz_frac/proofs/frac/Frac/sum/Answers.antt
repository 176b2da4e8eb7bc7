use Rattle.std.proofs.Common.{refl}
use Rattle.nz_frac.proofs.SumLemmas.{found_whole, no_whole_top, found_top, cast_fits, sum_answers_apart, wide-from_fits}
use Rattle.nz_frac.proofs.frac.Frac.sum.Goals as goal

pub returns-in_err-num : goal.returns-in_err-num
returns-in_err-num c =
    let h = found_whole c.self.invariant c.self.view_is c.other.invariant c.other.view_is c.if-self-eq1.true c.if-other-eq1.true in
    rw c.from_residual.ensures (no_whole_top h c.in_err-num.ensures)

pub invariant_of-result : goal.invariant_of-result
invariant_of-result c =
    let h = found_whole c.self.invariant c.self.view_is c.other.invariant c.other.view_is c.if-self-eq1.true c.if-other-eq1.true in
    let f = found_top h c.if-other-eq1.true (cast_fits c.self.invariant) (cast_fits c.other.invariant) c.in_ok-num.num c.in_ok-num.ensures in
    (sum_answers_apart h c.in_ok-num.num 1 f refl).parts

pub returns-in_ok-num : goal.returns-in_ok-num
returns-in_ok-num c =
    let h = found_whole c.self.invariant c.self.view_is c.other.invariant c.other.view_is c.if-self-eq1.true c.if-other-eq1.true in
    let f = found_top h c.if-other-eq1.true (cast_fits c.self.invariant) (cast_fits c.other.invariant) c.in_ok-num.num c.in_ok-num.ensures in
    (wide-from_fits _ _ f.fits, (sum_answers_apart h c.in_ok-num.num 1 f refl).value)
