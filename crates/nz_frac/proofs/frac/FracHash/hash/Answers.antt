use Rattle.nz_frac.proofs.PartLemmas.{num-reduce, den-reduce}
use Rattle.nz_frac.proofs.frac.FracHash.hash.Goals as goal

pub returns : goal.returns
returns g c =
    let e = num-reduce c.self.invariant c.self.view_is in
    let f = den-reduce c.self.invariant c.self.view_is in
    let h = c.hash.ensures in
    let k = c.hash-2.ensures in
    cc (e, f, h, k)
