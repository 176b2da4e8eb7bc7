use Rattle.std.proofs.Common.{sym, subst}
use Rattle.nz_lin.specs.Forms.{AreUnits}
use Rattle.nz_reals_tests.proofs.system.bound_on.Goals as goal

pub returns : goal.returns
returns c =
    let ns = c.args.terms.now in
    record { units = c.with_limit.ensures.units ns (subst (AreUnits ns) (sym c.at_most_zero.ensures.units) c.in_ok-form.ensures.form.units) }
