-- Once the unit.
use Rattle.std.proofs.Common.{subst}
use Rattle.nz_fractions.specs.Fraction.{Fraction}
use Rattle.nz_spec.specs.numbers.Computation.{at_once}
use Rattle.nz_spec.specs.terms.Table.{term_in}
use Rattle.nz_spec.specs.clauses.Units.{times_unit}
use Rattle.nz_lin.specs.Comes.{IsFormed}
use Rattle.nz_rows.proofs.bounds.unit_alone.Goals as goal

pub returns : goal.returns
returns c =
    let ns = c.args.terms.now in
    record { formed = subst (λ (k : Fraction). IsFormed ns (at_once (times_unit k (term_in ns c.args.unit))) c.times.result) c.whole.ensures c.times.ensures.formed }
