use Rattle.std.proofs.Common.{drop}
use Rattle.std.specs.Prelude.{IsTrue}
use Rattle.nz_spec.specs.terms.FormOf.{divided_by_each}
use Rattle.nz_spec.specs.terms.Linear.{are_divisors}
use Rattle.nz_lin.specs.Forms.{AreUnits, form_over}
use Rattle.nz_lin.specs.Making.{constants_at}
use Rattle.nz_spec.specs.numbers.Computation.{IsSame}
use Rattle.nz_lin.proofs.linear.all_divided.Given as goal

-- to divide what is divided so far by the rest is to divide the whole
abbrev pub invariant-loop-divisor : goal.invariant-loop-divisor
invariant-loop-divisor l = record {
  divided : AreUnits l.terms l.fn.form.parts → IsSame (divided_by_each (form_over l.terms l.form) (constants_at l.terms (drop l.divisor-index l.divisors))) (divided_by_each (form_over l.terms l.fn.form) (constants_at l.terms l.divisors));
  units : AreUnits l.terms l.fn.form.parts → AreUnits l.terms l.form.parts;
  divisors : IsTrue (are_divisors (constants_at l.terms (drop l.divisor-index l.divisors)));
}
