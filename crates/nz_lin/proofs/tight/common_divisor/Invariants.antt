use Rattle.std.proofs.Common.{◌≡◌, ◌≤◌, List, drop}
use Rattle.nz_fractions.specs.Fraction.{gcd, largest}
use Rattle.nz_spec.specs.clauses.LinearLiteral as linear
use Rattle.nz_spec.specs.terms.Table.{Node}
use Rattle.nz_lin.specs.Forms.{parts_over}
use Rattle.nz_lin.proofs.tight.common_divisor.Given as goal

-- the divisor so far and that of the rest have that of all
abbrev pub invariant-loop-part : goal.invariant-loop-part
invariant-loop-part l = record {
  divisor : (ns : List Node) → gcd l.divisor (linear.common_divisor (parts_over ns (drop l.part-index l.parts))) ≡ linear.common_divisor (parts_over ns l.parts);
  fits : l.divisor ≤ largest;
}
