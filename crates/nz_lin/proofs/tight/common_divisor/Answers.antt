-- One coefficient more.
use Rattle.std.proofs.Common.{◌≡◌, ℕ, ◌≤◌, ◌+◌, List, ◌∷◌, drop, sym, ap, subst, ◌∙◌, arith, unsigned_abs}
use Rattle.std.proofs.lemmas.List.{drop_all}
use Rattle.nz_ints.proofs.Divisors.{gcd-zero}
use Rattle.nz_lists.proofs.Places.{drop_read}
use Rattle.nz_fractions.specs.Fraction.{gcd, floor, largest}
use Rattle.nz_spec.specs.clauses.LinearLiteral as linear
use Rattle.nz_lin.specs.declared.form.Part.{Part}
use Rattle.nz_lin.specs.Forms.{parts_over}
use Rattle.nz_lin.proofs.CommonDivisors.{gcd_assoc, gcd_bounded, gcd-zero_left}
use Rattle.nz_lin.proofs.tight.common_divisor.Goals as goal

pub loop-part-init : goal.loop-part-init
loop-part-init c = record { divisor = λ ns. gcd-zero_left (linear.common_divisor (parts_over ns c.args.parts.now)); fits = omega arith }

pub loop-part-preserved : goal.loop-part-preserved
loop-part-preserved c =
    let ps = c.args.parts.now in
    let i = c.loop-part.part-index in
    let p = c.part-item.result in
    let rest = drop (i + 1) ps in
    let left : drop i ps ≡ p ∷ rest = drop_read ps i p (omega arith) c.part-item.is in
    record {
      divisor = λ ns.
          let more = linear.common_divisor (parts_over ns rest) in
          ap (λ (n : ℕ). gcd n more) (c.greatest_divisor-divisor.ensures ∙ ap (λ (n : ℕ). gcd c.loop-part.divisor n) c.size.ensures.size)
          ∙ gcd_assoc c.loop-part.divisor (unsigned_abs (floor p.coefficient)) more
          ∙ ap (λ (l : List Part). gcd c.loop-part.divisor (linear.common_divisor (parts_over ns l))) (sym left)
          ∙ c.loop-part.invariant.divisor ns;
      fits = subst (λ (n : ℕ). n ≤ largest) (sym c.greatest_divisor-divisor.ensures) (gcd_bounded largest c.loop-part.divisor c.size.result c.loop-part.invariant.fits c.size.ensures.fits);
    }

pub returns : goal.returns
returns c = record {
  divisor = λ ns.
      sym (gcd-zero c.loop-part.divisor)
      ∙ ap (λ (l : List Part). gcd c.loop-part.divisor (linear.common_divisor (parts_over ns l))) (sym (drop_all c.loop-part.part-index c.args.parts.now (omega arith)))
      ∙ c.loop-part.invariant.divisor ns;
  fits = c.loop-part.invariant.fits;
}
