-- The denominator is one more than what is below it.
use Rattle.std.proofs.Common.{◌≡◌, ◌≤◌, ℕ, suc, ℤ, pos, Bool, true, of_z, rules, sym, ap, ◌∙◌, arith}
use Rattle.std.specs.Prelude.{◌==◌, ◌&&◌, nat_eq}
use Rattle.std.specs.Int.{w128}
use Rattle.std.specs.Ordering.{int_eq}
use Rattle.std.proofs.lemmas.Bool.Decides.{nat_tests}
use Rattle.std.proofs.lemmas.Int.{of_z-to_z, to_z_pos}
use Rattle.nz_fractions.specs.Fraction.{Fraction, denominator, largest}
use Rattle.nz_tab.proofs.tab.is_one.Goals as goal

-- a natural number of a machine integer
natural : (z : ℤ) (n : ℕ) → z ≡ pos n → n ≤ largest → of_z w128 z ≡ n
natural z n e h = ap (of_z w128) (e ∙ sym (to_z_pos w128 n (omega (arith, h)))) ∙ of_z-to_z w128 n (omega (arith, h))

one_below : (b : ℕ) → nat_eq (suc b) 1 ≡ (b == 0)
one_below b = grind (arith, nat_tests)

one_denominator : (q : Fraction) → nat_eq (denominator q) 1 ≡ (q.below == 0)
unfolding denominator
one_denominator q = one_below q.below

pub returns-then-num-eq1 : goal.returns-then-num-eq1
returns-then-num-eq1 c =
    let q = c.args.number in
    let one : int_eq q.numerator (pos 1) ≡ true = search rules in
    record {
      one =
          ap (λ (n : ℕ). nat_eq n 1) (natural c.den.result (denominator q) c.den.ensures.denominator c.den.ensures.number.denominator_fits)
          ∙ one_denominator q
          ∙ ap (λ (b : Bool). b && (q.below == 0)) (sym one);
    }
