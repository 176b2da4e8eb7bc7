-- Least common multiples: what they leave of each number, and that they are the least.
use Rattle.std.proofs.Common.{◌≡◌, ℕ, ◌*◌, ◌/◌, ◌<◌, sym, ap, ◌∙◌, mul_comm, mul_assoc}
use Rattle.std.proofs.Math.Nat.{mul-div_cancel}
use Rattle.nz_ints.specs.Division.{gcd, lcm}
use Rattle.nz_ints.proofs.Divisors.{gcd-left, gcd-right}

pub lcm-div_right : (a b : ℕ) → 0 < b → lcm a b / b ≡ a / gcd a b
unfolding lcm
lcm-div_right a b p = mul-div_cancel (a / gcd a b) p

-- the same multiple, from the other number
pub lcm-is : (a b : ℕ) → lcm a b ≡ b / gcd a b * a
unfolding lcm
lcm-is a b =
    let g = gcd a b in
    ap (λ (n : ℕ). a / g * n) (sym (gcd-right a b))
    ∙ sym (mul_assoc (a / g) g (b / g))
    ∙ ap (λ (n : ℕ). n * (b / g)) (mul_comm (a / g) g ∙ gcd-left a b)
    ∙ mul_comm a (b / g)

pub lcm-div_left : (a b : ℕ) → 0 < a → lcm a b / a ≡ b / gcd a b
lcm-div_left a b p = rw (lcm-is a b) (mul-div_cancel (b / gcd a b) p)
