-- What the leading zeros of two numbers of 128 bits say of their product.
use Rattle.std.proofs.Common.{◌≡◌, ℕ, ◌+◌, ◌*◌, ◌^◌, ◌<◌, ◌≤◌, arith, ⊎_elim, eq-zero-or-pos}
use Rattle.std.proofs.Math.Nat.{pow-le-pow_right}
use Rattle.std.proofs.lemmas.Nat.{pow-add, pow_below, leading_top, leading_length, mul-lt, mul-le}
use lib.Count.{count_leading_zeros}

pub product_below : (m n : ℕ) → m < 2 ^ 128 → n < 2 ^ 128 → 128 ≤ count_leading_zeros 128 m + count_leading_zeros 128 n → m * n < 2 ^ 128
product_below m n p q h =
    let i = leading_length 128 m p in
    let j = leading_length 128 n q in
    let small : m * n < 2 ^ i.0 * 2 ^ j.0 = mul-lt m n (2 ^ i.0) (2 ^ j.0) i.2 j.2 in
    let up : 2 ^ (i.0 + j.0) ≤ 2 ^ 128 = pow-le-pow_right {n = 2} (omega arith) {i = i.0 + j.0} {j = 128} (omega (arith, i.1, j.1)) in
    omega (arith, small, up, pow-add 2 i.0 j.0)

zeros_of_zero : (n : ℕ) → n ≡ 0 → 128 ≤ count_leading_zeros 128 n
zeros_of_zero n z =
    let j = leading_length 128 n (omega arith) in
    ⊎_elim
    (λ e. omega (arith, j.1))
    (λ p. let k : 2 ^ 0 < 2 ^ j.0 = pow_below 0 j.0 p in absurd (omega (arith, k, j.3)))
    (eq-zero-or-pos j.0)

positive : (n : ℕ) → count_leading_zeros 128 n < 128 → 0 < n
positive n h = ⊎_elim (λ e. absurd (omega (arith, zeros_of_zero n e))) (λ p. p) (eq-zero-or-pos n)

pub product_above : (m n : ℕ) → m < 2 ^ 128 → n < 2 ^ 128 → count_leading_zeros 128 m + count_leading_zeros 128 n < 128 → 2 ^ 127 ≤ m * n
product_above m n p q h =
    let i = leading_top 128 m (positive m (omega arith)) p in
    let j = leading_top 128 n (positive n (omega arith)) q in
    let large : 2 ^ i.0 * 2 ^ j.0 ≤ m * n = mul-le (2 ^ i.0) (2 ^ j.0) m n i.2 j.2 in
    let up : 2 ^ 127 ≤ 2 ^ (i.0 + j.0) = pow-le-pow_right {n = 2} (omega arith) {i = 127} {j = i.0 + j.0} (omega (arith, i.1, j.1)) in
    omega (arith, large, up, pow-add 2 i.0 j.0)
