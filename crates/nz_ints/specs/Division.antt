-- Greatest common divisors, least common multiples and division that rounds down.
-- Source: SMT-LIB 2.6, theory Ints (`div` by a positive divisor is the greatest integer not above the quotient); Euclid's Elements VII.2.
use Rattle.std.specs.Prelude.{ℕ, zero, suc, ◌*◌, ◌/◌, ◌%◌, ℤ, pos, negsuc}

-- Euclid's remainders, at most k of them
unfoldable pub gcd_within : ℕ → ℕ → ℕ → ℕ
gcd_within zero a b = a
gcd_within (suc k) a zero = a
gcd_within (suc k) a (suc b) = gcd_within k (suc b) (a % suc b)

-- the greatest common divisor; each remainder is below the one before it, so b of them suffice
unfoldable pub gcd : ℕ → ℕ → ℕ
gcd a b = gcd_within b a b

-- the least common multiple of two numbers above 0
unfoldable pub lcm : ℕ → ℕ → ℕ
lcm a b = a / gcd a b * b

-- the greatest integer that is at most n / d, for d above 0
unfoldable pub floor_div : ℤ → ℕ → ℤ
floor_div (pos n) d = pos (n / d)
floor_div (negsuc n) d = negsuc (n / d)
