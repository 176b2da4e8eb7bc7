-- What a fraction's hash writes: its parts in lowest terms, so that equal values write alike.
use Rattle.std.specs.Prelude.{◌≡◌, ℕ, List, ◌++◌, IsTrue}
use Rattle.std.specs.Hash as fed
use Rattle.std.proofs.Common.{ap}
use Rattle.nz_fractions.specs.Fraction.{Fraction, denominator, reduce, fraction_eq}
use Rattle.nz_fractions.proofs.Order.{reduce-fraction_eq}

abbrev pub parts_written : Fraction → List (List ℕ)
parts_written q = fed.i128 q.numerator ++ fed.u128 (denominator q)

abbrev pub hashed : Fraction → List (List ℕ)
hashed q = parts_written (reduce q)

pub hashed-alike : (x y : Fraction) → IsTrue (fraction_eq x y) → hashed x ≡ hashed y
hashed-alike x y h = ap parts_written (reduce-fraction_eq x y h)
