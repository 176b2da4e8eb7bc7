-- Tests joined by `and` and `or`, and what an equivalence tells of a test.
use Rattle.std.proofs.Common.{◌≡◌, Bool, true, false, not, ◌&&◌, ◌||◌, IsTrue, refl, sym, true≢false}
use Rattle.std.specs.Prelude.{◌↔◌}
use Rattle.std.proofs.Math.Bool.{or-false}

-- ---- Joined tests

pub or_again : (a b : Bool) → ((a || b) || a) ≡ (a || b)
or_again true b = refl
or_again false b = or-false b

-- one after another is denied where neither holds
pub not_or : (b c d : Bool) → (not b && (not c && d)) ≡ (not (b || c) && d)
not_or true c d = refl
not_or false c d = refl

-- ---- Equivalent tests

pub same_tests : (b d : Bool) → (b ≡ true → d ≡ true) → (d ≡ true → b ≡ true) → b ≡ d
same_tests true d f g = sym (f refl)
same_tests false true f g = g refl
same_tests false false f g = refl

pub no_contradiction : (b : Bool) → IsTrue b → IsTrue (not b) → ⊥
no_contradiction true h k = true≢false (sym k)
no_contradiction false h k = true≢false (sym h)

-- what an answer tells of the test that it is equivalent to
pub told_true : {b : Bool} → (true ≡ true ↔ IsTrue b) → b ≡ true
told_true h = h.0 refl

pub told_false : {b : Bool} → (false ≡ true ↔ IsTrue b) → b ≡ false
told_false {b = true} h = absurd (true≢false (sym (h.1 refl)))
told_false {b = false} h = refl
