-- Literals as numbers.
use Rattle.std.proofs.Common.{◌≡◌, ℕ, ◌+◌, ◌*◌, ◌==◌, ◌&&◌, Bool, true, false, refl, sym, ap, eqb-true, eq-eqb, arith}
use Rattle.nz_spec.specs.clauses.Literal.{are_same_sign}
use Rattle.nz_log.specs.declared.lits.Lit.{Lit}
use Rattle.nz_log.specs.Codes.{code_of, sign_bit}
use Rattle.nz_log.specs.Lits.{are_same_lit}
use Rattle.nz_log.proofs.LiteralSets.{same_lit}

both_or_none : (p q : Bool) → (p ≡ true → q ≡ true) → (q ≡ true → p ≡ true) → p ≡ q
both_or_none true true f g = refl
both_or_none true false f g = sym (f refl)
both_or_none false true f g = g refl
both_or_none false false f g = refl

tell : (a b : ℕ) (p q : Bool) → 2 * a + sign_bit p ≡ 2 * b + sign_bit q → ((a == b) && are_same_sign p q) ≡ true
tell a b true true e = let same : a ≡ b = omega (arith, e) in ap (λ (c : Bool). c && true) (eq-eqb a b same)
tell a b false false e = let same : a ≡ b = omega (arith, e) in ap (λ (c : Bool). c && true) (eq-eqb a b same)
tell a b true false e = absurd (omega (arith, e))
tell a b false true e = absurd (omega (arith, e))

-- the numbers are equal just where the literals are the same
pub same_code : (l m : Lit) → (code_of l == code_of m) ≡ are_same_lit l m
same_code l m =
    both_or_none (code_of l == code_of m) (are_same_lit l m) (λ e. tell l.atom m.atom l.sign m.sign (eqb-true (code_of l) (code_of m) e))
    (λ e. eq-eqb (code_of l) (code_of m) (ap code_of (same_lit l m e)))
