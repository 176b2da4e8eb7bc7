-- The numbers of literals: which are one, and below which they are.
use Rattle.std.proofs.Common.{◌≡◌, ◌≢◌, ℕ, ◌+◌, ◌*◌, ◌<◌, ◌≤◌, ◌⊎◌, inl, inr, Bool, true, false, refl, sym, ap, ◌∙◌, arith, true≢false, ◌&&◌, ◌==◌, eq-eqb, eqb-true}
use Rattle.std.proofs.lemmas.Bool.{and_parts, cases_eq}
use Rattle.nz_spec.specs.clauses.Literal.{are_same_sign}
use Rattle.nz_log.specs.declared.lits.Lit.{Lit}
use Rattle.nz_log.specs.Lits.{are_same_lit}
use Rattle.nz_log.specs.Codes.{code_of, sign_bit}

bit_small : (b : Bool) → sign_bit b ≤ 1
bit_small true = omega arith
bit_small false = omega arith

within_double : (a n b : ℕ) → a < n → b ≤ 1 → 2 * a + b < 2 * n
within_double a n b h small = omega (arith, h, small)

pub code_within : (l : Lit) (n : ℕ) → l.atom < n → code_of l < 2 * n
code_within l n h = within_double l.atom n (sign_bit l.sign) h (bit_small l.sign)

same_parts : (a b : ℕ) (p q : Bool) → 2 * a + sign_bit p ≡ 2 * b + sign_bit q → (a ≡ b) × (p ≡ q)
same_parts a b true true e = let same : a ≡ b = omega (arith, e) in (same, refl)
same_parts a b false false e = let same : a ≡ b = omega (arith, e) in (same, refl)
same_parts a b true false e = absurd (omega (arith, e))
same_parts a b false true e = absurd (omega (arith, e))

-- literals of one number are one
pub code_tells : (l m : Lit) → code_of l ≡ code_of m → l ≡ m
code_tells l m e =
    let parts = same_parts l.atom m.atom l.sign m.sign e in
    λ i. record { atom = parts.0 i; sign = parts.1 i }

pub other_code : (l m : Lit) → l ≢ m → code_of l ≢ code_of m
other_code l m other e = other (code_tells l m e)

pub lit_cases : (l m : Lit) → (l ≡ m) ⊎ (l ≡ m → ⊥)
lit_cases l m = elim (cases_eq (code_of l) (code_of m)) [
  | inl same ↦ inl (code_tells l m same)
  | inr other ↦ inr (λ e. other (ap code_of e))
]

sign_is : (p q : Bool) → are_same_sign p q ≡ true → p ≡ q
sign_is true true e = refl
sign_is true false e = absurd (true≢false (sym e))
sign_is false true e = absurd (true≢false (sym e))
sign_is false false e = refl

pub sign_same : (p : Bool) → are_same_sign p p ≡ true
sign_same true = refl
sign_same false = refl

-- the test tells which literals are one
pub lit_is : (l m : Lit) → are_same_lit l m ≡ true → l ≡ m
lit_is l m e =
    let parts = and_parts (l.atom == m.atom) (are_same_sign l.sign m.sign) e in
    let atom : l.atom ≡ m.atom = eqb-true l.atom m.atom parts.0 in
    let sign : l.sign ≡ m.sign = sign_is l.sign m.sign parts.1 in
    λ i. record { atom = atom i; sign = sign i }

pub lit_same : (l : Lit) → are_same_lit l l ≡ true
lit_same l = ap (λ (b : Bool). b && are_same_sign l.sign l.sign) (eq-eqb l.atom l.atom refl) ∙ sign_same l.sign

pub lit_is_not : (l m : Lit) → are_same_lit l m ≡ false → l ≢ m
lit_is_not l m e same = true≢false (sym (lit_same l) ∙ ap (are_same_lit l) same ∙ e)
