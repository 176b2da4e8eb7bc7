-- A solver for equations between polynomials over the integers: both sides are written as expressions over numbered atoms,
-- their difference is multiplied out, and the equation holds where each coefficient that is left is 0.
use Rattle.std.proofs.Common.{◌≡◌, ℕ, zero, suc, Bool, true, false, ◌&&◌, eqb, leb, List, [], ◌∷◌, ℤ, pos, negsuc, ◌+ℤ◌, ◌*ℤ◌, neg_ℤ, refl, arith, sym, ap, ap₂, ◌∙◌, true≢false, eqb-true}
use Rattle.std.proofs.Math.IntN.{*ℤ_comm, +ℤ_comm, +ℤ_assoc, zero-*ℤ, *ℤ-zero, +ℤ_idl}
use Rattle.std.proofs.lemmas.Int.{ints}
use Rattle.std.proofs.lemmas.Bool.{and_parts}
use Rattle.nz_ints.proofs.Products.{mul_assoc, mul-add, add-mul, mul-one, one-mul, minus_one-mul}

-- ---- expressions

infixl 6 ◌⊕◌
infixl 7 ◌⊗◌
pub data Expression : Type 0 where
  Atom : ℕ → Expression
  Literal : ℤ → Expression
  ◌⊕◌ : Expression → Expression → Expression
  ◌⊗◌ : Expression → Expression → Expression
  Minus : Expression → Expression

abbrev pub atom_at : List ℤ → ℕ → ℤ
atom_at [] i = pos 0
atom_at (x ∷ xs) zero = x
atom_at (x ∷ xs) (suc i) = atom_at xs i

abbrev pub value : List ℤ → Expression → ℤ
value xs (Atom i) = atom_at xs i
value xs (Literal z) = z
value xs (e ⊕ f) = value xs e +ℤ value xs f
value xs (e ⊗ f) = value xs e *ℤ value xs f
value xs (Minus e) = neg_ℤ (value xs e)

-- ---- sums of coefficients times products of atoms

pub data Polynomial : Type 0 where
  End : Polynomial
  More : ℤ → List ℕ → Polynomial → Polynomial

abbrev pub product : List ℤ → List ℕ → ℤ
product xs [] = pos 1
product xs (i ∷ m) = atom_at xs i *ℤ product xs m

abbrev pub total : List ℤ → Polynomial → ℤ
total xs End = pos 0
total xs (More c m p) = c *ℤ product xs m +ℤ total xs p

abbrev pub put_where : Bool → ℕ → ℕ → List ℕ → List ℕ → List ℕ
put_where true i j m later = i ∷ j ∷ m
put_where false i j m later = j ∷ later

abbrev pub put : ℕ → List ℕ → List ℕ
put i [] = i ∷ []
put i (j ∷ m) = put_where (leb i j) i j m (put i m)

abbrev pub join : List ℕ → List ℕ → List ℕ
join [] n = n
join (i ∷ m) n = put i (join m n)

abbrev pub same : List ℕ → List ℕ → Bool
same [] [] = true
same [] (j ∷ n) = false
same (i ∷ m) [] = false
same (i ∷ m) (j ∷ n) = eqb i j && same m n

abbrev pub add_where : Bool → ℤ → ℤ → List ℕ → Polynomial → Polynomial → Polynomial
add_where true c d n p later = More (c +ℤ d) n p
add_where false c d n p later = More d n later

abbrev pub add_term : ℤ → List ℕ → Polynomial → Polynomial
add_term c m End = More c m End
add_term c m (More d n p) = add_where (same m n) c d n p (add_term c m p)

abbrev pub add : Polynomial → Polynomial → Polynomial
add End q = q
add (More c m p) q = add_term c m (add p q)

abbrev pub mul_term : ℤ → List ℕ → Polynomial → Polynomial
mul_term c m End = End
mul_term c m (More d n q) = add_term (c *ℤ d) (join m n) (mul_term c m q)

abbrev pub mul : Polynomial → Polynomial → Polynomial
mul End q = End
mul (More c m p) q = add (mul_term c m q) (mul p q)

abbrev pub multiplied_out : Expression → Polynomial
multiplied_out (Atom i) = More (pos 1) (i ∷ []) End
multiplied_out (Literal z) = More z [] End
multiplied_out (e ⊕ f) = add (multiplied_out e) (multiplied_out f)
multiplied_out (e ⊗ f) = mul (multiplied_out e) (multiplied_out f)
multiplied_out (Minus e) = mul_term (negsuc 0) [] (multiplied_out e)

abbrev pub is_zero : ℤ → Bool
is_zero (pos n) = eqb n 0
is_zero (negsuc n) = false

abbrev pub vanishes : Polynomial → Bool
vanishes End = true
vanishes (More c m p) = is_zero c && vanishes p

-- both expressions multiply out to the same
abbrev pub agree : Expression → Expression → Bool
agree e f = vanishes (multiplied_out (e ⊕ Minus f))

-- ---- the value stays

regroup : (a b c : ℤ) → a *ℤ (b *ℤ c) ≡ b *ℤ (a *ℤ c)
regroup a b c = sym (mul_assoc a b c) ∙ ap (λ (z : ℤ). z *ℤ c) (*ℤ_comm a b) ∙ mul_assoc b a c

put_where-product : (b : Bool) (xs : List ℤ) (i j : ℕ) (m later : List ℕ) → product xs later ≡ atom_at xs i *ℤ product xs m → product xs (put_where b i j m later) ≡ atom_at xs i *ℤ (atom_at xs j *ℤ product xs m)
put_where-product true xs i j m later e = refl
put_where-product false xs i j m later e =
    ap (λ (z : ℤ). atom_at xs j *ℤ z) e ∙ regroup (atom_at xs j) (atom_at xs i) (product xs m)

put-product : (xs : List ℤ) (i : ℕ) (m : List ℕ) → product xs (put i m) ≡ atom_at xs i *ℤ product xs m
put-product xs i [] = refl
put-product xs i (j ∷ m) = put_where-product (leb i j) xs i j m (put i m) (put-product xs i m)

join-product : (xs : List ℤ) (m n : List ℕ) → product xs (join m n) ≡ product xs m *ℤ product xs n
join-product xs [] n = sym (one-mul (product xs n))
join-product xs (i ∷ m) n =
    put-product xs i (join m n)
    ∙ ap (λ (z : ℤ). atom_at xs i *ℤ z) (join-product xs m n)
    ∙ sym (mul_assoc (atom_at xs i) (product xs m) (product xs n))

same-equal : (m n : List ℕ) → same m n ≡ true → m ≡ n
same-equal [] [] e = refl
same-equal [] (j ∷ n) e = absurd (true≢false (sym e))
same-equal (i ∷ m) [] e = absurd (true≢false (sym e))
same-equal (i ∷ m) (j ∷ n) e =
    ap₂ (λ (k : ℕ) (l : List ℕ). k ∷ l) (eqb-true i j (and_parts (eqb i j) (same m n) e).0) (same-equal m n (and_parts (eqb i j) (same m n) e).1)

add_where-total : (b : Bool) (xs : List ℤ) (c d : ℤ) (m n : List ℕ) (p later : Polynomial) → same m n ≡ b → total xs later ≡ c *ℤ product xs m +ℤ total xs p → total xs (add_where b c d n p later) ≡ c *ℤ product xs m +ℤ (d *ℤ product xs n +ℤ total xs p)
add_where-total true xs c d m n p later t e =
    rw (same-equal m n t, add-mul c d (product xs n)) (+ℤ_assoc (c *ℤ product xs n) (d *ℤ product xs n) (total xs p))
add_where-total false xs c d m n p later t e =
    rw e
    (sym (+ℤ_assoc (d *ℤ product xs n) (c *ℤ product xs m) (total xs p))
    ∙ ap (λ (z : ℤ). z +ℤ total xs p) (+ℤ_comm (d *ℤ product xs n) (c *ℤ product xs m))
    ∙ +ℤ_assoc (c *ℤ product xs m) (d *ℤ product xs n) (total xs p))

add_term-total : (xs : List ℤ) (c : ℤ) (m : List ℕ) (p : Polynomial) → total xs (add_term c m p) ≡ c *ℤ product xs m +ℤ total xs p
add_term-total xs c m End = refl
add_term-total xs c m (More d n p) =
    add_where-total (same m n) xs c d m n p (add_term c m p) refl (add_term-total xs c m p)

add-total : (xs : List ℤ) (p q : Polynomial) → total xs (add p q) ≡ total xs p +ℤ total xs q
add-total xs End q = sym (+ℤ_idl (total xs q))
add-total xs (More c m p) q =
    add_term-total xs c m (add p q)
    ∙ ap (λ (z : ℤ). c *ℤ product xs m +ℤ z) (add-total xs p q)
    ∙ sym (+ℤ_assoc (c *ℤ product xs m) (total xs p) (total xs q))

exchange : (a b c d : ℤ) → (a *ℤ b) *ℤ (c *ℤ d) ≡ (a *ℤ c) *ℤ (b *ℤ d)
exchange a b c d = mul_assoc a b (c *ℤ d) ∙ ap (λ (z : ℤ). a *ℤ z) (regroup b c d) ∙ sym (mul_assoc a c (b *ℤ d))

mul_term-total : (xs : List ℤ) (c : ℤ) (m : List ℕ) (q : Polynomial) → total xs (mul_term c m q) ≡ (c *ℤ product xs m) *ℤ total xs q
mul_term-total xs c m End = sym (*ℤ-zero (c *ℤ product xs m))
mul_term-total xs c m (More d n q) =
    add_term-total xs (c *ℤ d) (join m n) (mul_term c m q)
    ∙ ap₂
    (λ (y z : ℤ). y +ℤ z)
    (ap (λ (z : ℤ). (c *ℤ d) *ℤ z) (join-product xs m n) ∙ exchange c d (product xs m) (product xs n))
    (mul_term-total xs c m q)
    ∙ sym (mul-add (c *ℤ product xs m) (d *ℤ product xs n) (total xs q))

mul-total : (xs : List ℤ) (p q : Polynomial) → total xs (mul p q) ≡ total xs p *ℤ total xs q
mul-total xs End q = sym (zero-*ℤ (total xs q))
mul-total xs (More c m p) q =
    add-total xs (mul_term c m q) (mul p q)
    ∙ ap₂ (λ (y z : ℤ). y +ℤ z) (mul_term-total xs c m q) (mul-total xs p q)
    ∙ sym (add-mul (c *ℤ product xs m) (total xs p) (total xs q))

multiplied_out-total : (xs : List ℤ) (e : Expression) → total xs (multiplied_out e) ≡ value xs e
multiplied_out-total xs (Atom i) = omega (arith, ints)
multiplied_out-total xs (Literal z) = omega (arith, ints)
multiplied_out-total xs (e ⊕ f) =
    add-total xs (multiplied_out e) (multiplied_out f)
    ∙ ap₂ (λ (y z : ℤ). y +ℤ z) (multiplied_out-total xs e) (multiplied_out-total xs f)
multiplied_out-total xs (e ⊗ f) =
    mul-total xs (multiplied_out e) (multiplied_out f)
    ∙ ap₂ (λ (y z : ℤ). y *ℤ z) (multiplied_out-total xs e) (multiplied_out-total xs f)
multiplied_out-total xs (Minus e) =
    mul_term-total xs (negsuc 0) [] (multiplied_out e)
    ∙ ap₂ (λ (y z : ℤ). y *ℤ z) (mul-one (negsuc 0)) (multiplied_out-total xs e)
    ∙ minus_one-mul (value xs e)

zero-from_is_zero : (c : ℤ) → is_zero c ≡ true → c ≡ pos 0
zero-from_is_zero (pos n) e = ap pos (eqb-true n 0 e)
zero-from_is_zero (negsuc n) e = absurd (true≢false (sym e))

vanishes-total : (xs : List ℤ) (p : Polynomial) → vanishes p ≡ true → total xs p ≡ pos 0
vanishes-total xs End e = refl
vanishes-total xs (More c m p) e =
    rw (
      zero-from_is_zero c (and_parts (is_zero c) (vanishes p) e).0,
      zero-*ℤ (product xs m),
      vanishes-total xs p (and_parts (is_zero c) (vanishes p) e).1,
    )
    refl

-- two expressions that agree have one value, whatever the atoms are
pub solve : (xs : List ℤ) (e f : Expression) → agree e f ≡ true → value xs e ≡ value xs f
solve xs e f t =
    let h : value xs e +ℤ neg_ℤ (value xs f) ≡ pos 0 =
    sym (multiplied_out-total xs (e ⊕ Minus f)) ∙ vanishes-total xs (multiplied_out (e ⊕ Minus f)) t
    in
    omega (arith, ints)
