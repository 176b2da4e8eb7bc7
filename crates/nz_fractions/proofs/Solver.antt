-- A solver for equations between sums and products of fractions, up to equality by cross products. Both sides are expressions
-- over numbered fractions; they are multiplied out as the solver for integers does it, which knows nothing of the atoms.
use Rattle.std.proofs.Common.{◌≡◌, ℕ, zero, suc, Bool, true, false, eqb, leb, List, [], ◌∷◌, ℤ, pos, negsuc, ◌+ℤ◌, ◌*ℤ◌, refl, sym, ap₂, subst, true≢false, eqb-true}
use Rattle.std.proofs.lemmas.Bool.{and_parts}
use Rattle.nz_ints.proofs.Ring as ring
use Rattle.nz_ints.proofs.Ring.{Expression, Atom, Literal, ◌⊕◌, ◌⊗◌, Minus, Polynomial, End, More, agree}
use Rattle.nz_fractions.specs.Fraction.{Fraction, denominator, whole, ◌=ℚ◌, ◌+ℚ◌, neg_ℚ, ◌*ℚ◌}
use Rattle.nz_fractions.proofs.Laws.{=ℚ_refl, =ℚ-from_same, =ℚ_sym, =ℚ_trans}
use Rattle.nz_fractions.proofs.Arithmetic.{own_parts, sum_parts, product_parts, neg_parts, whole_parts, by_parts, +ℚ_comm, +ℚ_assoc, +ℚ-zero, +ℚ-neg, +ℚ-same, *ℚ_comm, *ℚ_assoc, *ℚ-one, *ℚ-+ℚ, *ℚ-same}
use Rattle.nz_fractions.proofs.Identities.{zero_left, zero_times, times_zero, one_times, +ℚ-*ℚ}

-- ---- Chains of equal fractions

infixl 3 ◌∙ℚ◌
pub ◌∙ℚ◌ : {p q r : Fraction} → p =ℚ q → q =ℚ r → p =ℚ r
h ∙ℚ k = =ℚ_trans h k

pub plus_left : {p q : Fraction} (r : Fraction) → p =ℚ q → (p +ℚ r) =ℚ (q +ℚ r)
plus_left r h = +ℚ-same h (=ℚ_refl r)

pub plus_right : {p q : Fraction} (r : Fraction) → p =ℚ q → (r +ℚ p) =ℚ (r +ℚ q)
plus_right r h = +ℚ-same (=ℚ_refl r) h

pub times_left : {p q : Fraction} (r : Fraction) → p =ℚ q → (p *ℚ r) =ℚ (q *ℚ r)
times_left r h = *ℚ-same h (=ℚ_refl r)

pub times_right : {p q : Fraction} (r : Fraction) → p =ℚ q → (r *ℚ p) =ℚ (r *ℚ q)
times_right r h = *ℚ-same (=ℚ_refl r) h

-- ---- Expressions over fractions

abbrev pub fraction_at : List Fraction → ℕ → Fraction
fraction_at [] i = whole (pos 0)
fraction_at (x ∷ xs) zero = x
fraction_at (x ∷ xs) (suc i) = fraction_at xs i

abbrev pub worth : List Fraction → Expression → Fraction
worth xs (Atom i) = fraction_at xs i
worth xs (Literal z) = whole z
worth xs (e ⊕ f) = worth xs e +ℚ worth xs f
worth xs (e ⊗ f) = worth xs e *ℚ worth xs f
worth xs (Minus e) = neg_ℚ (worth xs e)

abbrev product : List Fraction → List ℕ → Fraction
product xs [] = whole (pos 1)
product xs (i ∷ m) = fraction_at xs i *ℚ product xs m

abbrev total : List Fraction → Polynomial → Fraction
total xs End = whole (pos 0)
total xs (More c m p) = whole c *ℚ product xs m +ℚ total xs p

-- ---- Multiplying out keeps the value

whole-sum : (c d : ℤ) → whole (c +ℤ d) =ℚ (whole c +ℚ whole d)
whole-sum c d =
    by_parts (whole_parts (c +ℤ d)) (sum_parts (whole_parts c) (whole_parts d))
    (ring.solve (c ∷ d ∷ []) ((Atom 0 ⊕ Atom 1) ⊗ (Literal (pos 1) ⊗ Literal (pos 1))) ((Atom 0 ⊗ Literal (pos 1) ⊕ Atom 1 ⊗ Literal (pos 1)) ⊗ Literal (pos 1)) refl)

whole-product : (c d : ℤ) → whole (c *ℤ d) =ℚ (whole c *ℚ whole d)
whole-product c d =
    by_parts (whole_parts (c *ℤ d)) (product_parts (whole_parts c) (whole_parts d))
    (ring.solve (c ∷ d ∷ []) ((Atom 0 ⊗ Atom 1) ⊗ (Literal (pos 1) ⊗ Literal (pos 1))) ((Atom 0 ⊗ Atom 1) ⊗ Literal (pos 1)) refl)

minus_one : (p : Fraction) → ((whole (negsuc 0) *ℚ whole (pos 1)) *ℚ p) =ℚ neg_ℚ p
minus_one p =
    by_parts
    (product_parts (product_parts (whole_parts (negsuc 0)) (whole_parts (pos 1))) (own_parts p))
    (neg_parts (own_parts p))
    (ring.solve (p.numerator ∷ pos (denominator p) ∷ [])
    (((Literal (negsuc 0) ⊗ Literal (pos 1)) ⊗ Atom 0) ⊗ Atom 1)
    (Minus (Atom 0) ⊗ ((Literal (pos 1) ⊗ Literal (pos 1)) ⊗ Atom 1)) refl)

regroup : (a b c : Fraction) → (a *ℚ (b *ℚ c)) =ℚ (b *ℚ (a *ℚ c))
regroup a b c = =ℚ_sym (*ℚ_assoc a b c) ∙ℚ times_left c (*ℚ_comm a b) ∙ℚ *ℚ_assoc b a c

exchange : (a b c d : Fraction) → ((a *ℚ b) *ℚ (c *ℚ d)) =ℚ ((a *ℚ c) *ℚ (b *ℚ d))
exchange a b c d = *ℚ_assoc a b (c *ℚ d) ∙ℚ times_right a (regroup b c d) ∙ℚ =ℚ_sym (*ℚ_assoc a c (b *ℚ d))

module _ (xs : List Fraction) where
  put_where-product : (b : Bool) (i j : ℕ) (m later : List ℕ) → product xs later =ℚ (fraction_at xs i *ℚ product xs m)
      → product xs (ring.put_where b i j m later) =ℚ (fraction_at xs i *ℚ (fraction_at xs j *ℚ product xs m))
  put_where-product true i j m later e = =ℚ_refl (fraction_at xs i *ℚ (fraction_at xs j *ℚ product xs m))
  put_where-product false i j m later e = times_right (fraction_at xs j) e ∙ℚ regroup (fraction_at xs j) (fraction_at xs i) (product xs m)

  put-product : (i : ℕ) (m : List ℕ) → product xs (ring.put i m) =ℚ (fraction_at xs i *ℚ product xs m)
  put-product i [] = =ℚ_refl (fraction_at xs i *ℚ whole (pos 1))
  put-product i (j ∷ m) = put_where-product (leb i j) i j m (ring.put i m) (put-product i m)

  join-product : (m n : List ℕ) → product xs (ring.join m n) =ℚ (product xs m *ℚ product xs n)
  join-product [] n = =ℚ_sym (one_times (product xs n))
  join-product (i ∷ m) n =
      put-product i (ring.join m n)
      ∙ℚ times_right (fraction_at xs i) (join-product m n)
      ∙ℚ =ℚ_sym (*ℚ_assoc (fraction_at xs i) (product xs m) (product xs n))

  same-equal : (m n : List ℕ) → ring.same m n ≡ true → m ≡ n
  same-equal [] [] e = refl
  same-equal [] (j ∷ n) e = absurd (true≢false (sym e))
  same-equal (i ∷ m) [] e = absurd (true≢false (sym e))
  same-equal (i ∷ m) (j ∷ n) e =
      let parts = and_parts (eqb i j) (ring.same m n) e in
      ap₂ (λ (k : ℕ) (l : List ℕ). k ∷ l) (eqb-true i j parts.0) (same-equal m n parts.1)

  add_where-total : (b : Bool) (c d : ℤ) (m n : List ℕ) (p later : Polynomial) → ring.same m n ≡ b
      → total xs later =ℚ (whole c *ℚ product xs m +ℚ total xs p)
      → total xs (ring.add_where b c d n p later) =ℚ (whole c *ℚ product xs m +ℚ (whole d *ℚ product xs n +ℚ total xs p))
  add_where-total true c d m n p later t e =
      let u = product xs n in
      plus_left (total xs p) (times_left u (whole-sum c d) ∙ℚ +ℚ-*ℚ (whole c) (whole d) u)
      ∙ℚ +ℚ_assoc (whole c *ℚ u) (whole d *ℚ u) (total xs p)
      ∙ℚ =ℚ-from_same (subst (λ (l : List ℕ). (whole c *ℚ u +ℚ (whole d *ℚ u +ℚ total xs p)) ≡ (whole c *ℚ product xs l +ℚ (whole d *ℚ u +ℚ total xs p))) (sym (same-equal m n t)) refl)
  add_where-total false c d m n p later t e =
      let a = whole d *ℚ product xs n in
      let b = whole c *ℚ product xs m in
      plus_right a e
      ∙ℚ =ℚ_sym (+ℚ_assoc a b (total xs p))
      ∙ℚ plus_left (total xs p) (+ℚ_comm a b)
      ∙ℚ +ℚ_assoc b a (total xs p)

  add_term-total : (c : ℤ) (m : List ℕ) (p : Polynomial) → total xs (ring.add_term c m p) =ℚ (whole c *ℚ product xs m +ℚ total xs p)
  add_term-total c m End = =ℚ_refl (whole c *ℚ product xs m +ℚ whole (pos 0))
  add_term-total c m (More d n p) = add_where-total (ring.same m n) c d m n p (ring.add_term c m p) refl (add_term-total c m p)

  add-total : (p q : Polynomial) → total xs (ring.add p q) =ℚ (total xs p +ℚ total xs q)
  add-total End q = =ℚ_sym (zero_left (total xs q))
  add-total (More c m p) q =
      let a = whole c *ℚ product xs m in
      add_term-total c m (ring.add p q) ∙ℚ plus_right a (add-total p q) ∙ℚ =ℚ_sym (+ℚ_assoc a (total xs p) (total xs q))

  mul_term-total : (c : ℤ) (m : List ℕ) (q : Polynomial) → total xs (ring.mul_term c m q) =ℚ ((whole c *ℚ product xs m) *ℚ total xs q)
  mul_term-total c m End = =ℚ_sym (times_zero (whole c *ℚ product xs m))
  mul_term-total c m (More d n q) =
      let a = whole c *ℚ product xs m in
      add_term-total (c *ℤ d) (ring.join m n) (ring.mul_term c m q)
      ∙ℚ +ℚ-same
      (*ℚ-same (whole-product c d) (join-product m n) ∙ℚ exchange (whole c) (whole d) (product xs m) (product xs n))
      (mul_term-total c m q)
      ∙ℚ =ℚ_sym (*ℚ-+ℚ a (whole d *ℚ product xs n) (total xs q))

  mul-total : (p q : Polynomial) → total xs (ring.mul p q) =ℚ (total xs p *ℚ total xs q)
  mul-total End q = =ℚ_sym (zero_times (total xs q))
  mul-total (More c m p) q =
      let a = whole c *ℚ product xs m in
      add-total (ring.mul_term c m q) (ring.mul p q)
      ∙ℚ +ℚ-same (mul_term-total c m q) (mul-total p q)
      ∙ℚ =ℚ_sym (+ℚ-*ℚ a (total xs p) (total xs q))

  multiplied_out-total : (e : Expression) → total xs (ring.multiplied_out e) =ℚ worth xs e
  multiplied_out-total (Atom i) =
      +ℚ-zero (whole (pos 1) *ℚ (fraction_at xs i *ℚ whole (pos 1)))
      ∙ℚ one_times (fraction_at xs i *ℚ whole (pos 1))
      ∙ℚ *ℚ-one (fraction_at xs i)
  multiplied_out-total (Literal z) = +ℚ-zero (whole z *ℚ whole (pos 1)) ∙ℚ *ℚ-one (whole z)
  multiplied_out-total (e ⊕ f) =
      add-total (ring.multiplied_out e) (ring.multiplied_out f) ∙ℚ +ℚ-same (multiplied_out-total e) (multiplied_out-total f)
  multiplied_out-total (e ⊗ f) =
      mul-total (ring.multiplied_out e) (ring.multiplied_out f) ∙ℚ *ℚ-same (multiplied_out-total e) (multiplied_out-total f)
  multiplied_out-total (Minus e) =
      mul_term-total (negsuc 0) [] (ring.multiplied_out e)
      ∙ℚ times_right (whole (negsuc 0) *ℚ whole (pos 1)) (multiplied_out-total e)
      ∙ℚ minus_one (worth xs e)

  zero-from_is_zero : (c : ℤ) → ring.is_zero c ≡ true → c ≡ pos 0
  zero-from_is_zero (pos n) e = subst (λ (k : ℕ). pos n ≡ pos k) (eqb-true n 0 e) refl
  zero-from_is_zero (negsuc n) e = absurd (true≢false (sym e))

  vanishes-total : (p : Polynomial) → ring.vanishes p ≡ true → total xs p =ℚ whole (pos 0)
  vanishes-total End e = =ℚ_refl (whole (pos 0))
  vanishes-total (More c m p) e =
      let parts = and_parts (ring.is_zero c) (ring.vanishes p) e in
      let none : whole c =ℚ whole (pos 0) = =ℚ-from_same (subst (λ (z : ℤ). whole c ≡ whole z) (zero-from_is_zero c parts.0) refl) in
      +ℚ-same (times_left (product xs m) none ∙ℚ zero_times (product xs m)) (vanishes-total p parts.1)
      ∙ℚ +ℚ-zero (whole (pos 0))

-- what differs by nothing is equal
pub equal_from_difference : (p q : Fraction) → (p +ℚ neg_ℚ q) =ℚ whole (pos 0) → p =ℚ q
equal_from_difference p q h =
    =ℚ_sym (+ℚ-zero p)
    ∙ℚ plus_right p (=ℚ_sym (+ℚ_comm (neg_ℚ q) q ∙ℚ +ℚ-neg q))
    ∙ℚ =ℚ_sym (+ℚ_assoc p (neg_ℚ q) q)
    ∙ℚ plus_left q h
    ∙ℚ zero_left q

-- two expressions that agree have one value, whatever the atoms are
pub solve : (xs : List Fraction) (e f : Expression) → agree e f ≡ true → worth xs e =ℚ worth xs f
solve xs e f t =
    equal_from_difference (worth xs e) (worth xs f)
    (=ℚ_sym (multiplied_out-total xs (e ⊕ Minus f)) ∙ℚ vanishes-total xs (ring.multiplied_out (e ⊕ Minus f)) t)

-- the same up to a multiple of an equation: e - f is m times p - q
pub solve_by : (xs : List Fraction) (e f m p q : Expression) → worth xs p =ℚ worth xs q → agree (e ⊕ m ⊗ q) (f ⊕ m ⊗ p) ≡ true
    → worth xs e =ℚ worth xs f
solve_by xs e f m p q h t =
    let w = worth xs m in
    let moved : (worth xs e +ℚ w *ℚ worth xs q) =ℚ (worth xs f +ℚ w *ℚ worth xs p) = solve xs (e ⊕ m ⊗ q) (f ⊕ m ⊗ p) t in
    equal_from_difference (worth xs e) (worth xs f)
    (cancelled (worth xs e) (worth xs f) (w *ℚ worth xs q) (moved ∙ℚ plus_right (worth xs f) (times_right w h)))
  where
    cancelled : (a b c : Fraction) → (a +ℚ c) =ℚ (b +ℚ c) → (a +ℚ neg_ℚ b) =ℚ whole (pos 0)
    cancelled a b c h =
        solve (a ∷ b ∷ c ∷ []) (Atom 0 ⊕ Minus (Atom 1)) ((Atom 0 ⊕ Atom 2) ⊕ Minus (Atom 1 ⊕ Atom 2)) refl
        ∙ℚ plus_left (neg_ℚ (b +ℚ c)) h
        ∙ℚ +ℚ-neg (b +ℚ c)
