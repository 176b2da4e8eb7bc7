-- Sums and products of fractions: the laws of an ordered field, up to equality by cross products.
use Rattle.std.proofs.Common.{◌≡◌, ℕ, ◌*◌, ◌<◌, List, [], ◌∷◌, ℤ, pos, ◌+ℤ◌, ◌*ℤ◌, neg_ℤ, ◌<ℤ◌, refl, arith, sym, ap, ap₂, ◌∙◌, mul-pos, Ordering, Less, Equal, Greater, int_cmp}
use Rattle.std.specs.Ordering.{MatchOrdering}
use Rattle.std.specs.Cmp.{int_ranks, int_cmp_is, alike_right}
use Rattle.std.proofs.lemmas.Int.{ints}
use Rattle.nz_ints.proofs.Products.{mul-lt-mul_right, mul-lt-mul_neg}
use Rattle.nz_ints.proofs.Ring.{Atom, Literal, ◌⊕◌, ◌⊗◌, Minus, solve}
use Rattle.nz_fractions.specs.Fraction.{Fraction, denominator, over, whole, ◌=ℚ◌, ◌<ℚ◌, ◌+ℚ◌, neg_ℚ, ◌-ℚ◌, ◌*ℚ◌, fraction_cmp, outcome, exact, Sum, Difference, Product}
use Rattle.nz_fractions.proofs.Laws.{denominator_pos, denominator-over, reduce-same}
use Rattle.nz_fractions.proofs.Order.{fraction_cmp_total, fraction_cmp_is}

-- ---- the parts of a sum, a product and a negation

pub numerator-sum : (p q : Fraction) → (p +ℚ q).numerator ≡ p.numerator *ℤ pos (denominator q) +ℤ q.numerator *ℤ pos (denominator p)
unfolding ◌+ℚ◌ over
numerator-sum p q = refl

pub denominator-sum : (p q : Fraction) → denominator (p +ℚ q) ≡ denominator p * denominator q
unfolding ◌+ℚ◌
denominator-sum p q =
    denominator-over
    (p.numerator *ℤ pos (denominator q) +ℤ q.numerator *ℤ pos (denominator p))
    (denominator p * denominator q)
    (mul-pos (denominator_pos p) (denominator_pos q))

pub numerator-product : (p q : Fraction) → (p *ℚ q).numerator ≡ p.numerator *ℤ q.numerator
unfolding ◌*ℚ◌ over
numerator-product p q = refl

pub denominator-product : (p q : Fraction) → denominator (p *ℚ q) ≡ denominator p * denominator q
unfolding ◌*ℚ◌
denominator-product p q =
    denominator-over (p.numerator *ℤ q.numerator) (denominator p * denominator q) (mul-pos (denominator_pos p) (denominator_pos q))

pub numerator-neg : (p : Fraction) → (neg_ℚ p).numerator ≡ neg_ℤ p.numerator
unfolding neg_ℚ
numerator-neg p = refl

pub denominator-neg : (p : Fraction) → denominator (neg_ℚ p) ≡ denominator p
unfolding neg_ℚ denominator
denominator-neg p = refl

-- ---- equality from the parts: n/d is the one, m/e the other

pub record Parts (p : Fraction) (n d : ℤ) : Type 0 where
  pub num : p.numerator ≡ n
  pub den : pos (denominator p) ≡ d

pub own_parts : (p : Fraction) → Parts p p.numerator (pos (denominator p))
own_parts p = record { num = refl; den = refl }

pub sum_parts : {p q : Fraction} {a b c d : ℤ} → Parts p a b → Parts q c d → Parts (p +ℚ q) (a *ℤ d +ℤ c *ℤ b) (b *ℤ d)
sum_parts {p} {q} h k = record {
  num = numerator-sum p q ∙ ap₂ (λ (x y : ℤ). x +ℤ y) (ap₂ (λ (x y : ℤ). x *ℤ y) h.num k.den) (ap₂ (λ (x y : ℤ). x *ℤ y) k.num h.den);
  den = ap pos (denominator-sum p q) ∙ ap₂ (λ (x y : ℤ). x *ℤ y) h.den k.den;
}

pub product_parts : {p q : Fraction} {a b c d : ℤ} → Parts p a b → Parts q c d → Parts (p *ℚ q) (a *ℤ c) (b *ℤ d)
product_parts {p} {q} h k = record {
  num = numerator-product p q ∙ ap₂ (λ (x y : ℤ). x *ℤ y) h.num k.num;
  den = ap pos (denominator-product p q) ∙ ap₂ (λ (x y : ℤ). x *ℤ y) h.den k.den;
}

pub neg_parts : {p : Fraction} {a b : ℤ} → Parts p a b → Parts (neg_ℚ p) (neg_ℤ a) b
neg_parts {p} h = record { num = numerator-neg p ∙ ap neg_ℤ h.num; den = ap pos (denominator-neg p) ∙ h.den }

pub whole_parts : (n : ℤ) → Parts (whole n) n (pos 1)
unfolding denominator
whole_parts n = record { num = refl; den = refl }

pub by_parts : {p q : Fraction} {a b c d : ℤ} → Parts p a b → Parts q c d → a *ℤ d ≡ c *ℤ b → p =ℚ q
by_parts h k e = record { cross = ap₂ (λ (x y : ℤ). x *ℤ y) h.num k.den ∙ e ∙ sym (ap₂ (λ (x y : ℤ). x *ℤ y) k.num h.den) }

cmp-parts : {p q : Fraction} {a b c d : ℤ} → Parts p a b → Parts q c d → fraction_cmp p q ≡ int_cmp (a *ℤ d) (c *ℤ b)
unfolding fraction_cmp
cmp-parts h k = ap₂ (λ (x y : ℤ). int_cmp x y) (ap₂ (λ (x y : ℤ). x *ℤ y) h.num k.den) (ap₂ (λ (x y : ℤ). x *ℤ y) k.num h.den)

-- ---- sums

pub +ℚ_comm : (p q : Fraction) → (p +ℚ q) =ℚ (q +ℚ p)
+ℚ_comm p q =
    let a = Atom 0 in
    let b = Atom 1 in
    let c = Atom 2 in
    let d = Atom 3 in
    by_parts (sum_parts (own_parts p) (own_parts q)) (sum_parts (own_parts q) (own_parts p))
    (solve
    (p.numerator ∷ pos (denominator p) ∷ q.numerator ∷ pos (denominator q) ∷ [])
    ((a ⊗ d ⊕ c ⊗ b) ⊗ (d ⊗ b))
    ((c ⊗ b ⊕ a ⊗ d) ⊗ (b ⊗ d))
    refl)

pub +ℚ_assoc : (p q r : Fraction) → ((p +ℚ q) +ℚ r) =ℚ (p +ℚ (q +ℚ r))
+ℚ_assoc p q r =
    let a = Atom 0 in
    let b = Atom 1 in
    let c = Atom 2 in
    let d = Atom 3 in
    let e = Atom 4 in
    let f = Atom 5 in
    by_parts
    (sum_parts (sum_parts (own_parts p) (own_parts q)) (own_parts r))
    (sum_parts (own_parts p) (sum_parts (own_parts q) (own_parts r)))
    (solve
    (p.numerator ∷ pos (denominator p) ∷ q.numerator ∷ pos (denominator q) ∷ r.numerator ∷ pos (denominator r) ∷ [])
    (((a ⊗ d ⊕ c ⊗ b) ⊗ f ⊕ e ⊗ (b ⊗ d)) ⊗ (b ⊗ (d ⊗ f)))
    ((a ⊗ (d ⊗ f) ⊕ (c ⊗ f ⊕ e ⊗ d) ⊗ b) ⊗ ((b ⊗ d) ⊗ f))
    refl)

pub +ℚ-zero : (p : Fraction) → (p +ℚ whole (pos 0)) =ℚ p
+ℚ-zero p =
    let a = Atom 0 in
    let b = Atom 1 in
    by_parts (sum_parts (own_parts p) (whole_parts (pos 0))) (own_parts p)
    (solve
    (p.numerator ∷ pos (denominator p) ∷ [])
    ((a ⊗ Literal (pos 1) ⊕ Literal (pos 0) ⊗ b) ⊗ b)
    (a ⊗ (b ⊗ Literal (pos 1)))
    refl)

pub +ℚ-neg : (p : Fraction) → (p +ℚ neg_ℚ p) =ℚ whole (pos 0)
+ℚ-neg p =
    let a = Atom 0 in
    let b = Atom 1 in
    by_parts (sum_parts (own_parts p) (neg_parts (own_parts p))) (whole_parts (pos 0))
    (solve
    (p.numerator ∷ pos (denominator p) ∷ [])
    ((a ⊗ b ⊕ Minus a ⊗ b) ⊗ Literal (pos 1))
    (Literal (pos 0) ⊗ (b ⊗ b))
    refl)

-- equal operands have equal sums
pub +ℚ-same : {p p' q q' : Fraction} → p =ℚ p' → q =ℚ q' → (p +ℚ q) =ℚ (p' +ℚ q')
+ℚ-same {p} {p'} {q} {q'} h k =
    by_parts (sum_parts (own_parts p) (own_parts q)) (sum_parts (own_parts p') (own_parts q'))
    (crossed p.numerator (pos (denominator p)) p'.numerator (pos (denominator p')) q.numerator (pos (denominator q)) q'.numerator (pos (denominator q')) h.cross k.cross)
  where
    crossed : (a b a' b' c d c' d' : ℤ) → a *ℤ b' ≡ a' *ℤ b → c *ℤ d' ≡ c' *ℤ d → (a *ℤ d +ℤ c *ℤ b) *ℤ (b' *ℤ d') ≡ (a' *ℤ d' +ℤ c' *ℤ b') *ℤ (b *ℤ d)
    crossed a b a' b' c d c' d' h k =
        let xs : List ℤ = a ∷ b ∷ a' ∷ b' ∷ c ∷ d ∷ c' ∷ d' ∷ [] in
        let v0 = Atom 0 in
        let v1 = Atom 1 in
        let v2 = Atom 2 in
        let v3 = Atom 3 in
        let v4 = Atom 4 in
        let v5 = Atom 5 in
        let v6 = Atom 6 in
        let v7 = Atom 7 in
        solve xs ((v0 ⊗ v5 ⊕ v4 ⊗ v1) ⊗ (v3 ⊗ v7)) ((v0 ⊗ v3) ⊗ (v5 ⊗ v7) ⊕ (v4 ⊗ v7) ⊗ (v1 ⊗ v3)) refl
        ∙ ap₂ (λ (x y : ℤ). x *ℤ (d *ℤ d') +ℤ y *ℤ (b *ℤ b')) h k
        ∙ solve xs ((v2 ⊗ v1) ⊗ (v5 ⊗ v7) ⊕ (v6 ⊗ v5) ⊗ (v1 ⊗ v3)) ((v2 ⊗ v7 ⊕ v6 ⊗ v3) ⊗ (v1 ⊗ v5)) refl

pub neg_ℚ-same : {p q : Fraction} → p =ℚ q → neg_ℚ p =ℚ neg_ℚ q
neg_ℚ-same {p} {q} h =
    by_parts (neg_parts (own_parts p)) (neg_parts (own_parts q))
    (turned p.numerator (pos (denominator p)) q.numerator (pos (denominator q)) h.cross)
  where
    turned : (a b c d : ℤ) → a *ℤ d ≡ c *ℤ b → neg_ℤ a *ℤ d ≡ neg_ℤ c *ℤ b
    turned a b c d h =
        solve (a ∷ d ∷ []) (Minus (Atom 0) ⊗ Atom 1) (Minus (Atom 0 ⊗ Atom 1)) refl
        ∙ ap neg_ℤ h
        ∙ solve (c ∷ b ∷ []) (Minus (Atom 0 ⊗ Atom 1)) (Minus (Atom 0) ⊗ Atom 1) refl

-- ---- products

pub *ℚ_comm : (p q : Fraction) → (p *ℚ q) =ℚ (q *ℚ p)
*ℚ_comm p q =
    by_parts (product_parts (own_parts p) (own_parts q)) (product_parts (own_parts q) (own_parts p))
    (solve
    (p.numerator ∷ pos (denominator p) ∷ q.numerator ∷ pos (denominator q) ∷ [])
    ((Atom 0 ⊗ Atom 2) ⊗ (Atom 3 ⊗ Atom 1))
    ((Atom 2 ⊗ Atom 0) ⊗ (Atom 1 ⊗ Atom 3))
    refl)

pub *ℚ_assoc : (p q r : Fraction) → ((p *ℚ q) *ℚ r) =ℚ (p *ℚ (q *ℚ r))
*ℚ_assoc p q r =
    let a = Atom 0 in
    let b = Atom 1 in
    let c = Atom 2 in
    let d = Atom 3 in
    let e = Atom 4 in
    let f = Atom 5 in
    by_parts
    (product_parts (product_parts (own_parts p) (own_parts q)) (own_parts r))
    (product_parts (own_parts p) (product_parts (own_parts q) (own_parts r)))
    (solve
    (p.numerator ∷ pos (denominator p) ∷ q.numerator ∷ pos (denominator q) ∷ r.numerator ∷ pos (denominator r) ∷ [])
    (((a ⊗ c) ⊗ e) ⊗ (b ⊗ (d ⊗ f)))
    ((a ⊗ (c ⊗ e)) ⊗ ((b ⊗ d) ⊗ f))
    refl)

pub *ℚ-one : (p : Fraction) → (p *ℚ whole (pos 1)) =ℚ p
*ℚ-one p =
    by_parts (product_parts (own_parts p) (whole_parts (pos 1))) (own_parts p)
    (solve
    (p.numerator ∷ pos (denominator p) ∷ [])
    ((Atom 0 ⊗ Literal (pos 1)) ⊗ Atom 1)
    (Atom 0 ⊗ (Atom 1 ⊗ Literal (pos 1)))
    refl)

pub *ℚ-+ℚ : (p q r : Fraction) → (p *ℚ (q +ℚ r)) =ℚ (p *ℚ q +ℚ p *ℚ r)
*ℚ-+ℚ p q r =
    let a = Atom 0 in
    let b = Atom 1 in
    let c = Atom 2 in
    let d = Atom 3 in
    let e = Atom 4 in
    let f = Atom 5 in
    by_parts
    (product_parts (own_parts p) (sum_parts (own_parts q) (own_parts r)))
    (sum_parts (product_parts (own_parts p) (own_parts q)) (product_parts (own_parts p) (own_parts r)))
    (solve
    (p.numerator ∷ pos (denominator p) ∷ q.numerator ∷ pos (denominator q) ∷ r.numerator ∷ pos (denominator r) ∷ [])
    ((a ⊗ (c ⊗ f ⊕ e ⊗ d)) ⊗ ((b ⊗ d) ⊗ (b ⊗ f)))
    (((a ⊗ c) ⊗ (b ⊗ f) ⊕ (a ⊗ e) ⊗ (b ⊗ d)) ⊗ (b ⊗ (d ⊗ f)))
    refl)

pub *ℚ-same : {p p' q q' : Fraction} → p =ℚ p' → q =ℚ q' → (p *ℚ q) =ℚ (p' *ℚ q')
*ℚ-same {p} {p'} {q} {q'} h k =
    by_parts (product_parts (own_parts p) (own_parts q)) (product_parts (own_parts p') (own_parts q'))
    (crossed p.numerator (pos (denominator p)) p'.numerator (pos (denominator p')) q.numerator (pos (denominator q)) q'.numerator (pos (denominator q')) h.cross k.cross)
  where
    crossed : (a b a' b' c d c' d' : ℤ) → a *ℤ b' ≡ a' *ℤ b → c *ℤ d' ≡ c' *ℤ d → (a *ℤ c) *ℤ (b' *ℤ d') ≡ (a' *ℤ c') *ℤ (b *ℤ d)
    crossed a b a' b' c d c' d' h k =
        solve (a ∷ c ∷ b' ∷ d' ∷ []) ((Atom 0 ⊗ Atom 1) ⊗ (Atom 2 ⊗ Atom 3)) ((Atom 0 ⊗ Atom 2) ⊗ (Atom 1 ⊗ Atom 3)) refl
        ∙ ap₂ (λ (x y : ℤ). x *ℤ y) h k
        ∙ solve (a' ∷ b ∷ c' ∷ d ∷ []) ((Atom 0 ⊗ Atom 1) ⊗ (Atom 2 ⊗ Atom 3)) ((Atom 0 ⊗ Atom 2) ⊗ (Atom 1 ⊗ Atom 3)) refl

-- ---- the order

-- equal operands compare alike
pub cmp-same : {p p' q q' : Fraction} → p =ℚ p' → q =ℚ q' → fraction_cmp p q ≡ fraction_cmp p' q'
cmp-same {p} {p'} {q} {q'} h k =
    fraction_cmp_total.congr p p' q (sym (fraction_cmp_is p p' Equal h))
    ∙ alike_right fraction_cmp_total q q' p' (sym (fraction_cmp_is q q' Equal k))

ranked_scaled : (x y k : ℤ) → pos 0 <ℤ k → (o : Ordering) → MatchOrdering o (x <ℤ y) (x ≡ y) (y <ℤ x) → MatchOrdering o ((x *ℤ k) <ℤ (y *ℤ k)) (x *ℤ k ≡ y *ℤ k) ((y *ℤ k) <ℤ (x *ℤ k))
ranked_scaled x y k p Less h = mul-lt-mul_right x y k p h
ranked_scaled x y k p Equal h = ap (λ (z : ℤ). z *ℤ k) h
ranked_scaled x y k p Greater h = mul-lt-mul_right y x k p h

ranked_turned : (x y k : ℤ) → k <ℤ pos 0 → (o : Ordering) → MatchOrdering o (x <ℤ y) (x ≡ y) (y <ℤ x) → MatchOrdering o ((y *ℤ k) <ℤ (x *ℤ k)) (y *ℤ k ≡ x *ℤ k) ((x *ℤ k) <ℤ (y *ℤ k))
ranked_turned x y k p Less h = mul-lt-mul_neg x y k p h
ranked_turned x y k p Equal h = ap (λ (z : ℤ). z *ℤ k) (sym h)
ranked_turned x y k p Greater h = mul-lt-mul_neg y x k p h

ranked_moved : (x y t : ℤ) (o : Ordering) → MatchOrdering o (x <ℤ y) (x ≡ y) (y <ℤ x) → MatchOrdering o ((x +ℤ t) <ℤ (y +ℤ t)) (x +ℤ t ≡ y +ℤ t) ((y +ℤ t) <ℤ (x +ℤ t))
ranked_moved x y t Less h = omega (arith, ints)
ranked_moved x y t Equal h = ap (λ (z : ℤ). z +ℤ t) h
ranked_moved x y t Greater h = omega (arith, ints)

cmp-scaled : (x y k : ℤ) → pos 0 <ℤ k → int_cmp (x *ℤ k) (y *ℤ k) ≡ int_cmp x y
cmp-scaled x y k p = sym (int_cmp_is (x *ℤ k) (y *ℤ k) (int_cmp x y) (ranked_scaled x y k p (int_cmp x y) (int_ranks x y)))

cmp-turned : (x y k : ℤ) → k <ℤ pos 0 → int_cmp (y *ℤ k) (x *ℤ k) ≡ int_cmp x y
cmp-turned x y k p = sym (int_cmp_is (y *ℤ k) (x *ℤ k) (int_cmp x y) (ranked_turned x y k p (int_cmp x y) (int_ranks x y)))

cmp-moved : (x y t : ℤ) → int_cmp (x +ℤ t) (y +ℤ t) ≡ int_cmp x y
cmp-moved x y t = sym (int_cmp_is (x +ℤ t) (y +ℤ t) (int_cmp x y) (ranked_moved x y t (int_cmp x y) (int_ranks x y)))

positive : (n : ℕ) → 0 < n → pos 0 <ℤ pos n
positive n p = omega (arith, ints)

-- adding keeps the order
pub cmp-+ℚ : (p q r : Fraction) → fraction_cmp (p +ℚ r) (q +ℚ r) ≡ fraction_cmp p q
cmp-+ℚ p q r =
    let b = pos (denominator p) in
    let d = pos (denominator q) in
    let f = pos (denominator r) in
    let xs : List ℤ = p.numerator ∷ b ∷ q.numerator ∷ d ∷ r.numerator ∷ f ∷ [] in
    let v0 = Atom 0 in
    let v1 = Atom 1 in
    let v2 = Atom 2 in
    let v3 = Atom 3 in
    let v4 = Atom 4 in
    let v5 = Atom 5 in
    let x = p.numerator *ℤ d in
    let y = q.numerator *ℤ b in
    let t = (r.numerator *ℤ b) *ℤ (d *ℤ f) in
    cmp-parts (sum_parts (own_parts p) (own_parts r)) (sum_parts (own_parts q) (own_parts r))
    ∙ ap₂ (λ (i j : ℤ). int_cmp i j)
    (solve xs ((v0 ⊗ v5 ⊕ v4 ⊗ v1) ⊗ (v3 ⊗ v5)) ((v0 ⊗ v3) ⊗ (v5 ⊗ v5) ⊕ (v4 ⊗ v1) ⊗ (v3 ⊗ v5)) refl)
    (solve xs ((v2 ⊗ v5 ⊕ v4 ⊗ v3) ⊗ (v1 ⊗ v5)) ((v2 ⊗ v1) ⊗ (v5 ⊗ v5) ⊕ (v4 ⊗ v1) ⊗ (v3 ⊗ v5)) refl)
    ∙ cmp-moved (x *ℤ (f *ℤ f)) (y *ℤ (f *ℤ f)) t
    ∙ cmp-scaled x y (f *ℤ f) (positive (denominator r * denominator r) (mul-pos (denominator_pos r) (denominator_pos r)))
    ∙ sym (cmp-parts (own_parts p) (own_parts q))

above_zero : (r : Fraction) → whole (pos 0) <ℚ r → pos 0 <ℤ (r.numerator *ℤ pos (denominator r))
unfolding denominator
above_zero r h =
    mul-pos_left r.numerator (pos (denominator r)) (positive (denominator r) (denominator_pos r)) (omega (arith, ints, h.cross))
  where
    mul-pos_left : (x k : ℤ) → pos 0 <ℤ k → pos 0 <ℤ x → pos 0 <ℤ (x *ℤ k)
    mul-pos_left x k p h =
        let s : (pos 0 *ℤ k) <ℤ (x *ℤ k) = mul-lt-mul_right (pos 0) x k p h in
        let z : pos 0 *ℤ k ≡ pos 0 = omega (arith, ints) in
        omega (arith, ints)

below_zero : (r : Fraction) → r <ℚ whole (pos 0) → (r.numerator *ℤ pos (denominator r)) <ℤ pos 0
unfolding denominator
below_zero r h =
    mul-neg_left r.numerator (pos (denominator r)) (positive (denominator r) (denominator_pos r)) (omega (arith, ints, h.cross))
  where
    mul-neg_left : (x k : ℤ) → pos 0 <ℤ k → x <ℤ pos 0 → (x *ℤ k) <ℤ pos 0
    mul-neg_left x k p h =
        let s : (x *ℤ k) <ℤ (pos 0 *ℤ k) = mul-lt-mul_right x (pos 0) k p h in
        let z : pos 0 *ℤ k ≡ pos 0 = omega (arith, ints) in
        omega (arith, ints)

scaled_parts : (p q r : Fraction) → fraction_cmp (p *ℚ r) (q *ℚ r) ≡ int_cmp ((p.numerator *ℤ pos (denominator q)) *ℤ (r.numerator *ℤ pos (denominator r))) ((q.numerator *ℤ pos (denominator p)) *ℤ (r.numerator *ℤ pos (denominator r)))
scaled_parts p q r =
    cmp-parts (product_parts (own_parts p) (own_parts r)) (product_parts (own_parts q) (own_parts r))
    ∙ ap₂ (λ (i j : ℤ). int_cmp i j)
    (solve (p.numerator ∷ r.numerator ∷ pos (denominator q) ∷ pos (denominator r) ∷ []) ((Atom 0 ⊗ Atom 1) ⊗ (Atom 2 ⊗ Atom 3)) ((Atom 0 ⊗ Atom 2) ⊗ (Atom 1 ⊗ Atom 3)) refl)
    (solve (q.numerator ∷ r.numerator ∷ pos (denominator p) ∷ pos (denominator r) ∷ []) ((Atom 0 ⊗ Atom 1) ⊗ (Atom 2 ⊗ Atom 3)) ((Atom 0 ⊗ Atom 2) ⊗ (Atom 1 ⊗ Atom 3)) refl)

-- scaling by a positive fraction keeps the order
pub cmp-*ℚ_pos : (p q r : Fraction) → whole (pos 0) <ℚ r → fraction_cmp (p *ℚ r) (q *ℚ r) ≡ fraction_cmp p q
cmp-*ℚ_pos p q r h =
    scaled_parts p q r
    ∙ cmp-scaled (p.numerator *ℤ pos (denominator q)) (q.numerator *ℤ pos (denominator p)) (r.numerator *ℤ pos (denominator r)) (above_zero r h)
    ∙ sym (cmp-parts (own_parts p) (own_parts q))

-- and by a negative one turns it
pub cmp-*ℚ_neg : (p q r : Fraction) → r <ℚ whole (pos 0) → fraction_cmp (p *ℚ r) (q *ℚ r) ≡ fraction_cmp q p
cmp-*ℚ_neg p q r h =
    scaled_parts p q r
    ∙ cmp-turned (q.numerator *ℤ pos (denominator p)) (p.numerator *ℤ pos (denominator q)) (r.numerator *ℤ pos (denominator r)) (below_zero r h)
    ∙ sym (cmp-parts (own_parts q) (own_parts p))

-- ---- the same in lowest terms

pub outcome-sum : (p q : Fraction) → outcome Sum p q =ℚ (p +ℚ q)
unfolding outcome exact
outcome-sum p q = reduce-same (p +ℚ q)

pub outcome-difference : (p q : Fraction) → outcome Difference p q =ℚ (p +ℚ neg_ℚ q)
unfolding outcome exact ◌-ℚ◌
outcome-difference p q = reduce-same (p -ℚ q)

pub outcome-product : (p q : Fraction) → outcome Product p q =ℚ (p *ℚ q)
unfolding outcome exact
outcome-product p q = reduce-same (p *ℚ q)
