-- The chosen fraction is above 0, is the least limit, and keeps ordered pairs in order, as each smaller fraction above 0 does.
use Rattle.std.proofs.Common.{◌≡◌, zero, suc, Bool, true, false, ◌⊎◌, inl, inr, List, [], ◌∷◌, pos, refl, arith, sym, ◌∙◌, subst, All, Contains, if◌then◌else◌}
use Rattle.std.proofs.lemmas.Int.{ints}
use Rattle.std.proofs.lemmas.List.Elements.{All-nil, All-cons, All-head, All-tail}
use Rattle.nz_ints.proofs.Ring.{Atom, ◌⊕◌, ◌⊗◌, Minus, solve}
use Rattle.nz_fractions.specs.Fraction.{Fraction, denominator, whole, ◌=ℚ◌, ◌≤ℚ◌, ◌<ℚ◌, ◌+ℚ◌, neg_ℚ, ◌*ℚ◌, fraction_lt, fraction_le, fraction_min, outcome, Difference, Quotient}
use Rattle.nz_spec.specs.numbers.Infinitesimal.{Infinitesimal, ◌≤δ◌, at, Pair, is_limiting, limit, limits, IsLeastLimit, least_from, chosen_delta, AreOrdered, AreOrderedAt}
use Rattle.nz_fractions.proofs.Laws.{=ℚ_refl, =ℚ_sym, =ℚ_trans, ≤ℚ-from_eq, ≤ℚ_refl, ≤ℚ-from_lt, ≤ℚ_trans, <ℚ-≤ℚ_trans, ≤ℚ-<ℚ_trans, <ℚ_irrefl}
use Rattle.nz_fractions.proofs.Arithmetic.{own_parts, sum_parts, product_parts, neg_parts, by_parts, *ℚ-same, cmp-+ℚ, cmp-*ℚ_pos, outcome-difference}
use Rattle.nz_fractions.proofs.Identities.{zero_times}
use Rattle.nz_fractions.proofs.Bounds.{above, moved, scaled, lt-carried, le-carried, moved_right}
use Rattle.nz_fractions.proofs.Quotients.{outcome-divided, quotient-back}

-- ---- one pair

-- c + k*e less (c + l*e) is (k-l)*e
lower_rest : (c k l e : Fraction) → ((c +ℚ k *ℚ e) +ℚ (neg_ℚ c +ℚ neg_ℚ (l *ℚ e))) =ℚ (e *ℚ (k +ℚ neg_ℚ l))
lower_rest c k l e =
    let a = Atom 0 in
    let b = Atom 1 in
    let m = Atom 2 in
    let n = Atom 3 in
    let i = Atom 4 in
    let j = Atom 5 in
    let x = Atom 6 in
    let y = Atom 7 in
    by_parts
    (sum_parts
    (sum_parts (own_parts c) (product_parts (own_parts k) (own_parts e)))
    (sum_parts (neg_parts (own_parts c)) (neg_parts (product_parts (own_parts l) (own_parts e)))))
    (product_parts (own_parts e) (sum_parts (own_parts k) (neg_parts (own_parts l))))
    (solve
    (c.numerator ∷ pos (denominator c) ∷ k.numerator ∷ pos (denominator k) ∷ l.numerator ∷ pos (denominator l) ∷ e.numerator ∷ pos (denominator e) ∷ [])
    (((a ⊗ (n ⊗ y) ⊕ (m ⊗ x) ⊗ b) ⊗ (b ⊗ (j ⊗ y)) ⊕ (Minus a ⊗ (j ⊗ y) ⊕ Minus (i ⊗ x) ⊗ b) ⊗ (b ⊗ (n ⊗ y))) ⊗ (y ⊗ (n ⊗ j)))
    ((x ⊗ (m ⊗ j ⊕ Minus i ⊗ n)) ⊗ ((b ⊗ (n ⊗ y)) ⊗ (b ⊗ (j ⊗ y))))
    refl)

-- d + l*e less (c + l*e) is d-c
upper_rest : (c d l e : Fraction) → ((d +ℚ l *ℚ e) +ℚ (neg_ℚ c +ℚ neg_ℚ (l *ℚ e))) =ℚ (d +ℚ neg_ℚ c)
upper_rest c d l e =
    let a = Atom 0 in
    let b = Atom 1 in
    let m = Atom 2 in
    let n = Atom 3 in
    let i = Atom 4 in
    let j = Atom 5 in
    let x = Atom 6 in
    let y = Atom 7 in
    by_parts
    (sum_parts
    (sum_parts (own_parts d) (product_parts (own_parts l) (own_parts e)))
    (sum_parts (neg_parts (own_parts c)) (neg_parts (product_parts (own_parts l) (own_parts e)))))
    (sum_parts (own_parts d) (neg_parts (own_parts c)))
    (solve
    (c.numerator ∷ pos (denominator c) ∷ d.numerator ∷ pos (denominator d) ∷ l.numerator ∷ pos (denominator l) ∷ e.numerator ∷ pos (denominator e) ∷ [])
    (((m ⊗ (j ⊗ y) ⊕ (i ⊗ x) ⊗ n) ⊗ (b ⊗ (j ⊗ y)) ⊕ (Minus a ⊗ (j ⊗ y) ⊕ Minus (i ⊗ x) ⊗ b) ⊗ (n ⊗ (j ⊗ y))) ⊗ (n ⊗ b))
    ((m ⊗ b ⊕ Minus a ⊗ n) ⊗ ((n ⊗ (j ⊗ y)) ⊗ (b ⊗ (j ⊗ y))))
    refl)

-- below the limit the pair stays in order
below_limit : (c k d l e : Fraction) → l <ℚ k → whole (pos 0) <ℚ e → e ≤ℚ outcome Quotient (outcome Difference d c) (outcome Difference k l) → (c +ℚ k *ℚ e) ≤ℚ (d +ℚ l *ℚ e)
below_limit c k d l e h z m =
    let fall = outcome Difference k l in
    let rise = outcome Difference d c in
    let rest = neg_ℚ c +ℚ neg_ℚ (l *ℚ e) in
    let fall_above : whole (pos 0) <ℚ fall = <ℚ-≤ℚ_trans (above k l h) (≤ℚ-from_eq (=ℚ_sym (outcome-difference k l))) in
    let step : (e *ℚ fall) ≤ℚ (outcome Quotient rise fall *ℚ fall) = scaled e (outcome Quotient rise fall) fall fall_above m in
    let back : (outcome Quotient rise fall *ℚ fall) =ℚ rise =
    =ℚ_trans (*ℚ-same (outcome-divided rise fall) (=ℚ_refl fall)) (quotient-back rise fall fall_above)
    in
    let left : ((c +ℚ k *ℚ e) +ℚ rest) =ℚ (e *ℚ fall) =
    =ℚ_trans (lower_rest c k l e) (*ℚ-same (=ℚ_refl e) (=ℚ_sym (outcome-difference k l)))
    in
    let right : rise =ℚ ((d +ℚ l *ℚ e) +ℚ rest) = =ℚ_trans (outcome-difference d c) (=ℚ_sym (upper_rest c d l e)) in
    le-carried ((c +ℚ k *ℚ e) +ℚ rest) ((d +ℚ l *ℚ e) +ℚ rest) (c +ℚ k *ℚ e) (d +ℚ l *ℚ e)
    (cmp-+ℚ (c +ℚ k *ℚ e) (d +ℚ l *ℚ e) rest)
    (≤ℚ_trans (≤ℚ-from_eq left) (≤ℚ_trans step (≤ℚ-from_eq (=ℚ_trans back right))))

no_limit : (c k d l e : Fraction) → c ≤ℚ d → k ≤ℚ l → whole (pos 0) <ℚ e → (c +ℚ k *ℚ e) ≤ℚ (d +ℚ l *ℚ e)
no_limit c k d l e h i z =
    ≤ℚ_trans (moved c d (k *ℚ e) h) (moved_right d (k *ℚ e) (l *ℚ e) (scaled k l e z i))

first_in_order : (x y : Infinitesimal) → x ≤δ y → x.standard ≤ℚ y.standard
first_in_order x y (inl h) = ≤ℚ-from_lt h
first_in_order x y (inr h) = ≤ℚ-from_eq h.0

first_below : (x y : Infinitesimal) → x ≤δ y → y.coefficient <ℚ x.coefficient → x.standard <ℚ y.standard
first_below x y (inl h) k = h
first_below x y (inr h) k = absurd (<ℚ_irrefl k h.1)

-- ---- tests

lt_test : (p q : Fraction) (b : Bool) → fraction_lt p q ≡ b → (b ≡ true → p <ℚ q) × (b ≡ false → q ≤ℚ p)
unfolding fraction_lt
lt_test p q true e = (λ t. record { cross = omega (arith, ints, e) }, λ t. absurd (cc))
lt_test p q false e = (λ t. absurd (cc), λ t. record { cross = omega (arith, ints, e) })

le_test : (p q : Fraction) (b : Bool) → fraction_le p q ≡ b → (b ≡ true → p ≤ℚ q) × (b ≡ false → q ≤ℚ p)
unfolding fraction_le
le_test p q true e = (λ t. record { cross = omega (arith, ints, e) }, λ t. absurd (cc))
le_test p q false e = (λ t. absurd (cc), λ t. record { cross = omega (arith, ints, e) })

min-cases : (p q : Fraction) → ((fraction_min p q ≡ p) × (p ≤ℚ q)) ⊎ ((fraction_min p q ≡ q) × (q ≤ℚ p))
unfolding fraction_min
min-cases p q = by_test (fraction_le p q) refl
  where
    by_test : (b : Bool) → fraction_le p q ≡ b → (((if b then p else q) ≡ p) × (p ≤ℚ q)) ⊎ (((if b then p else q) ≡ q) × (q ≤ℚ p))
    by_test true e = inl (refl, (le_test p q true e).0 refl)
    by_test false e = inr (refl, (le_test p q false e).1 refl)

min-left : (p q : Fraction) → fraction_min p q ≤ℚ p
min-left p q = by_case (min-cases p q)
  where
    by_case : ((fraction_min p q ≡ p) × (p ≤ℚ q)) ⊎ ((fraction_min p q ≡ q) × (q ≤ℚ p)) → fraction_min p q ≤ℚ p
    by_case (inl h) = subst (λ (x : Fraction). x ≤ℚ p) (sym h.0) (≤ℚ_refl p)
    by_case (inr h) = subst (λ (x : Fraction). x ≤ℚ p) (sym h.0) h.1

min-right : (p q : Fraction) → fraction_min p q ≤ℚ q
min-right p q = by_case (min-cases p q)
  where
    by_case : ((fraction_min p q ≡ p) × (p ≤ℚ q)) ⊎ ((fraction_min p q ≡ q) × (q ≤ℚ p)) → fraction_min p q ≤ℚ q
    by_case (inl h) = subst (λ (x : Fraction). x ≤ℚ q) (sym h.0) h.1
    by_case (inr h) = subst (λ (x : Fraction). x ≤ℚ q) (sym h.0) (≤ℚ_refl q)

min-above : (z p q : Fraction) → z <ℚ p → z <ℚ q → z <ℚ fraction_min p q
min-above z p q h k = by_case (min-cases p q)
  where
    by_case : ((fraction_min p q ≡ p) × (p ≤ℚ q)) ⊎ ((fraction_min p q ≡ q) × (q ≤ℚ p)) → z <ℚ fraction_min p q
    by_case (inl e) = subst (λ (x : Fraction). z <ℚ x) (sym e.0) h
    by_case (inr e) = subst (λ (x : Fraction). z <ℚ x) (sym e.0) k

-- ---- all pairs

least-all : (e : Fraction) (qs : List Fraction) → All (λ (q : Fraction). least_from e qs ≤ℚ q) (e ∷ qs)
unfolding least_from
least-all e [] = All-cons (λ (q : Fraction). e ≤ℚ q) e [] (≤ℚ_refl e) (All-nil (λ (q : Fraction). e ≤ℚ q))
least-all e (q ∷ qs) =
    let r = least_from (fraction_min e q) qs in
    let h = least-all (fraction_min e q) qs in
    let first = All-head (λ (x : Fraction). r ≤ℚ x) (fraction_min e q) qs h in
    All-cons (λ (x : Fraction). r ≤ℚ x) e (q ∷ qs)
    (≤ℚ_trans first (min-left e q))
    (All-cons (λ (x : Fraction). r ≤ℚ x) q qs
    (≤ℚ_trans first (min-right e q))
    (All-tail (λ (x : Fraction). r ≤ℚ x) (fraction_min e q) qs h))

least-reached : (e : Fraction) (qs : List Fraction) → Contains (e ∷ qs) (least_from e qs)
unfolding least_from
least-reached e [] = (0, omega arith, refl)
least-reached e (q ∷ qs) = by_place (least_from (fraction_min e q) qs) (least-reached (fraction_min e q) qs) (min-cases e q)
  where
    by_place : (r : Fraction) → Contains (fraction_min e q ∷ qs) r → ((fraction_min e q ≡ e) × (e ≤ℚ q)) ⊎ ((fraction_min e q ≡ q) × (q ≤ℚ e)) → Contains (e ∷ q ∷ qs) r
    by_place r (zero, h, f) (inl m) = (zero, omega arith, sym m.0 ∙ f)
    by_place r (zero, h, f) (inr m) = (suc zero, omega arith, sym m.0 ∙ f)
    by_place r (suc k, h, f) m = (suc (suc k), omega arith, f)

least-start : (e : Fraction) (qs : List Fraction) → least_from e qs ≤ℚ e
least-start e qs = All-head (λ (q : Fraction). least_from e qs ≤ℚ q) e qs (least-all e qs)

in_order_at : (x : Pair) (d : Fraction) → x.0 ≤δ x.1 → whole (pos 0) <ℚ d → (b : Bool) → is_limiting x ≡ b → (b ≡ true → d ≤ℚ limit x) → at x.0 d ≤ℚ at x.1 d
unfolding is_limiting limit at
in_order_at x d o z true e h =
    below_limit x.0.standard x.0.coefficient x.1.standard x.1.coefficient d
    ((lt_test x.1.coefficient x.0.coefficient true e).0 refl)
    z
    (h refl)
in_order_at x d o z false e h =
    no_limit x.0.standard x.0.coefficient x.1.standard x.1.coefficient d
    (first_in_order x.0 x.1 o)
    ((lt_test x.1.coefficient x.0.coefficient false e).1 refl)
    z

abbrev InOrder : Pair → Type 0
InOrder x = x.0 ≤δ x.1

abbrev InOrderAt : Fraction → Pair → Type 0
InOrderAt d x = at x.0 d ≤ℚ at x.1 d

-- each fraction above 0 and up to the least limit keeps the pairs in order
pub kept-in_order : (ps : List Pair) (start d : Fraction) → AreOrdered ps → whole (pos 0) <ℚ d → d ≤ℚ least_from start (limits ps) → AreOrderedAt ps d
unfolding limits least_from
kept-in_order [] start d o z h = All-nil (InOrderAt d)
kept-in_order (x ∷ ps) start d o z h =
    by_test (is_limiting x) refl h (λ s k. kept-in_order ps s d (All-tail InOrder x ps o) z k)
  where
    by_test : (b : Bool) → is_limiting x ≡ b → d ≤ℚ least_from start (if b then limit x ∷ limits ps else limits ps) → ((s : Fraction) → d ≤ℚ least_from s (limits ps) → AreOrderedAt ps d) → AreOrderedAt (x ∷ ps) d
    by_test true e h rest =
        All-cons (InOrderAt d) x ps
        (in_order_at x d (All-head InOrder x ps o) z true e
        (λ t. ≤ℚ_trans h (≤ℚ_trans (least-start (fraction_min start (limit x)) (limits ps)) (min-right start (limit x)))))
        (rest (fraction_min start (limit x)) h)
    by_test false e h rest =
        All-cons (InOrderAt d) x ps (in_order_at x d (All-head InOrder x ps o) z false e (λ t. absurd (cc))) (rest start h)

quotient_above : (c d k l : Fraction) → c <ℚ d → l <ℚ k → whole (pos 0) <ℚ outcome Quotient (outcome Difference d c) (outcome Difference k l)
quotient_above c d k l h i =
    let fall = outcome Difference k l in
    let rise = outcome Difference d c in
    let q = outcome Quotient rise fall in
    let fall_above : whole (pos 0) <ℚ fall = <ℚ-≤ℚ_trans (above k l i) (≤ℚ-from_eq (=ℚ_sym (outcome-difference k l))) in
    let rise_above : whole (pos 0) <ℚ rise = <ℚ-≤ℚ_trans (above d c h) (≤ℚ-from_eq (=ℚ_sym (outcome-difference d c))) in
    let back : (q *ℚ fall) =ℚ rise = =ℚ_trans (*ℚ-same (outcome-divided rise fall) (=ℚ_refl fall)) (quotient-back rise fall fall_above) in
    lt-carried (whole (pos 0) *ℚ fall) (q *ℚ fall) (whole (pos 0)) q
    (cmp-*ℚ_pos (whole (pos 0)) q fall fall_above)
    (≤ℚ-<ℚ_trans (≤ℚ-from_eq (zero_times fall)) (<ℚ-≤ℚ_trans rise_above (≤ℚ-from_eq (=ℚ_sym back))))

limit_above : (x : Pair) → x.0 ≤δ x.1 → is_limiting x ≡ true → whole (pos 0) <ℚ limit x
unfolding is_limiting limit
limit_above x o e =
    let turn = (lt_test x.1.coefficient x.0.coefficient true e).0 refl in
    quotient_above x.0.standard x.1.standard x.0.coefficient x.1.coefficient (first_below x.0 x.1 o turn) turn

-- the least limit of ordered pairs is above 0
pub least_above : (ps : List Pair) (start : Fraction) → AreOrdered ps → whole (pos 0) <ℚ start → whole (pos 0) <ℚ least_from start (limits ps)
unfolding limits least_from
least_above [] start o z = z
least_above (x ∷ ps) start o z = by_test (is_limiting x) refl (λ s k. least_above ps s (All-tail InOrder x ps o) k)
  where
    by_test : (b : Bool) → is_limiting x ≡ b → ((s : Fraction) → whole (pos 0) <ℚ s → whole (pos 0) <ℚ least_from s (limits ps)) → whole (pos 0) <ℚ least_from start (if b then limit x ∷ limits ps else limits ps)
    by_test true e rest = rest (fraction_min start (limit x)) (min-above (whole (pos 0)) start (limit x) z (limit_above x (All-head InOrder x ps o) e))
    by_test false e rest = rest start z

one_above : whole (pos 0) <ℚ whole (pos 1)
unfolding denominator
one_above = record { cross = omega (arith, ints) }

-- ---- the chosen fraction

pub chosen-above : (ps : List Pair) → AreOrdered ps → whole (pos 0) <ℚ chosen_delta ps
unfolding chosen_delta
chosen-above ps o = least_above ps (whole (pos 1)) o one_above

pub chosen-keeps : (ps : List Pair) (d : Fraction) → AreOrdered ps → whole (pos 0) <ℚ d → d ≤ℚ chosen_delta ps → AreOrderedAt ps d
unfolding chosen_delta
chosen-keeps ps d o z h = kept-in_order ps (whole (pos 1)) d o z h

pub chosen-least : (ps : List Pair) → IsLeastLimit ps (chosen_delta ps)
unfolding chosen_delta
chosen-least ps = record {
  at_most = least-all (whole (pos 1)) (limits ps);
  reached = least-reached (whole (pos 1)) (limits ps);
}
