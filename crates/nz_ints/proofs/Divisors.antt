-- Greatest common divisors: Euclid's remainders find them, Gauss's lemma, least common multiples, lowest terms.
use Rattle.std.proofs.Common.{◌≡◌, ℕ, zero, suc, ◌*◌, ◌/◌, ◌%◌, ◌<◌, ◌≤◌, refl, arith, sym, ap, ◌∙◌, subst, mod-lt, mul_comm, mul-one, eq-zero-or-pos, ⊎_elim}
use Rattle.std.proofs.Math.Nat.{dvd_trans, dvd_antisymm, dvd-mul_left, dvd-mul_right, dvd-mul_left_of_dvd, eq-one_of_dvd-one, pos_of_dvd_of_pos, mul-div_cancel', dvd_of_mul-dvd-mul_left, mul-dvd-mul_left, eq_of_mul-eq-mul_left}
use Rattle.std.specs.Int.{IsGcd, ◌∣◌}
use Rattle.std.proofs.lemmas.Nat.Gcd.{IsGcd-from_zero, IsGcd-from_mod, IsGcd-swap, same_from_IsGcd}
use Rattle.nz_ints.specs.Division.{gcd_within, gcd}

-- ---- the greatest common divisor

gcd_within-is : (k a b : ℕ) → b ≤ k → IsGcd a b (gcd_within k a b)
unfolding gcd_within
gcd_within-is zero a b h = IsGcd-from_zero a b (omega arith)
gcd_within-is (suc k) a zero h = IsGcd-from_zero a zero refl
gcd_within-is (suc k) a (suc b) h =
    IsGcd-from_mod a (suc b) _ (gcd_within-is k (suc b) (a % suc b) (omega (arith, mod-lt a {m = suc b} (omega arith))))

pub gcd-is : (a b : ℕ) → IsGcd a b (gcd a b)
unfolding gcd
gcd-is a b = gcd_within-is b a b (omega arith)

pub gcd-dvd_left : (a b : ℕ) → gcd a b ∣ a
gcd-dvd_left a b = (gcd-is a b).0

pub gcd-dvd_right : (a b : ℕ) → gcd a b ∣ b
gcd-dvd_right a b = (gcd-is a b).1

pub dvd-gcd : (d a b : ℕ) → d ∣ a → d ∣ b → d ∣ gcd a b
dvd-gcd d a b = (gcd-is a b).2 d

-- whatever is a greatest common divisor is this one
pub gcd-unique : (a b g : ℕ) → IsGcd a b g → gcd a b ≡ g
gcd-unique a b g h = same_from_IsGcd a b (gcd a b) g (gcd-is a b) h

pub gcd_comm : (a b : ℕ) → gcd a b ≡ gcd b a
gcd_comm a b = gcd-unique a b (gcd b a) (IsGcd-swap b a _ (gcd-is b a))

-- Euclid's step
pub gcd-mod : (a b : ℕ) → gcd b (a % b) ≡ gcd a b
gcd-mod a b = sym (gcd-unique a b _ (IsGcd-from_mod a b _ (gcd-is b (a % b))))

pub gcd-zero : (a : ℕ) → gcd a 0 ≡ a
gcd-zero a = gcd-unique a 0 a (IsGcd-from_zero a 0 refl)

pub gcd-one : (a : ℕ) → gcd a 1 ≡ 1
gcd-one a = eq-one_of_dvd-one (gcd-dvd_right a 1)

pub gcd_pos : (a b : ℕ) → 0 < b → 0 < gcd a b
gcd_pos a b p = pos_of_dvd_of_pos (gcd-dvd_right a b) p

-- a common factor comes out
gcd-mul_pos : (k a b : ℕ) → 0 < k → gcd (k * a) (k * b) ≡ k * gcd a b
gcd-mul_pos k a b p =
    let g = gcd (k * a) (k * b) in
    let inner : k ∣ g = dvd-gcd k (k * a) (k * b) (dvd-mul_right k a) (dvd-mul_right k b) in
    let e : k * (g / k) ≡ g = mul-div_cancel' k inner in
    let left : g / k ∣ a = dvd_of_mul-dvd-mul_left (g / k) p (rw e (gcd-dvd_left (k * a) (k * b))) in
    let right : g / k ∣ b = dvd_of_mul-dvd-mul_left (g / k) p (rw e (gcd-dvd_right (k * a) (k * b))) in
    let down : g ∣ k * gcd a b = subst (λ (n : ℕ). n ∣ k * gcd a b) e (mul-dvd-mul_left (g / k) k (dvd-gcd (g / k) a b left right)) in
    let up : k * gcd a b ∣ g =
    dvd-gcd (k * gcd a b) (k * a) (k * b)
    (mul-dvd-mul_left (gcd a b) k (gcd-dvd_left a b))
    (mul-dvd-mul_left (gcd a b) k (gcd-dvd_right a b))
    in
    dvd_antisymm down up

pub gcd-mul : (k a b : ℕ) → gcd (k * a) (k * b) ≡ k * gcd a b
gcd-mul k a b =
    ⊎_elim
    (λ z. subst (λ (n : ℕ). gcd (n * a) (n * b) ≡ n * gcd a b) (sym z) (gcd-zero_all a b))
    (λ p. gcd-mul_pos k a b p)
    (eq-zero-or-pos k)
  where
    gcd-zero_all : (a b : ℕ) → gcd (0 * a) (0 * b) ≡ 0 * gcd a b
    gcd-zero_all a b =
        let e : 0 * a ≡ 0 = omega arith in
        let f : 0 * b ≡ 0 = omega arith in
        let g : 0 * gcd a b ≡ 0 = omega arith in
        rw (e, f, g) (gcd-zero 0)

-- ---- numbers with no common divisor

-- Gauss's lemma
pub gauss : (a b c : ℕ) → gcd a b ≡ 1 → a ∣ b * c → a ∣ c
gauss a b c e h =
    let m : a ∣ gcd (c * a) (c * b) = dvd-gcd a (c * a) (c * b) (dvd-mul_left a c) (rw (mul_comm c b) h) in
    let f : gcd (c * a) (c * b) ≡ c = gcd-mul c a b ∙ ap (λ (n : ℕ). c * n) e ∙ mul-one c in
    subst (λ (n : ℕ). a ∣ n) f m

-- a divisor of one of two such numbers has none with the other
pub coprime-dvd : (a b d : ℕ) → gcd a b ≡ 1 → d ∣ a → gcd d b ≡ 1
coprime-dvd a b d e h =
    eq-one_of_dvd-one
    (subst
    (λ (n : ℕ). gcd d b ∣ n)
    e
    (dvd-gcd (gcd d b) a b (dvd_trans (gcd d b) (gcd-dvd_left d b) h) (gcd-dvd_right d b)))

pub coprime-mul : (a b c : ℕ) → gcd a c ≡ 1 → gcd b c ≡ 1 → gcd (a * b) c ≡ 1
coprime-mul a b c e f =
    let d = gcd (a * b) c in
    let apart : gcd d a ≡ 1 = coprime-dvd c a d (gcd_comm c a ∙ e) (gcd-dvd_right (a * b) c) in
    let inner : d ∣ b = gauss d a b apart (gcd-dvd_left (a * b) c) in
    eq-one_of_dvd-one (subst (λ (n : ℕ). d ∣ n) f (dvd-gcd d b c inner (gcd-dvd_right (a * b) c)))

-- a factor that shares nothing drops out
pub gcd-mul_coprime : (n x y : ℕ) → gcd n x ≡ 1 → gcd n (x * y) ≡ gcd n y
gcd-mul_coprime n x y e =
    let d = gcd n (x * y) in
    let apart : gcd d x ≡ 1 = coprime-dvd n x d e (gcd-dvd_left n (x * y)) in
    let inner : d ∣ y = gauss d x y apart (gcd-dvd_right n (x * y)) in
    dvd_antisymm
    (dvd-gcd d n y (gcd-dvd_left n (x * y)) inner)
    (dvd-gcd (gcd n y) n (x * y) (gcd-dvd_left n y) (dvd-mul_left_of_dvd (gcd n y) (gcd-dvd_right n y) x))

-- what the greatest common divisor leaves of each
pub gcd-left : (a b : ℕ) → gcd a b * (a / gcd a b) ≡ a
gcd-left a b = mul-div_cancel' (gcd a b) (gcd-dvd_left a b)

pub gcd-right : (a b : ℕ) → gcd a b * (b / gcd a b) ≡ b
gcd-right a b = mul-div_cancel' (gcd a b) (gcd-dvd_right a b)

pub coprime-rests : (a b : ℕ) → 0 < gcd a b → gcd (a / gcd a b) (b / gcd a b) ≡ 1
coprime-rests a b p =
    let g = gcd a b in
    let e : g * gcd (a / g) (b / g) ≡ g * 1 =
    sym (gcd-mul g (a / g) (b / g))
    ∙ ap (λ (n : ℕ). gcd n (g * (b / g))) (gcd-left a b)
    ∙ ap (λ (n : ℕ). gcd a n) (gcd-right a b)
    ∙ sym (mul-one g)
    in
    eq_of_mul-eq-mul_left g p (gcd (a / g) (b / g)) 1 e

-- two pairs in lowest terms with equal cross products are one pair
pub lowest-unique : (a b c d : ℕ) → gcd a b ≡ 1 → gcd c d ≡ 1 → a * d ≡ c * b → (a ≡ c) × (b ≡ d)
lowest-unique a b c d e f h =
    let ac : a ∣ c = gauss a b c e (subst (λ (n : ℕ). a ∣ n) (h ∙ mul_comm c b) (dvd-mul_right a d)) in
    let ca : c ∣ a = gauss c d a f (subst (λ (n : ℕ). c ∣ n) (sym h ∙ mul_comm a d) (dvd-mul_right c b)) in
    let bd : b ∣ d = gauss b a d (gcd_comm b a ∙ e) (subst (λ (n : ℕ). b ∣ n) (sym h) (dvd-mul_left b c)) in
    let db : d ∣ b = gauss d c b (gcd_comm d c ∙ f) (subst (λ (n : ℕ). d ∣ n) h (dvd-mul_left d a)) in
    (dvd_antisymm ac ca, dvd_antisymm bd db)
