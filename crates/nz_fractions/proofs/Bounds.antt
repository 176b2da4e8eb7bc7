-- Bounds on fractions, strict or not: they add up, and may be multiplied by what is above 0.
use Rattle.std.proofs.Common.{◌≡◌, Bool, true, false, ◌||◌, pos, refl, sym, ◌∙◌, Ordering, Less, Equal, Greater}
use Rattle.nz_fractions.specs.Fraction.{Fraction, whole, ◌=ℚ◌, ◌≤ℚ◌, ◌<ℚ◌, ◌+ℚ◌, neg_ℚ, ◌*ℚ◌, fraction_cmp}
use Rattle.nz_fractions.proofs.Laws.{=ℚ_refl, =ℚ_sym, ≤ℚ-from_eq, ≤ℚ-from_lt, ≤ℚ_trans, <ℚ-≤ℚ_trans, ≤ℚ-<ℚ_trans, <ℚ_irrefl}
use Rattle.nz_fractions.proofs.Order.{fraction_ranked, fraction_cmp_is}
use Rattle.nz_fractions.proofs.Arithmetic.{+ℚ_comm, +ℚ-neg, *ℚ_comm, cmp-same, cmp-+ℚ, cmp-*ℚ_pos}

-- ---- What one comparison says of another

pub lt-carried : (p q p' q' : Fraction) → fraction_cmp p q ≡ fraction_cmp p' q' → p <ℚ q → p' <ℚ q'
lt-carried p q p' q' e h = fraction_ranked p' q' Less (fraction_cmp_is p q Less h ∙ e)

pub le-carried : (p q p' q' : Fraction) → fraction_cmp p q ≡ fraction_cmp p' q' → p ≤ℚ q → p' ≤ℚ q'
le-carried p q p' q' e h = by_order (fraction_cmp p' q') refl
  where
    by_order : (o : Ordering) → o ≡ fraction_cmp p' q' → p' ≤ℚ q'
    by_order Less f = ≤ℚ-from_lt (fraction_ranked p' q' Less f)
    by_order Equal f = ≤ℚ-from_eq (fraction_ranked p' q' Equal f)
    by_order Greater f = absurd (<ℚ_irrefl (fraction_ranked p q Greater (f ∙ sym e)) h)

-- ---- Sums

pub moved : (p q r : Fraction) → p ≤ℚ q → (p +ℚ r) ≤ℚ (q +ℚ r)
moved p q r h = le-carried p q (p +ℚ r) (q +ℚ r) (sym (cmp-+ℚ p q r)) h

pub moved_right : (r p q : Fraction) → p ≤ℚ q → (r +ℚ p) ≤ℚ (r +ℚ q)
moved_right r p q h =
    ≤ℚ_trans (≤ℚ-from_eq (+ℚ_comm r p)) (≤ℚ_trans (moved p q r h) (≤ℚ-from_eq (+ℚ_comm q r)))

moved_lt : (p q r : Fraction) → p <ℚ q → (p +ℚ r) <ℚ (q +ℚ r)
moved_lt p q r h = lt-carried p q (p +ℚ r) (q +ℚ r) (sym (cmp-+ℚ p q r)) h

pub moved_right_lt : (r p q : Fraction) → p <ℚ q → (r +ℚ p) <ℚ (r +ℚ q)
moved_right_lt r p q h =
    ≤ℚ-<ℚ_trans (≤ℚ-from_eq (+ℚ_comm r p)) (<ℚ-≤ℚ_trans (moved_lt p q r h) (≤ℚ-from_eq (+ℚ_comm q r)))

-- a difference is above 0 where the first is the greater
pub above : (p q : Fraction) → q <ℚ p → whole (pos 0) <ℚ (p +ℚ neg_ℚ q)
above p q h =
    lt-carried q p (whole (pos 0)) (p +ℚ neg_ℚ q)
    (sym (cmp-+ℚ q p (neg_ℚ q)) ∙ cmp-same (+ℚ-neg q) (=ℚ_refl (p +ℚ neg_ℚ q)))
    h

-- ---- Multiples

pub scaled : (p q r : Fraction) → whole (pos 0) <ℚ r → p ≤ℚ q → (p *ℚ r) ≤ℚ (q *ℚ r)
scaled p q r z h = le-carried p q (p *ℚ r) (q *ℚ r) (sym (cmp-*ℚ_pos p q r z)) h

pub times_le : (m p q : Fraction) → whole (pos 0) <ℚ m → p ≤ℚ q → (m *ℚ p) ≤ℚ (m *ℚ q)
times_le m p q z h = ≤ℚ_trans (≤ℚ-from_eq (*ℚ_comm m p)) (≤ℚ_trans (scaled p q m z h) (≤ℚ-from_eq (*ℚ_comm q m)))

pub times_lt : (m p q : Fraction) → whole (pos 0) <ℚ m → p <ℚ q → (m *ℚ p) <ℚ (m *ℚ q)
times_lt m p q z h =
    ≤ℚ-<ℚ_trans (≤ℚ-from_eq (*ℚ_comm m p))
    (<ℚ-≤ℚ_trans (lt-carried p q (p *ℚ m) (q *ℚ m) (sym (cmp-*ℚ_pos p q m z)) h) (≤ℚ-from_eq (*ℚ_comm q m)))

-- ---- Bounds

-- below the limit where it is strict, else at most the limit
abbrev pub Within : Bool → Fraction → Fraction → Type 0
Within true p b = p <ℚ b
Within false p b = p ≤ℚ b

pub within_alike : (s : Bool) {p q b c : Fraction} → p =ℚ q → b =ℚ c → Within s q c → Within s p b
within_alike true e f h = ≤ℚ-<ℚ_trans (≤ℚ-from_eq e) (<ℚ-≤ℚ_trans h (≤ℚ-from_eq (=ℚ_sym f)))
within_alike false e f h = ≤ℚ_trans (≤ℚ-from_eq e) (≤ℚ_trans h (≤ℚ-from_eq (=ℚ_sym f)))

pub within_sum : (s t : Bool) (p b q c : Fraction) → Within s p b → Within t q c → Within (s || t) (p +ℚ q) (b +ℚ c)
within_sum true true p b q c h k = <ℚ-≤ℚ_trans (moved_lt p b q h) (moved_right b q c (≤ℚ-from_lt k))
within_sum true false p b q c h k = <ℚ-≤ℚ_trans (moved_lt p b q h) (moved_right b q c k)
within_sum false true p b q c h k = ≤ℚ-<ℚ_trans (moved p b q h) (moved_right_lt b q c k)
within_sum false false p b q c h k = ≤ℚ_trans (moved p b q h) (moved_right b q c k)

pub within_times : (s : Bool) (m p b : Fraction) → whole (pos 0) <ℚ m → Within s p b → Within s (m *ℚ p) (m *ℚ b)
within_times true m p b z h = times_lt m p b z h
within_times false m p b z h = times_le m p b z h
