-- The order of infinitesimals, as `infinitesimal_cmp` tells it: chains, sums and multiples.
use Rattle.std.proofs.Common.{◌≡◌, false, inl, inr, pos, refl, sym, ap, ap₂, ◌∙◌, true≢false, Ordering, Less, Equal, Greater}
use Rattle.std.specs.Ordering.{ordering_then, ordering_reverse, is_gt, is_lt}
use Rattle.std.specs.Cmp.{IsTotalOrder, upto, tied_itself, alike_right}
use Rattle.std.proofs.lemmas.Cmp.{on_total, then_total}
use Rattle.nz_fractions.specs.Fraction.{Fraction, whole, ◌=ℚ◌, ◌≤ℚ◌, ◌<ℚ◌, ◌+ℚ◌, ◌*ℚ◌, fraction_cmp}
use Rattle.nz_spec.specs.numbers.Infinitesimal.{Infinitesimal, ◌=δ◌, ◌≤δ◌, infinitesimal_cmp, InfinitesimalsAreOrdered}
use Rattle.nz_fractions.proofs.Laws.{=ℚ_refl, =ℚ_sym, =ℚ_trans, ≤ℚ-from_eq, ≤ℚ-from_lt}
use Rattle.nz_fractions.proofs.Order.{fraction_cmp_is, fraction_cmp_total, fraction_ranked}
use Rattle.nz_fractions.proofs.Arithmetic.{+ℚ_comm, *ℚ_comm, cmp-same, cmp-+ℚ, cmp-*ℚ_pos, cmp-*ℚ_neg}

pub infinitesimal_total : IsTotalOrder infinitesimal_cmp
unfolding infinitesimal_cmp
infinitesimal_total =
    then_total
    (on_total (λ (x : Infinitesimal). x.standard) fraction_cmp_total)
    (on_total (λ (x : Infinitesimal). x.coefficient) fraction_cmp_total)

-- x is at most y
abbrev pub AtMost : Infinitesimal → Infinitesimal → Type 0
AtMost x y = is_gt (infinitesimal_cmp x y) ≡ false

pub at_most_trans : (x y z : Infinitesimal) → AtMost x y → AtMost y z → AtMost x z
at_most_trans x y z h k = upto infinitesimal_total x y z h k

pub not_less : (x y : Infinitesimal) → (infinitesimal_cmp y x ≡ Less → ⊥) → AtMost x y
not_less x y h = by_order (infinitesimal_cmp x y) (infinitesimal_total.antisymm y x)
  where
    by_order : (o : Ordering) → infinitesimal_cmp y x ≡ ordering_reverse o → is_gt o ≡ false
    by_order Less e = refl
    by_order Equal e = refl
    by_order Greater e = absurd (h e)

pub at_most-less : (x y z : Infinitesimal) → AtMost x y → infinitesimal_cmp y z ≡ Less → infinitesimal_cmp x z ≡ Less
at_most-less x y z h k = by_order (infinitesimal_cmp x y) refl h
  where
    by_order : (o : Ordering) → infinitesimal_cmp x y ≡ o → is_gt o ≡ false → infinitesimal_cmp x z ≡ Less
    by_order Less e g = infinitesimal_total.trans x y z e k
    by_order Equal e g = infinitesimal_total.congr x y z e ∙ k
    by_order Greater e g = absurd (true≢false g)

pub less-at_most : (x y z : Infinitesimal) → infinitesimal_cmp x y ≡ Less → AtMost y z → infinitesimal_cmp x z ≡ Less
less-at_most x y z k h = by_order (infinitesimal_cmp y z) refl h
  where
    by_order : (o : Ordering) → infinitesimal_cmp y z ≡ o → is_gt o ≡ false → infinitesimal_cmp x z ≡ Less
    by_order Less e g = infinitesimal_total.trans x y z k e
    by_order Equal e g = sym (alike_right infinitesimal_total y z x e) ∙ k
    by_order Greater e g = absurd (true≢false g)

pub never_less : (x : Infinitesimal) → infinitesimal_cmp x x ≡ Less → ⊥
never_less x h = true≢false (sym (ap is_lt h) ∙ ap is_lt (tied_itself infinitesimal_total x))

pub at_most-from_less : (x y : Infinitesimal) → infinitesimal_cmp x y ≡ Less → AtMost x y
at_most-from_less x y h = ap is_gt h

pub less-at_most_too : (x y z : Infinitesimal) → infinitesimal_cmp x y ≡ Less → AtMost y z → AtMost x z
less-at_most_too x y z h k = at_most-from_less x z (less-at_most x y z h k)

pub at_most-less_too : (x y z : Infinitesimal) → AtMost x y → infinitesimal_cmp y z ≡ Less → AtMost x z
at_most-less_too x y z h k = at_most-from_less x z (at_most-less x y z h k)

-- ---- By the parts

-- what is at most another is below it by its standard part, or level with it
pub at_most_parts : (x y : Infinitesimal) → AtMost x y → x ≤δ y
unfolding infinitesimal_cmp
at_most_parts x y h = by_order (fraction_cmp x.standard y.standard) refl h
  where
    level : (o : Ordering) → o ≡ fraction_cmp x.coefficient y.coefficient → is_gt o ≡ false → x.coefficient ≤ℚ y.coefficient
    level Less e g = ≤ℚ-from_lt (fraction_ranked x.coefficient y.coefficient Less e)
    level Equal e g = ≤ℚ-from_eq (fraction_ranked x.coefficient y.coefficient Equal e)
    level Greater e g = absurd (true≢false g)

    by_order : (o : Ordering) → o ≡ fraction_cmp x.standard y.standard → is_gt (ordering_then o (fraction_cmp x.coefficient y.coefficient)) ≡ false
        → x ≤δ y
    by_order Less e g = inl (fraction_ranked x.standard y.standard Less e)
    by_order Equal e g = inr (fraction_ranked x.standard y.standard Equal e, level (fraction_cmp x.coefficient y.coefficient) refl g)
    by_order Greater e g = absurd (true≢false g)

pub infinitesimals_are_ordered : InfinitesimalsAreOrdered
infinitesimals_are_ordered = record {
  total = infinitesimal_total;
  at_most = not_less;
  never_less = never_less;
  at_most_less = at_most-less;
  less_at_most = less-at_most;
  by_parts = at_most_parts;
}

-- ---- Equal values

tied : {p q : Fraction} → p =ℚ q → fraction_cmp p q ≡ Equal
tied {p} {q} h = sym (fraction_cmp_is p q Equal h)

pub at_most-equal : (x y : Infinitesimal) → x =δ y → AtMost x y
unfolding infinitesimal_cmp
at_most-equal x y h = ap is_gt (ap₂ (λ (o p : Ordering). ordering_then o p) (tied h.standard) (tied h.coefficient))

pub =δ_refl : (x : Infinitesimal) → x =δ x
=δ_refl x = record { standard = =ℚ_refl x.standard; coefficient = =ℚ_refl x.coefficient }

pub =δ_sym : {x y : Infinitesimal} → x =δ y → y =δ x
=δ_sym h = record { standard = =ℚ_sym h.standard; coefficient = =ℚ_sym h.coefficient }

pub =δ_trans : {x y z : Infinitesimal} → x =δ y → y =δ z → x =δ z
=δ_trans h k = record { standard = =ℚ_trans h.standard k.standard; coefficient = =ℚ_trans h.coefficient k.coefficient }

-- ---- Sums and multiples, part by part

abbrev pub parts_plus : Infinitesimal → Infinitesimal → Infinitesimal
parts_plus x y = record { standard = x.standard +ℚ y.standard; coefficient = x.coefficient +ℚ y.coefficient }

abbrev pub parts_times : Fraction → Infinitesimal → Infinitesimal
parts_times c x = record { standard = c *ℚ x.standard; coefficient = c *ℚ x.coefficient }

cmp-plus_left : (p q r : Fraction) → fraction_cmp (r +ℚ p) (r +ℚ q) ≡ fraction_cmp p q
cmp-plus_left p q r = cmp-same (+ℚ_comm r p) (+ℚ_comm r q) ∙ cmp-+ℚ p q r

pub at_most-plus : (x y z w : Infinitesimal) → AtMost x y → AtMost z w → AtMost (parts_plus x z) (parts_plus y w)
unfolding infinitesimal_cmp
at_most-plus x y z w h k =
    at_most_trans (parts_plus x z) (parts_plus y z) (parts_plus y w)
    (ap is_gt (ap₂ (λ (o p : Ordering). ordering_then o p) (cmp-+ℚ x.standard y.standard z.standard) (cmp-+ℚ x.coefficient y.coefficient z.coefficient)) ∙ h)
    (ap is_gt (ap₂ (λ (o p : Ordering). ordering_then o p) (cmp-plus_left z.standard w.standard y.standard) (cmp-plus_left z.coefficient w.coefficient y.coefficient)) ∙ k)

cmp-times_pos : (c p q : Fraction) → whole (pos 0) <ℚ c → fraction_cmp (c *ℚ p) (c *ℚ q) ≡ fraction_cmp p q
cmp-times_pos c p q h = cmp-same (*ℚ_comm c p) (*ℚ_comm c q) ∙ cmp-*ℚ_pos p q c h

cmp-times_neg : (c p q : Fraction) → c <ℚ whole (pos 0) → fraction_cmp (c *ℚ p) (c *ℚ q) ≡ fraction_cmp q p
cmp-times_neg c p q h = cmp-same (*ℚ_comm c p) (*ℚ_comm c q) ∙ cmp-*ℚ_neg p q c h

pub at_most-times_pos : (c : Fraction) (x y : Infinitesimal) → whole (pos 0) <ℚ c → AtMost x y → AtMost (parts_times c x) (parts_times c y)
unfolding infinitesimal_cmp
at_most-times_pos c x y h k =
    ap is_gt (ap₂ (λ (o p : Ordering). ordering_then o p) (cmp-times_pos c x.standard y.standard h) (cmp-times_pos c x.coefficient y.coefficient h)) ∙ k

pub less-times_neg : (c : Fraction) (x y : Infinitesimal) → c <ℚ whole (pos 0) → infinitesimal_cmp (parts_times c x) (parts_times c y) ≡ infinitesimal_cmp y x
unfolding infinitesimal_cmp
less-times_neg c x y h =
    ap₂ (λ (o p : Ordering). ordering_then o p) (cmp-times_neg c x.standard y.standard h) (cmp-times_neg c x.coefficient y.coefficient h)

pub at_most-times_neg : (c : Fraction) (x y : Infinitesimal) → c <ℚ whole (pos 0) → AtMost y x → AtMost (parts_times c x) (parts_times c y)
unfolding infinitesimal_cmp
at_most-times_neg c x y h k =
    ap is_gt (ap₂ (λ (o p : Ordering). ordering_then o p) (cmp-times_neg c x.standard y.standard h) (cmp-times_neg c x.coefficient y.coefficient h)) ∙ k
