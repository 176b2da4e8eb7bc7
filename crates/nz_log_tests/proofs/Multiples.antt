-- Multiples of bounds, over every table: each is one, and that of a bound on no units that excludes 0 excludes it too.
use Rattle.std.proofs.Common.{◌≡◌, ◌||◌, ◌&&◌, ◌*ℤ◌, Bool, true, false, List, [], ◌∷◌, length, eqb, cond, pos, Less, Equal, Greater, refl, sym, ap, ap₂, subst, ◌∙◌, arith}
use Rattle.std.specs.Prelude.{All, int_lt}
use Rattle.std.specs.Ordering.{is_lt}
use Rattle.std.specs.Bool.{OnTrue}
use Rattle.std.specs.List.{list_all}
use Rattle.std.proofs.lemmas.Bool.{ne_eqb}
use Rattle.std.proofs.lemmas.List.Elements.{All-head, All-tail}
use Rattle.nz_fractions.specs.Fraction.{Fraction, Product, Sum, denominator, fraction_cmp, fraction_lt, outcome, whole, ◌=ℚ◌, ◌<ℚ◌, ◌*ℚ◌}
use Rattle.nz_fractions.proofs.Arithmetic.{outcome-product, outcome-sum}
use Rattle.nz_fractions.proofs.Laws.{=ℚ_trans, <ℚ-≤ℚ_trans, ≤ℚ-<ℚ_trans, ≤ℚ-from_eq}
use Rattle.nz_fractions.proofs.Order.{lt_from, lt_is}
use Rattle.nz_fractions.proofs.Identities.{times_zero, zero_left}
use Rattle.nz_fractions.proofs.Bounds.{times_lt}
use Rattle.nz_spec.specs.clauses.Farkas.{empty_bound, is_contradiction, is_linear_literal, is_multiple, multiples_onto}
use Rattle.nz_spec.specs.terms.Form as form
use Rattle.nz_spec.specs.terms.Form.{Numbering}
use Rattle.nz_spec.specs.terms.FormOf.{number_in}
use Rattle.nz_spec.specs.clauses.Literal.{Literal}
use Rattle.nz_spec.specs.terms.Table.{Node}
use Rattle.nz_spec.specs.terms.Term.{is_zero}
use Rattle.nz_lin.specs.declared.bound.Bound.{Bound}
use Rattle.nz_lin.specs.declared.form.Part.{Part}
use Rattle.nz_lin.specs.Bounds.{bounded, literal_over}
use Rattle.nz_lin.specs.Forms.{parts_over}
use Rattle.nz_log.specs.declared.atoms.Atom.{Atom}
use Rattle.nz_log.specs.declared.multiples.LitMultiple.{LitMultiple}
use Rattle.nz_log.specs.Atoms.{literal_in, with_sign}
use Rattle.nz_log.specs.Axioms.{multiple_in, multiples_in, sum_in}
use Rattle.nz_log_tests.specs.Sums.{IsMultiple}

-- ---- Tests

pub on_true : {P : Type 0} (b : Bool) → (b ≡ true → P) → OnTrue b P
on_true true f = f refl
on_true false f = tt

pub from_true : {P : Type 0} (b : Bool) → OnTrue b P → b ≡ true → P
from_true true h e = h
from_true false h e = cc

below : (p q : Bool) → is_lt (cond p Less (cond q Greater Equal)) ≡ p
below true q = refl
below false true = refl
below false false = refl

less_is : (p q : Fraction) → is_lt (fraction_cmp p q) ≡ fraction_lt p q
unfolding fraction_cmp fraction_lt
less_is p q =
    let a = p.numerator *ℤ pos (denominator q) in
    let b = q.numerator *ℤ pos (denominator p) in
    below (int_lt a b) (int_lt b a)

-- of two numbers that were read
pub told_less : {p q x y : Fraction} {less : Bool} → less ≡ is_lt (fraction_cmp p q) → p ≡ x → q ≡ y → less ≡ true → fraction_lt x y ≡ true
told_less {p} {q} compared first second e = sym (compared ∙ less_is p q ∙ ap₂ fraction_lt first second) ∙ e

pub no_parts : (ps : List Part) → eqb (length ps) 0 ≡ true → ps ≡ []
no_parts [] e = refl
no_parts (p ∷ ps) e =
    let some : eqb (length (p ∷ ps)) 0 ≡ false = ne_eqb (length (p ∷ ps)) 0 (λ h. omega arith) in
    absurd (cc)

-- ---- Each is one

is_linear : (s t : Bool) (ps : List form.Part) (q : Fraction) → is_linear_literal (with_sign s (bounded t ps q)) ≡ true
is_linear true true ps q = refl
is_linear true false ps q = refl
is_linear false true ps q = refl
is_linear false false ps q = refl

pub of_bound : (ns : List Node) (atoms : List Atom) (m : LitMultiple) (b : Bound) (s : Bool) → with_sign s (literal_over ns b) ≡ literal_in ns atoms m.literal
    → fraction_lt (whole (pos 0)) m.multiplier ≡ true → is_multiple (multiple_in ns atoms m) ≡ true
of_bound ns atoms m b s reads above =
    ap₂ (λ (x y : Bool). x && y) (sym (ap is_linear_literal reads) ∙ is_linear s b.strict (parts_over ns b.sides.parts) b.sides.offset) above

pub all_multiples : (atoms : List Atom) (ms : List LitMultiple) → All (IsMultiple atoms) ms → (ns : List Node) → list_all is_multiple (multiples_in ns atoms ms) ≡ true
all_multiples atoms [] h ns = refl
all_multiples atoms (m ∷ ms) h ns =
    ap₂ (λ (x y : Bool). x && y) (All-head (IsMultiple atoms) m ms h ns) (all_multiples atoms ms (All-tail (IsMultiple atoms) m ms h) ns)

-- ---- On no units

below_zero : (m q : Fraction) → whole (pos 0) <ℚ m → q <ℚ whole (pos 0) → outcome Sum (whole (pos 0)) (outcome Product m q) <ℚ whole (pos 0)
below_zero m q above below =
    let product = outcome Product m q in
    let same : outcome Sum (whole (pos 0)) product =ℚ (m *ℚ q) = =ℚ_trans (outcome-sum (whole (pos 0)) product) (=ℚ_trans (zero_left product) (outcome-product m q)) in
    ≤ℚ-<ℚ_trans (≤ℚ-from_eq same) (<ℚ-≤ℚ_trans (times_lt m q (whole (pos 0)) above below) (≤ℚ-from_eq (times_zero m)))

alone : (number : Numbering) (m q : Fraction) (s : Bool) → fraction_lt (whole (pos 0)) m ≡ true → fraction_lt q (whole (pos 0)) ≡ true
    → is_contradiction (multiples_onto number empty_bound (record { literal = bounded s [] q; multiplier = m } ∷ [])).result ≡ true
alone number m q s above below = by_strict s
  where
    excludes : fraction_lt (outcome Sum (whole (pos 0)) (outcome Product m q)) (whole (pos 0)) ≡ true
    excludes =
        lt_is (outcome Sum (whole (pos 0)) (outcome Product m q)) (whole (pos 0))
        (below_zero m q (lt_from (whole (pos 0)) m above) (lt_from q (whole (pos 0)) below))

    by_strict : (t : Bool) → is_contradiction (multiples_onto number empty_bound (record { literal = bounded t [] q; multiplier = m } ∷ [])).result ≡ true
    by_strict true = ap (λ (b : Bool). b || is_zero (outcome Sum (whole (pos 0)) (outcome Product m q)) && true) excludes
    by_strict false = ap (λ (b : Bool). b || is_zero (outcome Sum (whole (pos 0)) (outcome Product m q)) && false) excludes

pub false_alone : (ns : List Node) (atoms : List Atom) (m : LitMultiple) (b : Bound) (s : Bool) → with_sign s (literal_over ns b) ≡ literal_in ns atoms m.literal
    → s ≡ true → b.sides.parts ≡ [] → fraction_lt b.sides.offset (whole (pos 0)) ≡ true → fraction_lt (whole (pos 0)) m.multiplier ≡ true
    → is_contradiction (sum_in ns atoms (m ∷ [])).result ≡ true
false_alone ns atoms m b s reads sign none below above =
    subst
    (λ (l : Literal). is_contradiction (multiples_onto (number_in ns) empty_bound (record { literal = l; multiplier = m.multiplier } ∷ [])).result ≡ true)
    (ap (λ (ps : List Part). bounded b.strict (parts_over ns ps) b.sides.offset) (sym none) ∙ ap (λ (t : Bool). with_sign t (literal_over ns b)) (sym sign) ∙ reads)
    (alone (number_in ns) m.multiplier b.sides.offset b.strict above below)
