-- Companions that are made, one term after another in a table that grows.
use Rattle.std.proofs.Common.{◌≡◌, inl, inr, ℕ, ◌+◌, ◌<◌, ◌≤◌, List, [], ◌∷◌, ◌++◌, length, take, drop, Some, slice_get, refl, sym, ap, subst, ◌∙◌, arith, length-take}
use Rattle.std.specs.List.{AllByRecursion}
use Rattle.std.proofs.lemmas.Bool.{cases_lt}
use Rattle.std.proofs.lemmas.Bool.Decides.{eqb_tells}
use Rattle.std.proofs.lemmas.List.{take-append-drop}
use Rattle.nz_lists.proofs.Elements.{AllByRecursion-weaker}
use Rattle.nz_spec.specs.terms.Term.{Head, Term, Terms, apply, integer_quotient, modulus, to_int, is_int}
use Rattle.nz_spec.specs.terms.Table.{Node, TermStays, term_in}
use Rattle.nz_spec.specs.terms.Order.{companions_of, HasCompanions, IsInTable}
use Rattle.nz_term.specs.Growth.{Grows, KeepsTerms}
use Rattle.nz_term.specs.Listings.{companion_head}
use Rattle.nz_term.proofs.InstanceTerms.{grows_longer, grows_not, grows_on, term_kept}

-- ---- The companion of a term, by its head

pub companion_of : (h g : Head) (ts : Terms) → Some g ≡ companion_head h → companions_of (apply h ts) ≡ apply g ts ∷ []
companion_of modulus g ts e =
    let same : g ≡ integer_quotient = cc in
    ap (λ k. apply k ts ∷ []) (sym same)
companion_of is_int g ts e =
    let same : g ≡ to_int = cc in
    ap (λ k. apply k ts ∷ []) (sym same)
companion_of h g ts e = cc

-- it has none itself
pub no_further : (h g : Head) (ts : Terms) → Some g ≡ companion_head h → companions_of (apply g ts) ≡ []
no_further modulus g ts e =
    let same : g ≡ integer_quotient = cc in
    ap (λ k. companions_of (apply k ts)) same
no_further is_int g ts e =
    let same : g ≡ to_int = cc in
    ap (λ k. companions_of (apply k ts)) same
no_further h g ts e = cc

pub last_node : (ns : List Node) (n : Node) → slice_get (ns ++ n ∷ []) (length ns) ≡ Some n
last_node [] n = refl
last_node (m ∷ ns) n = last_node ns n

-- ---- Tables that have them

-- the table has the companions of this term
abbrev Has : List Node → Term → Type 0
Has ns t = AllByRecursion (IsInTable ns) (companions_of t)

in_longer : (old new : List Node) → length old ≤ length new → KeepsTerms old new → (t : Term) → IsInTable old t → IsInTable new t
in_longer old new long stays t there =
    let below = there.1 in
    (there.0, omega arith, stays there.0 below ∙ there.2)

-- they stay when the table grows
kept : (old new : List Node) → Grows old new → (t : Term) → Has old t → Has new t
kept old new g t h =
    AllByRecursion-weaker (IsInTable old) (IsInTable new) (in_longer old new (grows_longer old new g) g.stays) (companions_of t) h

-- and what the front of a table has, the table has
in_front : TermStays → (ns : List Node) (m : ℕ) → HasCompanions (take m ns) → (i : ℕ) → i < m → i < length ns → Has ns (term_in ns i)
in_front stays ns m has i below inside =
    let front = take m ns in
    let whole = take-append-drop m ns in
    let within : i < length front = omega (arith, length-take m ns) in
    let short : length front ≤ length ns = omega (arith, length-take m ns) in
    let still : KeepsTerms front ns = λ j l. sym (ap (λ ms. term_in ms j) whole) ∙ stays front (drop m ns) j l in
    subst (Has ns) (sym (still i within))
    (AllByRecursion-weaker (IsInTable front) (IsInTable ns) (in_longer front ns short still) (companions_of (term_in front i)) (has i within))

-- The terms below this number have their companions, if those of the front have theirs, and what is new has none.
pub record AreAdded (old now : List Node) (from count : ℕ) : Type 0 where
  pub grows : Grows old now
  pub had : HasCompanions (take from old) → (i : ℕ) → i < count → i < length old → Has now (term_in old i)
  pub alone : (i : ℕ) → length old ≤ i → i < length now → companions_of (term_in now i) ≡ []

pub start : TermStays → (old : List Node) (from : ℕ) → AreAdded old old from from
start stays old from = record {
  grows = grows_not old;
  had = in_front stays old from;
  alone = λ i past below. absurd (omega arith);
}

pub step : (old now next : List Node) (from count : ℕ) → AreAdded old now from count → count < length old → Grows now next
    → AllByRecursion (IsInTable next) (companions_of (term_in now count))
    → ((i : ℕ) → length now ≤ i → i < length next → companions_of (term_in next i) ≡ []) → AreAdded old next from (count + 1)
step old now next from count w inside g made new = record {
  grows = grows_on old now next w.grows g;
  had = λ has i below within. elim (eqb_tells i count) [
    | inl e ↦ subst (λ j. Has next (term_in old j)) (sym e.1) (subst (Has next) (term_kept old now w.grows count inside) made)
    | inr e ↦ kept now next g (term_in old i) (w.had has i (let other = e.1 in omega arith) within)
  ];
  alone = λ i past below. elim (cases_lt i (length now)) [
    | inl l ↦ ap companions_of (term_kept now next g i l) ∙ w.alone i past l
    | inr l ↦ new i l below
  ];
}

pub finish : (old now : List Node) (from count : ℕ) → AreAdded old now from count → length old ≤ count → HasCompanions (take from old) → HasCompanions now
finish old now from count w all has i below = elim (cases_lt i (length old)) [
  | inl l ↦ subst (Has now) (sym (term_kept old now w.grows i l)) (w.had has i (omega arith) l)
  | inr l ↦ subst (AllByRecursion (IsInTable now)) (sym (w.alone i l below)) tt
]
