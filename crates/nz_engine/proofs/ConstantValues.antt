-- The values that a search gives constants: each is of its constant's sort, and is listed with its number.
use Rattle.std.proofs.Common.{◌≡◌, inl, inr, ℕ, ◌<◌, ◌==◌, Bool, true, false, true≢false, List, [], ◌∷◌, ◌++◌, Option, Some, None, option_map, refl, sym, ap, ◌∙◌, subst, arith, eq-eqb}
use Rattle.std.specs.Prelude.{Contains, flat_map, if◌then◌else◌, slice_get}
use Rattle.std.specs.List.{AllByRecursion}
use Rattle.std.proofs.lemmas.Bool.{and_parts}
use Rattle.std.proofs.lemmas.Bool.Decides.{eqb_tells}
use Rattle.std.proofs.lemmas.Map.Made.{Contains-tail}
use Rattle.nz_lists.proofs.Elements.{AllByRecursion-append}
use Rattle.nz_spec.specs.terms.Term.{Sort, bool_sort, int_sort, real_sort, is_bool, are_same_sort, Constant, are_same_constant, Head, constant, Value, truth, default_value, IsOfSort}
use Rattle.nz_spec.specs.terms.Table.{Node, is_node_of, listed_value, assignment_by}
use Rattle.nz_spec.specs.search.Decide.{IsValueOf}
use Rattle.nz_spec.specs.terms.Model.{IsAssignment}
use Rattle.nz_engine.specs.Checking.{truth_in, value_as, value_at}
use Rattle.nz_engine.specs.Preparing.{PreparedState}

-- ---- Values of their sorts

-- each number is that of a constant, with a value of its sort
abbrev pub AreConstantValues : List Node → List (ℕ × Value) → Type 0
AreConstantValues ns ps = AllByRecursion (IsValueOf ns) ps

same_sorts : (s t : Sort) → are_same_sort s t ≡ true → s ≡ t
same_sorts bool_sort bool_sort e = refl
same_sorts int_sort int_sort e = refl
same_sorts real_sort real_sort e = refl
same_sorts s t e = cc

default_of_sort : (s : Sort) → IsOfSort s (default_value s)
default_of_sort bool_sort = tt
default_of_sort int_sort = refl
default_of_sort real_sort = tt

-- a value of a constant's sort is of that of the same constant
given_or : (c d : Constant) (v w : Value) (b : Bool) → are_same_constant c d ≡ b → IsOfSort c.sort v → IsOfSort d.sort w → IsOfSort d.sort (if b then v else w)
given_or c d v w false e h k = k
given_or c d v w true e h k = subst (λ s. IsOfSort s v) (same_sorts c.sort d.sort (and_parts _ _ e).1) h

pub is_assignment : (ns : List Node) (ps : List (ℕ × Value)) → AreConstantValues ns ps → IsAssignment (assignment_by ns ps)
is_assignment ns [] h d = default_of_sort d.sort
is_assignment ns (p ∷ ps) h d =
    let others : IsOfSort d.sort (assignment_by ns ps d) = is_assignment ns ps h.1 d in
    subst (λ o. IsOfSort d.sort (if is_node_of o d then p.1 else assignment_by ns ps d)) (sym h.0.node)
    (given_or h.0.of d p.1 (assignment_by ns ps d) (are_same_constant h.0.of d) refl h.0.sort others)

-- ---- The values of a search

truth_of_sort : (s : Sort) (b : Bool) → is_bool s ≡ true → IsOfSort s (truth b)
truth_of_sort bool_sort b e = tt
truth_of_sort int_sort b e = absurd (true≢false (sym e))
truth_of_sort real_sort b e = absurd (true≢false (sym e))

module _ (ns : List Node) (t : ℕ) where
  by_sort : (c : Constant) (kids : List ℕ) (b test : Bool) → is_bool c.sort ≡ test → slice_get ns t ≡ Some (record { head = constant c; kids = kids })
      → AreConstantValues ns (if test then (t, truth b) ∷ [] else [])
  by_sort c kids b true e at = (record { of = c; kids = kids; node = at; sort = truth_of_sort c.sort b e; fits = tt }, tt)
  by_sort c kids b false e at = tt

  by_head : (h : Head) (kids : List ℕ) (o : Option Bool) → slice_get ns t ≡ Some (record { head = h; kids = kids }) → AreConstantValues ns (value_as t (Some h) o)
  by_head (constant c) kids (Some b) at = by_sort c kids b (is_bool c.sort) refl at
  by_head h kids o at = tt

  by_node : (n : Option Node) (o : Option Bool) → slice_get ns t ≡ n → AreConstantValues ns (value_as t (option_map (λ (m : Node). m.head) n) o)
  by_node None o at = tt
  by_node (Some n) o at = by_head n.head n.kids o at

pub constant_values : (ns : List Node) (p : PreparedState) (ts : List ℕ) → AreConstantValues ns (flat_map (value_at ns p) ts)
constant_values ns p [] = tt
constant_values ns p (t ∷ ts) =
    AllByRecursion-append (IsValueOf ns) (value_at ns p t) (flat_map (value_at ns p) ts) (by_node ns t (slice_get ns t) (truth_in p t) refl) (constant_values ns p ts)

-- ---- What is listed

skip_test : (t u : ℕ) (v : Value) (ps : List (ℕ × Value)) (test : Bool) → (u == t) ≡ false → listed_value ((if test then (u, v) ∷ [] else []) ++ ps) t ≡ listed_value ps t
skip_test t u v ps true e = ap (λ b. if b then Some v else listed_value ps t) e
skip_test t u v ps false e = refl

skipped : (t u : ℕ) (h : Option Head) (o : Option Bool) (ps : List (ℕ × Value)) → (u == t) ≡ false → listed_value (value_as u h o ++ ps) t ≡ listed_value ps t
skipped t u (Some (constant c)) (Some b) ps e = skip_test t u (truth b) ps (is_bool c.sort) e
skipped t u h o ps e = refl

listed_at : (ns : List Node) (p : PreparedState) (t : ℕ) (b : Bool) → value_at ns p t ≡ (t, truth b) ∷ [] → (ts : List ℕ) → Contains ts t
    → listed_value (flat_map (value_at ns p) ts) t ≡ Some (truth b)
listed_at ns p t b own [] has = let below : has.0 < 0 = has.1 in absurd (omega (arith, below))
listed_at ns p t b own (u ∷ us) has =
    let rest = flat_map (value_at ns p) us in
    elim (eqb_tells u t) [
      | inl same ↦
          ap (λ k. listed_value (value_at ns p k ++ rest) t) same.1 ∙ ap (λ ps. listed_value (ps ++ rest) t) own ∙ ap (λ x. if x then Some (truth b) else listed_value rest t) (eq-eqb t t refl)
      | inr other ↦
          skipped t u (option_map (λ (m : Node). m.head) (slice_get ns u)) (truth_in p u) rest other.0 ∙ listed_at ns p t b own us (Contains-tail u us t other.1 has)
    ]

-- a constant of sort Bool with a truth is listed with it
pub listed_truth : (ns : List Node) (p : PreparedState) (ts : List ℕ) (t : ℕ) (c : Constant) (b : Bool) → Contains ts t → option_map (λ (n : Node). n.head) (slice_get ns t) ≡ Some (constant c)
    → is_bool c.sort ≡ true → truth_in p t ≡ Some b → listed_value (flat_map (value_at ns p) ts) t ≡ Some (truth b)
listed_truth ns p ts t c b has head bool found =
    let own : value_at ns p t ≡ (t, truth b) ∷ [] =
    ap (λ h. value_as t h (truth_in p t)) head ∙ ap (λ o. value_as t (Some (constant c)) o) found ∙ ap (λ x. if x then (t, truth b) ∷ [] else []) bool in
    listed_at ns p t b own ts has

-- ---- Other values behind them

-- what is listed first
pub listed_first : (ps qs : List (ℕ × Value)) (i : ℕ) (v : Value) → listed_value ps i ≡ Some v → listed_value (ps ++ qs) i ≡ Some v
listed_first [] qs i v e = absurd cc
listed_first (p ∷ ps) qs i v e = by_test (p.0 == i) e (listed_first ps qs i v)
  where
    by_test : (b : Bool) → (if b then Some p.1 else listed_value ps i) ≡ Some v → (listed_value ps i ≡ Some v → listed_value (ps ++ qs) i ≡ Some v)
        → (if b then Some p.1 else listed_value (ps ++ qs) i) ≡ Some v
    by_test true f rest = f
    by_test false f rest = rest f

-- and what is listed behind
pub listed_behind : (ps qs : List (ℕ × Value)) (i : ℕ) → listed_value ps i ≡ None → listed_value (ps ++ qs) i ≡ listed_value qs i
listed_behind [] qs i e = refl
listed_behind (p ∷ ps) qs i e = by_test (p.0 == i) e (listed_behind ps qs i)
  where
    by_test : (b : Bool) → (if b then Some p.1 else listed_value ps i) ≡ None → (listed_value ps i ≡ None → listed_value (ps ++ qs) i ≡ listed_value qs i)
        → (if b then Some p.1 else listed_value (ps ++ qs) i) ≡ listed_value qs i
    by_test true f rest = absurd cc
    by_test false f rest = rest f

-- a constant of another sort isn't among the truths
pub no_truth : (ns : List Node) (p : PreparedState) (ts : List ℕ) (t : ℕ) (c : Constant) → option_map (λ (n : Node). n.head) (slice_get ns t) ≡ Some (constant c) → is_bool c.sort ≡ false
    → listed_value (flat_map (value_at ns p) ts) t ≡ None
no_truth ns p [] t c head other = refl
no_truth ns p (u ∷ us) t c head other =
    let rest = flat_map (value_at ns p) us in
    elim (eqb_tells u t) [
      | inl same ↦
          ap (λ k. listed_value (value_at ns p k ++ rest) t) same.1 ∙ ap (λ (h : Option Head). listed_value (value_as t h (truth_in p t) ++ rest) t) head ∙ none (truth_in p t) ∙ no_truth ns p us t c head other
      | inr differ ↦ skipped t u (option_map (λ (m : Node). m.head) (slice_get ns u)) (truth_in p u) rest differ.0 ∙ no_truth ns p us t c head other
    ]
  where
    none : (o : Option Bool) → listed_value (value_as t (Some (constant c)) o ++ flat_map (value_at ns p) us) t ≡ listed_value (flat_map (value_at ns p) us) t
    none None = refl
    none (Some b) = ap (λ (x : Bool). listed_value ((if x then (t, truth b) ∷ [] else []) ++ flat_map (value_at ns p) us) t) other
