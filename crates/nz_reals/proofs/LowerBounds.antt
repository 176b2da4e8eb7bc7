-- The lower bounds that atoms say, and their order.
use Rattle.std.proofs.Common.{◌≡◌, ℕ, ◌+◌, ◌<◌, ◌≤◌, Bool, true, false, true≢false, ◌⊎◌, inl, inr, List, [], ◌∷◌, ◌++◌, length, map, get_or, take, Some, Ordering, Less, Equal, Greater, refl, sym, ap, ap₂, ◌∙◌, subst, subst₂, not, pos, negsuc, arith}
use Rattle.std.specs.Prelude.{All, Contains, IsSome, if◌then◌else◌}
use Rattle.std.specs.List.{AllAdjacentBelow}
use Rattle.std.specs.List.Sorted.{IsPermutation}
use Rattle.std.specs.Cmp.{ranks}
use Rattle.std.specs.Ordering.{MatchOrdering, is_lt, nat_cmp, ordering_then}
use Rattle.std.proofs.lemmas.Int.{ints}
use Rattle.std.proofs.lemmas.List.{get_or_default, length-map, take_more}
use Rattle.std.proofs.lemmas.List.Elements.{All-contains, All-map, All-push, All-weaker, Contains-append_left, Contains-push, Contains-push_cases}
use Rattle.std.proofs.lemmas.List.Sorted.{All-permutation, Contains-permutation}
use Rattle.nz_lists.proofs.Members.{map_has}
use Rattle.nz_lists.proofs.Places.{slice_index_or-map}
use Rattle.nz_fractions.specs.Fraction.{Fraction, ◌=ℚ◌, ◌≤ℚ◌, ◌<ℚ◌, denominator, fraction_cmp, neg_ℚ, whole}
use Rattle.nz_fractions.proofs.Laws.{=ℚ_sym, ≤ℚ-from_eq, ≤ℚ-from_lt, <ℚ-≤ℚ_trans}
use Rattle.nz_fractions.proofs.Order.{fraction_cmp_is, fraction_ranked}
use Rattle.nz_spec.specs.simplex.Bland.{at_least_bound, at_most_bound}
use Rattle.nz_spec.specs.numbers.Infinitesimal.{Infinitesimal, infinitesimal_cmp, ◌≤δ◌}
use Rattle.nz_lin.specs.declared.form.Part.{Part}
use Rattle.nz_trail.specs.declared.limits.Side.TheVariants.{Lower, Upper}
use Rattle.nz_delta.specs.DeltaSpace.{infinitesimal_of}
use Rattle.nz_log.specs.declared.atoms.Atom.{Atom}
use Rattle.nz_log.specs.declared.lits.Lit.{Lit}
use Rattle.nz_log.specs.Lits.{negated_lit}
use Rattle.nz_reals.specs.declared.neighbours.Lower as code
use Rattle.nz_reals.specs.Exclusions.{AreLowers, AreOfOneForm, AreOpposed, IsKnownOn, IsLower, IsSaidLower, IsWeaker, lits_of}
use Rattle.nz_reals.specs.Known.{IsSaidOf, Known, SideBound, said_by, said_on}
use Rattle.nz_reals.specs.Stands.{IsOf}
use Rattle.nz_reals.specs.State.{Theory, known_at}
use Rattle.nz_reals.specs.Sums.{is_turned}

-- ---- One literal of an atom

some_same : {X : Type 0} {x y : X} → Some x ≡ Some y → x ≡ y
some_same e = cc

-- what is said of a sum is a lower bound by at most one sign
one_side : (ps : List Part) (b : Fraction) (k : Known) → k.yes.side ≡ Lower → k.no.side ≡ Lower → IsSaidOf ps b k → ⊥
one_side [] b k low other says = let never : Upper ≡ Lower = sym (ap (λ (s : SideBound). s.side) says.no) ∙ other in absurd (cc)
one_side (p ∷ ps) b k low other says = by_turn (is_turned (p ∷ ps)) refl
  where
    by_turn : (t : Bool) → is_turned (p ∷ ps) ≡ t → ⊥
    by_turn true e = let never : Upper ≡ Lower = sym (ap (λ (s : SideBound). s.side) says.no ∙ ap (λ (x : Bool). (if x then said_on Upper (at_most_bound true (neg_ℚ b)) else said_on Lower (at_least_bound true b)).side) e) ∙ other in absurd (cc)
    by_turn false e = let never : Upper ≡ Lower = sym (ap (λ (s : SideBound). s.side) says.yes ∙ ap (λ (x : Bool). (if x then said_on Lower (at_least_bound false (neg_ℚ b)) else said_on Upper (at_most_bound false b)).side) e) ∙ low in absurd (cc)

module _ (t : Theory) where
  pub one_lower : (atoms : List Atom) (ids : List ℕ) → IsOf t atoms ids → (l m : Lit) → m.atom ≡ l.atom → IsLower t l → IsLower t m → m ≡ l
  one_lower atoms ids of l m atom low other =
      let same : other.known ≡ low.known = some_same (sym other.knows ∙ ap (known_at t) atom ∙ low.knows) in
      let right = of.right l.atom low.known low.knows in
      let signs = by_signs right.0.sides.parts right.0.sides.offset right.2.says l.sign m.sign low.side (subst (λ (k : Known). (said_by k m.sign).side ≡ Lower) same other.side) in
      λ i. record { atom = atom i; sign = signs i }
    where
      by_signs : (ps : List Part) (b : Fraction) → IsSaidOf ps b low.known → (s r : Bool) → (said_by low.known s).side ≡ Lower → (said_by low.known r).side ≡ Lower → r ≡ s
      by_signs ps b says true true h k = refl
      by_signs ps b says true false h k = absurd (one_side ps b low.known h k says)
      by_signs ps b says false true h k = absurd (one_side ps b low.known k h says)
      by_signs ps b says false false h k = refl

  -- ---- The order

  is_weaker : (x y : code.Lower) → IsSaidLower t x → IsSaidLower t y
      → is_lt (ordering_then (ordering_then (nat_cmp y.var x.var) (fraction_cmp y.value.c x.value.c)) (fraction_cmp y.value.k x.value.k)) ≡ false → IsWeaker t x.literal y.literal
  is_weaker x y low high later = record {
    first = low.known;
    knows = low.knows;
    second = high.known;
    knows_other = high.knows;
    order = by_var (nat_cmp y.var x.var) refl later;
  }
    where
      equal : (a b : ℕ) → nat_cmp a b ≡ Equal → a ≡ b
      equal a b e = subst (λ (o : Ordering). MatchOrdering o (a < b) (a ≡ b) (b < a)) e (ranks a b)

      greater : (a b : ℕ) → nat_cmp a b ≡ Greater → b < a
      greater a b e = subst (λ (o : Ordering). MatchOrdering o (a < b) (a ≡ b) (b < a)) e (ranks a b)

      values : (x.value.c <ℚ y.value.c) ⊎ ((x.value.c =ℚ y.value.c) × (x.value.k ≤ℚ y.value.k)) → (said_by low.known x.literal.sign).value ≤δ (said_by high.known y.literal.sign).value
      values h = subst (λ (s : SideBound). s.value ≤δ (said_by high.known y.literal.sign).value) (sym low.says) (subst (λ (s : SideBound). infinitesimal_of x.value ≤δ s.value) (sym high.says) h)

      by_last : (o : Ordering) → o ≡ fraction_cmp y.value.k x.value.k → is_lt o ≡ false → x.value.k ≤ℚ y.value.k
      by_last Less e h = absurd (true≢false h)
      by_last Equal e h = ≤ℚ-from_eq (=ℚ_sym (fraction_ranked y.value.k x.value.k Equal e))
      by_last Greater e h = ≤ℚ-from_lt (fraction_ranked y.value.k x.value.k Greater e)

      by_first : (o : Ordering) → o ≡ fraction_cmp y.value.c x.value.c → is_lt (ordering_then o (fraction_cmp y.value.k x.value.k)) ≡ false → (x.value.c <ℚ y.value.c) ⊎ ((x.value.c =ℚ y.value.c) × (x.value.k ≤ℚ y.value.k))
      by_first Less e h = absurd (true≢false h)
      by_first Equal e h = inr (=ℚ_sym (fraction_ranked y.value.c x.value.c Equal e), by_last (fraction_cmp y.value.k x.value.k) refl h)
      by_first Greater e h = inl (fraction_ranked y.value.c x.value.c Greater e)

      by_var : (o : Ordering) → o ≡ nat_cmp y.var x.var → is_lt (ordering_then (ordering_then o (fraction_cmp y.value.c x.value.c)) (fraction_cmp y.value.k x.value.k)) ≡ false
          → (low.known.form < high.known.form) ⊎ ((low.known.form ≡ high.known.form) × ((said_by low.known x.literal.sign).value ≤δ (said_by high.known y.literal.sign).value))
      by_var Less e h = absurd (true≢false h)
      by_var Equal e h = inr (sym low.form ∙ sym (equal y.var x.var (sym e)) ∙ high.form, values (by_first (fraction_cmp y.value.c x.value.c) refl h))
      by_var Greater e h = inl (subst (λ (n : ℕ). n < high.known.form) low.form (subst (λ (n : ℕ). x.var < n) high.form (greater y.var x.var (sym e))))

-- ---- The negation of a lower bound

-- The one is a lower bound, the other an upper one that is less by infinitesimals.
record IsJustBelow (low high : SideBound) : Type 0 where
  upper : high.side ≡ Upper
  standard : high.value.standard ≡ low.value.standard
  less : high.value.coefficient <ℚ low.value.coefficient

minus_below : whole (negsuc 0) <ℚ whole (pos 0)
unfolding denominator
minus_below = record { cross = omega (arith, ints) }

one_above : whole (pos 0) <ℚ whole (pos 1)
unfolding denominator
one_above = record { cross = omega (arith, ints) }

never_lower : (s : SideBound) → s.side ≡ Upper → s.side ≡ Lower → ⊥
never_lower s h k = let never : Upper ≡ Lower = sym h ∙ k in absurd (cc)

negation_below : (ps : List Part) (b : Fraction) (k : Known) → IsSaidOf ps b k → (sign : Bool) → (said_by k sign).side ≡ Lower → IsJustBelow (said_by k sign) (said_by k (not sign))
negation_below [] b k says true low = absurd (never_lower k.yes (ap (λ (s : SideBound). s.side) says.yes) low)
negation_below [] b k says false low = absurd (never_lower k.no (ap (λ (s : SideBound). s.side) says.no) low)
negation_below (p ∷ ps) b k says sign low = by_turn (is_turned (p ∷ ps)) sign says.yes says.no low
  where
    by_turn : (x sign : Bool) → k.yes ≡ (if x then said_on Lower (at_least_bound false (neg_ℚ b)) else said_on Upper (at_most_bound false b))
        → k.no ≡ (if x then said_on Upper (at_most_bound true (neg_ℚ b)) else said_on Lower (at_least_bound true b)) → (said_by k sign).side ≡ Lower
        → IsJustBelow (said_by k sign) (said_by k (not sign))
    by_turn true true y n h = subst₂ IsJustBelow (sym y) (sym n) (record { upper = refl; standard = refl; less = minus_below })
    by_turn true false y n h = absurd (never_lower k.no (ap (λ (s : SideBound). s.side) n) h)
    by_turn false true y n h = absurd (never_lower k.yes (ap (λ (s : SideBound). s.side) y) h)
    by_turn false false y n h = subst₂ IsJustBelow (sym n) (sym y) (record { upper = refl; standard = refl; less = one_above })

-- what is at least a bound is above what is just below it
above_both : (low high : SideBound) (x : Infinitesimal) → IsJustBelow low high → low.value ≤δ x → infinitesimal_cmp x high.value ≡ Greater
unfolding infinitesimal_cmp
above_both low high x below least =
    elim least [
      | inl less ↦ ap (λ (o : Ordering). ordering_then o (fraction_cmp x.coefficient high.value.coefficient))
          (sym (fraction_cmp_is x.standard high.value.standard Greater (subst (λ (q : Fraction). q <ℚ x.standard) (sym below.standard) less)))
      | inr same ↦ ap₂ ordering_then
          (sym (fraction_cmp_is x.standard high.value.standard Equal (=ℚ_sym (subst (λ (q : Fraction). q =ℚ x.standard) (sym below.standard) same.0))))
          (sym (fraction_cmp_is x.coefficient high.value.coefficient Greater (<ℚ-≤ℚ_trans below.less same.1)))
    ]

-- a bound and the negation of a weaker one of its form leave the form no value
pub opposed : (t : Theory) (atoms : List Atom) (ids : List ℕ) → IsOf t atoms ids → (l m : Lit) → IsLower t l → IsLower t m → IsWeaker t l m → AreOfOneForm t l m → AreOpposed t m (negated_lit l)
opposed t atoms ids of l m low high weaker one =
    let k = low.known in
    let n = high.known in
    let form : k.form ≡ n.form = ap (λ (x : Known). x.form) (some_same (sym low.knows ∙ one.knows)) ∙ one.form ∙ ap (λ (x : Known). x.form) (some_same (sym one.knows_other ∙ high.knows)) in
    let right = of.right l.atom k low.knows in
    let below = negation_below right.0.sides.parts right.0.sides.offset k right.2.says l.sign low.side in
    let order : (k.form < n.form) ⊎ ((k.form ≡ n.form) × ((said_by k l.sign).value ≤δ (said_by n m.sign).value)) =
    subst₂ (λ (x y : Known). (x.form < y.form) ⊎ ((x.form ≡ y.form) × ((said_by x l.sign).value ≤δ (said_by y m.sign).value))) (some_same (sym weaker.knows ∙ low.knows))
    (some_same (sym weaker.knows_other ∙ high.knows)) weaker.order in
    let least : (said_by k l.sign).value ≤δ (said_by n m.sign).value = elim order [ inl less ↦ absurd (omega (arith, less, form)) | inr same ↦ same.1 ] in
    record {
      first = n;
      knows = high.knows;
      second = k;
      knows_other = low.knows;
      form = form;
      above = record { lower = high.side; upper = below.upper; greater = above_both (said_by k l.sign) (said_by k (not l.sign)) (said_by n m.sign).value below least };
    }

-- ---- Neighbours

-- what is listed of neighbours of a list, of those of what a map makes of it
pub adjacent_map : {X Y : Type 0} (f : X → Y) (R : Y → Y → Type 0) (xs : List X) → AllAdjacentBelow (λ x y. R (f x) (f y)) xs (length xs) → AllAdjacentBelow R (map f xs) (length (map f xs))
adjacent_map f R [] h k d less = absurd (omega (arith, less))
adjacent_map f R (x ∷ xs) h k d less =
    let long : length (map f (x ∷ xs)) ≡ length (x ∷ xs) = length-map (x ∷ xs) f in
    let here : (i : ℕ) → i < length (map f (x ∷ xs)) → f (get_or (x ∷ xs) i x) ≡ get_or (map f (x ∷ xs)) i d = λ i within. sym (get_or_default (map f (x ∷ xs)) i d (f x) within ∙ slice_index_or-map f (x ∷ xs) i x) in
    subst₂ R (here k (omega (arith, less))) (here (k + 1) less) (h k x (subst (λ (n : ℕ). k + 1 < n) long less))

-- ---- As they are listed

module _ (t : Theory) (ids : List ℕ) where
  -- just the lower bounds that these atoms say
  pub record AreListed (xs : List code.Lower) : Type 0 where
    pub right : All (λ (x : code.Lower). Contains ids x.literal.atom × IsSaidLower t x) xs
    pub all : (l : Lit) → Contains ids l.atom → IsLower t l → (x : code.Lower) × Contains xs x × (x.literal.atom ≡ l.atom)

  said : (x : code.Lower) → IsSaidLower t x → IsLower t x.literal
  said x is = record { known = is.known; knows = is.knows; side = ap (λ (s : SideBound). s.side) is.says }

  pub listed_sorted : (xs ys : List code.Lower) → IsPermutation xs ys → AreListed xs → AreListed ys
  listed_sorted xs ys moved are = record {
    right = All-permutation (λ (x : code.Lower). Contains ids x.literal.atom × IsSaidLower t x) xs ys moved are.right;
    all = λ l on low. let x = are.all l on low in (x.0, Contains-permutation xs ys x.0 moved x.1, x.2);
  }

  -- by the form, then by the value
  abbrev pub key_cmp : code.Lower → code.Lower → Ordering
  key_cmp x y = ordering_then (ordering_then (nat_cmp x.var y.var) (fraction_cmp x.value.c y.value.c)) (fraction_cmp x.value.k y.value.k)

  -- sorted by the form and the value
  pub lowers_sorted : (atoms : List Atom) (some : List ℕ) → IsOf t atoms some → (xs ys : List code.Lower) → IsPermutation xs ys
      → ((k : ℕ) (d : code.Lower) → 0 ≤ k → k + 1 < length ys → is_lt (key_cmp (get_or ys (k + 1) d) (get_or ys k d)) ≡ false) → AreListed xs → AreLowers t ids (lits_of ys)
  lowers_sorted atoms some of xs ys moved sorted are =
      let here = listed_sorted xs ys moved are in
      record {
        right = all_map ys here.right;
        all = λ l on low. found l low (here.all l on low) here.right;
        weaker_first = adjacent_map (λ (x : code.Lower). x.literal) (IsWeaker t) ys
            (λ k d less. is_weaker t (get_or ys k d) (get_or ys (k + 1) d) (here.right k d (omega (arith, less))).1 (here.right (k + 1) d less).1 (sorted k d (omega arith) less));
      }
    where
      all_map : (zs : List code.Lower) → All (λ (x : code.Lower). Contains ids x.literal.atom × IsSaidLower t x) zs → All (λ (l : Lit). Contains ids l.atom × IsLower t l) (lits_of zs)
      all_map zs each =
          All-map (λ (l : Lit). Contains ids l.atom × IsLower t l) (λ (x : code.Lower). x.literal) zs
          (All-weaker (λ (x : code.Lower). Contains ids x.literal.atom × IsSaidLower t x) (λ (x : code.Lower). Contains ids x.literal.atom × IsLower t x.literal) (λ x h. (h.0, said x h.1)) zs each)

      found : (l : Lit) → IsLower t l → (x : code.Lower) × Contains ys x × (x.literal.atom ≡ l.atom) → All (λ (x : code.Lower). Contains ids x.literal.atom × IsSaidLower t x) ys → Contains (lits_of ys) l
      found l low x each =
          let is = All-contains (λ (y : code.Lower). Contains ids y.literal.atom × IsSaidLower t y) ys x.0 each x.1 in
          subst (Contains (lits_of ys)) (one_lower t atoms some of l x.0.literal x.2 low (said x.0 is.1)) (map_has (λ (y : code.Lower). y.literal) ys x.0 x.1)

module _ (t : Theory) (ids : List ℕ) (xs : List code.Lower) (i : ℕ) (within : i < length ids) (are : AreListed t (take i ids) xs) where
  -- what is on the atoms up to here is on those before, or on this one
  on_more : (a : ℕ) → Contains (take (i + 1) ids) a → Contains (take i ids) a ⊎ (get_or ids i 0 ≡ a)
  on_more a on = Contains-push_cases (take i ids) (get_or ids i 0) a (subst (λ (l : List ℕ). Contains l a) (take_more ids i 0 within) on)

  on_before : (a : ℕ) → Contains (take i ids) a → Contains (take (i + 1) ids) a
  on_before a on = subst (λ (l : List ℕ). Contains l a) (sym (take_more ids i 0 within)) (Contains-append_left (take i ids) (get_or ids i 0 ∷ []) a on)

  on_here : Contains (take (i + 1) ids) (get_or ids i 0)
  on_here = subst (λ (l : List ℕ). Contains l (get_or ids i 0)) (sym (take_more ids i 0 within)) (Contains-push (take i ids) (get_or ids i 0))

  right_more : All (λ (x : code.Lower). Contains (take (i + 1) ids) x.literal.atom × IsSaidLower t x) xs
  right_more =
      All-weaker (λ (x : code.Lower). Contains (take i ids) x.literal.atom × IsSaidLower t x) (λ (x : code.Lower). Contains (take (i + 1) ids) x.literal.atom × IsSaidLower t x)
      (λ x h. (on_before x.literal.atom h.0, h.1)) xs are.right

  -- the next atom says one
  pub listed_more : (x : code.Lower) → x.literal.atom ≡ get_or ids i 0 → IsSaidLower t x → AreListed t (take (i + 1) ids) (xs ++ x ∷ [])
  listed_more x atom is = record {
    right =
        All-push (λ (y : code.Lower). Contains (take (i + 1) ids) y.literal.atom × IsSaidLower t y) xs x right_more
        (subst (Contains (take (i + 1) ids)) (sym atom) on_here, is);
    all = λ l on low. elim (on_more l.atom on) [
      | inl before ↦ let y = are.all l before low in (y.0, Contains-append_left xs (x ∷ []) y.0 y.1, y.2)
      | inr here ↦ (x, Contains-push xs x, atom ∙ here)
    ];
  }

  -- the next atom says none
  pub listed_same : ((l : Lit) → l.atom ≡ get_or ids i 0 → IsLower t l → ⊥) → AreListed t (take (i + 1) ids) xs
  listed_same none = record {
    right = right_more;
    all = λ l on low. elim (on_more l.atom on) [ inl before ↦ are.all l before low | inr here ↦ absurd (none l (sym here) low) ];
  }

-- something is known of their atoms
pub listed_known : (t : Theory) (ids : List ℕ) (xs : List code.Lower) → AreListed t ids xs → All (λ (x : code.Lower). IsKnownOn t ids x.literal) xs
listed_known t ids xs are =
    All-weaker (λ (x : code.Lower). Contains ids x.literal.atom × IsSaidLower t x) (λ (x : code.Lower). IsKnownOn t ids x.literal)
    (λ x h. (h.0, subst IsSome (sym h.1.knows) refl)) xs are.right
