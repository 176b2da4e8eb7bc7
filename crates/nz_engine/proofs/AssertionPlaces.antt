-- Where the terms of a kind stand in levels, and how many stand in the first ones.
use Rattle.std.proofs.Common.{◌≡◌, ℕ, zero, suc, ◌+◌, ◌<◌, ◌≤◌, ◌⊎◌, inl, inr, Bool, true, false, List, [], ◌∷◌, ◌++◌, append-nil, append_assoc, length, map, take, drop, get_or, Some, refl, sym, ap, subst, ◌∙◌, arith}
use Rattle.std.specs.Prelude.{Contains, slice_get, if◌then◌else◌}
use Rattle.std.proofs.lemmas.Grind.{flat_map-append}
use Rattle.std.proofs.lemmas.List.{length-append, length-map, map-append, take-append-drop, take-append-le, take-map, take-take, take_all}
use Rattle.std.proofs.lemmas.List.Elements.{Contains-append_cases, Contains-append_left, Contains-append_right}
use Rattle.std.proofs.lemmas.Option.{slice_get-get_or, slice_get_within}
use Rattle.nz_lists.proofs.Members.{has_found}
use Rattle.nz_lists.proofs.Places.{slice_get_kept}
use Rattle.nz_spec.specs.clauses.Gates.{is_boolean_term}
use Rattle.nz_spec.specs.search.Decide.{asserted_numbers, with_number}
use Rattle.nz_spec.specs.terms.Table.{Node, term_in}
use Rattle.nz_log.specs.Sound.{live_at, AreMore, LogsStay}
use Rattle.nz_search.specs.Levels.{Level, added_by_level, asserted_by_level, empty_level, numbers_by_level, with_added, with_term}
use Rattle.nz_engine.specs.declared.levels.Kind.{Kind}
use Rattle.nz_engine.specs.declared.levels.Kind.TheVariants.{Asserted, Number}
use Rattle.nz_engine.specs.Levels.{IsPlaced, by_level, count_in, count_of, of_kind}

-- ---- Lists

pub lower_or_not : (m n : ℕ) → (m < n) ⊎ (n ≤ m)
lower_or_not m zero = inr (omega arith)
lower_or_not zero (suc n) = inl (omega arith)
lower_or_not (suc m) (suc n) = elim (lower_or_not m n) [ inl below ↦ inl (omega (arith, below)) | inr above ↦ inr (omega (arith, above)) ]

-- where an element stands, and that what stands there is an element
pub place_of : {X : Type 0} (xs : List X) (x : X) → Contains xs x → (k : ℕ) × (slice_get xs k ≡ Some x)
place_of xs x h = (h.0, slice_get-get_or xs h.0 x h.1 ∙ ap Some h.2)

-- places of the first of two lists, and of the second
pub in_first : {X : Type 0} (xs ys : List X) (k : ℕ) → k < length xs → slice_get (xs ++ ys) k ≡ slice_get xs k
in_first [] ys k inside = absurd (omega arith)
in_first (x ∷ xs) ys zero inside = refl
in_first (x ∷ xs) ys (suc k) inside = in_first xs ys k (omega arith)

pub in_second : {X : Type 0} (xs ys : List X) (j k : ℕ) → j ≡ length xs + k → slice_get (xs ++ ys) j ≡ slice_get ys k
in_second [] ys j k e = let same : j ≡ k = omega (arith, e) in ap (slice_get ys) same
in_second (x ∷ xs) ys zero k e = absurd (omega arith)
in_second (x ∷ xs) ys (suc j) k e = in_second xs ys j k (omega arith)

-- ---- Terms of the first levels

split : (levels : List (List ℕ)) (n : ℕ) → asserted_numbers levels ≡ asserted_numbers (take n levels) ++ asserted_numbers (drop n levels)
split levels n =
    ap asserted_numbers (sym (take-append-drop n levels)) ∙ flat_map-append (λ (l : List ℕ). l) (take n levels) (drop n levels)

-- a term of the first levels keeps its place, and one whose place is below their count is one of theirs
pub in_all : (levels : List (List ℕ)) (n k t : ℕ) → slice_get (asserted_numbers (take n levels)) k ≡ Some t → slice_get (asserted_numbers levels) k ≡ Some t
in_all levels n k t at =
    ap (λ xs. slice_get xs k) (split levels n) ∙ slice_get_kept (asserted_numbers (take n levels)) (asserted_numbers (drop n levels)) k t at

pub in_front : (levels : List (List ℕ)) (n k t : ℕ) → k < count_in levels n → slice_get (asserted_numbers levels) k ≡ Some t
    → slice_get (asserted_numbers (take n levels)) k ≡ Some t
in_front levels n k t inside at =
    sym (in_first (asserted_numbers (take n levels)) (asserted_numbers (drop n levels)) k inside) ∙ ap (λ xs. slice_get xs k) (sym (split levels n)) ∙ at

-- more levels have no fewer
pub count_more : (levels : List (List ℕ)) (m n : ℕ) → m ≤ n → count_in levels m ≤ count_in levels n
count_more levels zero n below = omega arith
count_more [] (suc m) n below = omega arith
count_more (l ∷ ls) (suc m) zero below = absurd (omega arith)
count_more (l ∷ ls) (suc m) (suc n) below =
    let more = count_more ls m n (omega arith) in
    let first = length-append l (asserted_numbers (take m ls)) in
    let second = length-append l (asserted_numbers (take n ls)) in
    omega (arith, more, first, second)

-- past the last level there are all
pub count_all : (levels : List (List ℕ)) (n : ℕ) → length levels ≤ n → count_in levels n ≡ count_of levels
count_all levels n past = ap (λ ls. length (asserted_numbers ls)) (take_all n levels past)

pub count_within : (levels : List (List ℕ)) (n : ℕ) → count_in levels n ≤ count_of levels
count_within levels n =
    elim (lower_or_not n (length levels)) [
      | inl below ↦
          let more = count_more levels n (length levels) (omega (arith, below)) in
          let all = count_all levels (length levels) (omega arith) in
          omega (arith, more, all)
      | inr past ↦ let all = count_all levels n past in omega (arith, all)
    ]

-- the next level adds its own
pub next_level : (levels : List (List ℕ)) (n : ℕ) → n < length levels
    → asserted_numbers (take (suc n) levels) ≡ asserted_numbers (take n levels) ++ get_or levels n []
next_level [] n below = absurd (omega arith)
next_level (l ∷ ls) zero below = append-nil l
next_level (l ∷ ls) (suc n) below =
    ap (λ xs. l ++ xs) (next_level ls n (omega arith)) ∙ sym (append_assoc l (asserted_numbers (take n ls)) (get_or ls n []))

-- ---- Where a term stands

module _ (levels : List (List ℕ)) (place n left : ℕ) (below : n < length levels) (behind : count_in levels n + left ≡ place) where
  -- it is there in this level
  pub placed_here : (t : ℕ) → slice_get (get_or levels n []) left ≡ Some t → IsPlaced levels place t n
  placed_here t at =
      record {
        live = ap (λ xs. slice_get xs place) (next_level levels n below)
            ∙ in_second (asserted_numbers (take n levels)) (get_or levels n []) place left (sym behind) ∙ at;
        behind = omega (arith, behind);
      }

module _ (levels : List (List ℕ)) (k t n : ℕ) (placed : IsPlaced levels k t n) where
  pub placed_count : k < count_in levels (suc n)
  placed_count = slice_get_within (live_at levels n) k t placed.live

  -- its level is one of them
  placed_below : n < length levels
  placed_below =
      elim (lower_or_not n (length levels)) [
        | inl below ↦ below
        | inr past ↦
            let first = count_all levels n past in
            let second = count_all levels (suc n) (omega (arith, past)) in
            let inside = placed_count in
            let behind = placed.behind in
            absurd (omega (arith, first, second, inside, behind))
      ]

  pub placed_in_all : slice_get (asserted_numbers levels) k ≡ Some t
  placed_in_all = in_all levels (suc n) k t placed.live

  -- below a higher level there are more
  pub placed_above : (m : ℕ) → count_in levels m ≤ k → m ≤ n
  placed_above m few =
      elim (lower_or_not n m) [
        | inl higher ↦
            let more = count_more levels (suc n) m (omega (arith, higher)) in
            let inside = placed_count in
            absurd (omega (arith, more, inside, few))
        | inr low ↦ low
      ]

-- below a lower level there are no more, and below none more than all
pub behind_lower : (levels : List (List ℕ)) (k t n m : ℕ) → IsPlaced levels k t n → m ≤ n → count_in levels m ≤ k
behind_lower levels k t n m placed low =
    let more = count_more levels m n low in
    let behind = placed.behind in
    omega (arith, more, behind)

pub behind_none : (levels : List (List ℕ)) (k n : ℕ) → count_of levels ≤ k → count_in levels n ≤ k
behind_none levels k n all = let few = count_within levels n in omega (arith, few, all)

-- ---- Of all that was added

either_kept : (xs ys us vs : List ℕ) (r : ℕ) → (Contains xs r → Contains us r) → (Contains ys r → Contains vs r) → Contains (xs ++ ys) r → Contains (us ++ vs) r
either_kept xs ys us vs r first second has =
    elim (Contains-append_cases xs ys r has) [ inl left ↦ Contains-append_left us vs r (first left) | inr right ↦ Contains-append_right us vs r (second right) ]

own_added : (kind : Kind) (l : Level) (t : ℕ) → Contains (of_kind kind l) t → Contains (l.asserted ++ l.numbers) t
own_added Asserted l t has = Contains-append_left l.asserted l.numbers t has
own_added Number l t has = Contains-append_right l.asserted l.numbers t has

-- what is of a kind was added
pub kind_added : (kind : Kind) (levels : List Level) (t : ℕ) → Contains (asserted_numbers (by_level kind levels)) t → Contains (asserted_numbers (added_by_level levels)) t
kind_added kind [] t has = has
kind_added kind (l ∷ ls) t has =
    either_kept (of_kind kind l) (asserted_numbers (by_level kind ls)) (l.asserted ++ l.numbers) (asserted_numbers (added_by_level ls)) t (own_added kind l t) (kind_added kind ls t) has

-- where it stands it is a root, in one of the levels
pub placed_root : (kind : Kind) (levels : List Level) (k t n : ℕ) → IsPlaced (by_level kind levels) k t n → (n < length (added_by_level levels)) × Contains (live_at (added_by_level levels) n) t
placed_root kind levels k t n placed =
    let of = λ (l : Level). l.asserted ++ l.numbers in
    let below = placed_below (by_level kind levels) k t n placed in
    let first = length-map levels (of_kind kind) in
    let second = length-map levels of in
    let has = subst (λ ls. Contains (asserted_numbers ls) t) (take-map (of_kind kind) (suc n) levels) (has_found (live_at (by_level kind levels) n) k t placed.live) in
    (omega (arith, below, first, second), subst (λ ls. Contains (asserted_numbers ls) t) (sym (take-map of (suc n) levels)) (kind_added kind (take (suc n) levels) t has))

-- ---- Levels that go on

-- The terms of a kind go on, by level: by a level more, or by a term in the last.
pub record TermsGoOn (old new : List (List ℕ)) : Type 0 where
  pub more : AreMore old new
  pub counts : (n : ℕ) → n < length old → count_in new n ≡ count_in old n
  pub total : count_of old ≤ count_of new
  pub front : (k t : ℕ) → k < count_of old → slice_get (asserted_numbers new) k ≡ Some t → slice_get (asserted_numbers old) k ≡ Some t

-- The levels go on: by one more, or by a term in the last. Of all that was added a new one may stand before others.
pub record GoOn (old new : List Level) : Type 0 where
  pub asserted : TermsGoOn (asserted_by_level old) (asserted_by_level new)
  pub numbers : TermsGoOn (numbers_by_level old) (numbers_by_level new)
  pub longer : length old ≤ length new
  pub roots : (n r : ℕ) → Contains (live_at (added_by_level old) n) r → Contains (live_at (added_by_level new) n) r

-- those of the other kind are as they were
same_terms : (levels : List (List ℕ)) → TermsGoOn levels levels
same_terms levels = record { more = λ n k t at. at; counts = λ n below. refl; total = omega arith; front = λ k t inside at. at }

terms_with_level : LogsStay → (levels : List (List ℕ)) → TermsGoOn levels (levels ++ [] ∷ [])
terms_with_level stay levels =
    let all : asserted_numbers (levels ++ [] ∷ []) ≡ asserted_numbers levels =
    flat_map-append (λ (l : List ℕ). l) levels ([] ∷ []) ∙ append-nil (asserted_numbers levels) in
    record {
      more = stay.level levels;
      counts = λ n below. ap (λ ls. length (asserted_numbers ls)) (take-append-le n levels ([] ∷ []) (omega (arith, below)));
      total = let same = ap length all in omega (arith, same);
      front = λ k t inside at. ap (λ xs. slice_get xs k) (sym all) ∙ at;
    }

number_before : (levels : List (List ℕ)) (t n : ℕ) → n < length levels → asserted_numbers (take n (with_number levels t)) ≡ asserted_numbers (take n levels)
number_before [] t n below = absurd (omega arith)
number_before (l ∷ []) t zero below = refl
number_before (l ∷ []) t (suc n) below = absurd (omega arith)
number_before (l ∷ m ∷ ls) t zero below = refl
number_before (l ∷ m ∷ ls) t (suc n) below = ap (λ xs. l ++ xs) (number_before (m ∷ ls) t n (omega arith))

number_last : (levels : List (List ℕ)) (t : ℕ) → 0 < length levels → asserted_numbers (with_number levels t) ≡ asserted_numbers levels ++ t ∷ []
number_last [] t some = absurd (omega arith)
number_last (l ∷ []) t some = append-nil (l ++ t ∷ []) ∙ ap (λ xs. xs ++ t ∷ []) (sym (append-nil l))
number_last (l ∷ m ∷ ls) t some =
    ap (λ xs. l ++ xs) (number_last (m ∷ ls) t (omega arith)) ∙ sym (append_assoc l (asserted_numbers (m ∷ ls)) (t ∷ []))

terms_with_number : LogsStay → (levels : List (List ℕ)) (t : ℕ) → 0 < length levels → TermsGoOn levels (with_number levels t)
terms_with_number stay levels t some =
    let all : asserted_numbers (with_number levels t) ≡ asserted_numbers levels ++ t ∷ [] = number_last levels t some in
    record {
      more = stay.number levels t;
      counts = λ n below. ap length (number_before levels t n below);
      total =
          let same = ap length all in
          let long = length-append (asserted_numbers levels) (t ∷ []) in
          omega (arith, same, long);
      front = λ k u inside at. sym (in_first (asserted_numbers levels) (t ∷ []) k inside) ∙ ap (λ xs. slice_get xs k) (sym all) ∙ at;
    }

pub level_goes_on : LogsStay → (levels : List Level) → GoOn levels (levels ++ empty_level ∷ [])
level_goes_on stay levels =
    let one = empty_level ∷ [] in
    let added = added_by_level levels in
    record {
      asserted = subst (TermsGoOn (asserted_by_level levels)) (sym (map-append (λ (l : Level). l.asserted) levels one)) (terms_with_level stay (asserted_by_level levels));
      numbers = subst (TermsGoOn (numbers_by_level levels)) (sym (map-append (λ (l : Level). l.numbers) levels one)) (terms_with_level stay (numbers_by_level levels));
      longer = let long = length-append levels one in omega (arith, long);
      roots = λ n r has.
          let place = place_of (live_at added n) r has in
          subst (λ ls. Contains (live_at ls n) r) (sym (map-append (λ (l : Level). l.asserted ++ l.numbers) levels one))
          (has_found (live_at (added ++ [] ∷ []) n) place.0 r (stay.level added n place.0 r place.1));
    }

-- where the last level has a term more of a kind, and where it has none
kind_with : (ns : List Node) (of : Level → List ℕ) (t : ℕ) → ((l : Level) → of (with_term ns t l) ≡ of l ++ t ∷ []) → (levels : List Level) → map of (with_added ns levels t) ≡ with_number (map of levels) t
kind_with ns of t e [] = refl
kind_with ns of t e (l ∷ []) = ap (λ xs. xs ∷ []) (e l)
kind_with ns of t e (l ∷ next ∷ more) = ap (λ xs. of l ∷ xs) (kind_with ns of t e (next ∷ more))

kind_without : (ns : List Node) (of : Level → List ℕ) (t : ℕ) → ((l : Level) → of (with_term ns t l) ≡ of l) → (levels : List Level) → map of (with_added ns levels t) ≡ map of levels
kind_without ns of t e [] = refl
kind_without ns of t e (l ∷ []) = ap (λ xs. xs ∷ []) (e l)
kind_without ns of t e (l ∷ next ∷ more) = ap (λ xs. of l ∷ xs) (kind_without ns of t e (next ∷ more))

added_length : (ns : List Node) (levels : List Level) (t : ℕ) → length (with_added ns levels t) ≡ length levels
added_length ns [] t = refl
added_length ns (l ∷ []) t = refl
added_length ns (l ∷ next ∷ more) t = ap suc (added_length ns (next ∷ more) t)

-- the level with a term more, which is Boolean or isn't
abbrev pub level_with : Level → ℕ → Bool → Level
level_with l t b = if b then record l { asserted = l.asserted ++ t ∷ [] } else record l { numbers = l.numbers ++ t ∷ [] }

-- what was added is so still
own_kept : (ns : List Node) (l : Level) (t r : ℕ) → Contains (l.asserted ++ l.numbers) r → Contains ((with_term ns t l).asserted ++ (with_term ns t l).numbers) r
own_kept ns l t r has = by_test (is_boolean_term (term_in ns t))
  where
    by_test : (b : Bool) → Contains ((level_with l t b).asserted ++ (level_with l t b).numbers) r
    by_test true = either_kept l.asserted l.numbers (l.asserted ++ t ∷ []) l.numbers r (Contains-append_left l.asserted (t ∷ []) r) (λ c. c) has
    by_test false = either_kept l.asserted l.numbers l.asserted (l.numbers ++ t ∷ []) r (λ c. c) (Contains-append_left l.numbers (t ∷ []) r) has

roots_kept : (ns : List Node) (levels : List Level) (t m r : ℕ) → Contains (asserted_numbers (take m (added_by_level levels))) r
    → Contains (asserted_numbers (take m (added_by_level (with_added ns levels t)))) r
roots_kept ns [] t m r has = has
roots_kept ns (l ∷ []) t zero r has = has
roots_kept ns (l ∷ []) t (suc m) r has =
    let new = with_term ns t l in
    either_kept (l.asserted ++ l.numbers) (asserted_numbers (take m [])) (new.asserted ++ new.numbers) (asserted_numbers (take m [])) r (own_kept ns l t r) (λ c. c) has
roots_kept ns (l ∷ next ∷ more) t zero r has = has
roots_kept ns (l ∷ next ∷ more) t (suc m) r has =
    let own = l.asserted ++ l.numbers in
    either_kept own (asserted_numbers (take m (added_by_level (next ∷ more)))) own (asserted_numbers (take m (added_by_level (with_added ns (next ∷ more) t)))) r (λ c. c)
    (roots_kept ns (next ∷ more) t m r) has

pub added_goes_on : LogsStay → (ns : List Node) (levels : List Level) (t : ℕ) → 0 < length levels → GoOn levels (with_added ns levels t)
added_goes_on stay ns levels t some = by_test (is_boolean_term (term_in ns t)) refl
  where
    of_asserted : Level → List ℕ
    of_asserted l = l.asserted

    of_numbers : Level → List ℕ
    of_numbers l = l.numbers

    both : TermsGoOn (asserted_by_level levels) (asserted_by_level (with_added ns levels t)) → TermsGoOn (numbers_by_level levels) (numbers_by_level (with_added ns levels t)) → GoOn levels (with_added ns levels t)
    both asserted numbers =
        record {
          asserted = asserted;
          numbers = numbers;
          longer = let long = added_length ns levels t in omega (arith, long);
          roots = λ n r has. roots_kept ns levels t (suc n) r has;
        }

    by_test : (b : Bool) → is_boolean_term (term_in ns t) ≡ b → GoOn levels (with_added ns levels t)
    by_test true e = both
        (subst (TermsGoOn (asserted_by_level levels)) (sym (kind_with ns of_asserted t (λ l. ap (λ b. (level_with l t b).asserted) e) levels))
        (terms_with_number stay (asserted_by_level levels) t (let long = length-map levels of_asserted in omega (arith, long, some))))
        (subst (TermsGoOn (numbers_by_level levels)) (sym (kind_without ns of_numbers t (λ l. ap (λ b. (level_with l t b).numbers) e) levels))
        (same_terms (numbers_by_level levels)))
    by_test false e = both
        (subst (TermsGoOn (asserted_by_level levels)) (sym (kind_without ns of_asserted t (λ l. ap (λ b. (level_with l t b).asserted) e) levels))
        (same_terms (asserted_by_level levels)))
        (subst (TermsGoOn (numbers_by_level levels)) (sym (kind_with ns of_numbers t (λ l. ap (λ b. (level_with l t b).numbers) e) levels))
        (terms_with_number stay (numbers_by_level levels) t (let long = length-map levels of_numbers in omega (arith, long, some))))

-- ---- A level above all

pub all_roots : (levels : List (List ℕ)) (more : List ℕ) → asserted_numbers (levels ++ more ∷ []) ≡ asserted_numbers levels ++ more
all_roots levels more = flat_map-append (λ (l : List ℕ). l) levels (more ∷ []) ∙ ap (λ xs. asserted_numbers levels ++ xs) (append-nil more)

pub live_above : (levels : List (List ℕ)) (more : List ℕ) (n : ℕ) → length levels ≡ n → live_at (levels ++ more ∷ []) n ≡ asserted_numbers levels ++ more
live_above levels more n last =
    let long = length-append levels (more ∷ []) in
    ap asserted_numbers (take_all (suc n) (levels ++ more ∷ []) (omega (arith, long, last))) ∙ all_roots levels more

-- ---- Levels that are cut

module _ (levels : List (List ℕ)) (m : ℕ) where
  pub count_cut : (n : ℕ) → n ≤ suc m → count_in (take (suc m) levels) n ≡ count_in levels n
  count_cut n below = ap (λ ls. length (asserted_numbers ls)) (take-take n (suc m) levels below)

  pub live_cut : (n : ℕ) → n ≤ m → live_at (take (suc m) levels) n ≡ live_at levels n
  live_cut n below = ap asserted_numbers (take-take (suc n) (suc m) levels (omega (arith, below)))

pub longer_cut : {X : Type 0} (xs : List X) (m n : ℕ) → n ≤ m → n < length xs → n < length (take (suc m) xs)
longer_cut [] m n low below = absurd (omega arith)
longer_cut (x ∷ xs) m zero low below = omega arith
longer_cut (x ∷ xs) zero (suc n) low below = absurd (omega arith)
longer_cut (x ∷ xs) (suc m) (suc n) low below = let more = longer_cut xs m n (omega arith) (omega arith) in omega (arith, more)
