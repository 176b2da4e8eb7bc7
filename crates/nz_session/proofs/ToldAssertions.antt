-- What the engine was told, where the live assertions change.
use Rattle.std.proofs.Common.{◌≡◌, inl, inr, ℕ, zero, suc, ◌+◌, ◌<◌, ◌≤◌, ◌-◌, List, [], ◌∷◌, ◌++◌, length, map, take, get_or, Some, Result, Ok, Err, OnOk, OnErr, refl, sym, ap, ◌∙◌, subst, arith, length-append, length-take, append_assoc, add-one}
use Rattle.std.proofs.lemmas.List.{map-append, length-map, take-map, take-take, take-append-le, take_all}
use Rattle.std.specs.Prelude.{All, slice_get}
use Rattle.std.proofs.Math.Seq.{take-suc}
use Rattle.std.proofs.Math.ListN.{get_or-map}
use Rattle.nz_search.specs.Levels as engine
use Rattle.nz_search.specs.Levels.{empty_level}
use Rattle.nz_sort.specs.declared.items.Accepted.{Accepted}
use Rattle.nz_sort.specs.declared.levels.Level.{Level}
use Rattle.nz_sort.specs.Items.{table_numbers}
use Rattle.nz_sort.specs.Layers.{Layer, layer_of}
use Rattle.nz_sort.specs.Live.{Standing, layers_of, asserted_by, GoesOn, IsCutBack}
use Rattle.nz_session.specs.declared.told.ToldExtent.{ToldExtent}
use Rattle.nz_session.specs.Told.{IsToldFirst, IsTold, IsBegun, only_asserted}

-- as many levels were told as the engine has
pub told_count : (levels : List engine.Level) (t : ToldExtent) (asserted : List (List ℕ)) → IsTold levels t asserted → t.levels ≡ length levels
told_count levels t asserted (inl h) = h.count ∙ ap length (sym h.none)
told_count levels t asserted (inr h) =
    let told = h.before ++ take t.last h.newest ∷ [] in
    h.count ∙ sym (ap length h.has ∙ length-map told only_asserted ∙ length-append h.before (take t.last h.newest ∷ []))

-- no more levels were told than there are
pub told_few : (levels : List engine.Level) (t : ToldExtent) (asserted : List (List ℕ)) → IsTold levels t asserted → t.levels ≤ length asserted
told_few levels t asserted (inl h) = let none = h.count in omega (arith, none)
told_few levels t asserted (inr h) =
    let long = ap length h.are ∙ length-append h.before (h.newest ∷ h.later) in
    let count = h.count in
    omega (arith, long, count)

-- ---- More is asserted

goes_on_split : (before : List (List ℕ)) (newest : List ℕ) (later new : List (List ℕ)) → GoesOn (before ++ newest ∷ later) new
    → (m : List ℕ) × (ms : List (List ℕ)) × (new ≡ before ++ m ∷ ms) × (take (length newest) m ≡ newest)
goes_on_split [] newest later [] h = absurd h
goes_on_split [] newest [] (m ∷ ms) h = (m, ms, refl, h)
goes_on_split [] newest (k ∷ ks) (m ∷ ms) h =
    let long : length newest ≤ length newest = omega arith in
    (m, ms, refl, ap (take (length newest)) h.0 ∙ take_all (length newest) newest long)
goes_on_split (x ∷ before) newest later [] h = absurd h
goes_on_split (x ∷ []) newest later (y ∷ new) h =
    let split = goes_on_split [] newest later new h.1 in
    (split.0, split.1, ap (λ l. l ∷ new) h.0 ∙ ap (λ l. x ∷ l) split.2, split.3)
goes_on_split (x ∷ z ∷ before) newest later (y ∷ new) h =
    let split = goes_on_split (z ∷ before) newest later new h.1 in
    (split.0, split.1, ap (λ l. l ∷ new) h.0 ∙ ap (λ l. x ∷ l) split.2, split.3)

first_goes_on : (levels : List engine.Level) (t : ToldExtent) (old new : List (List ℕ)) → GoesOn old new → IsToldFirst levels t old → IsToldFirst levels t new
first_goes_on levels t old new on h =
    let split = goes_on_split h.before h.newest h.later new (subst (λ ls. GoesOn ls new) h.are on) in
    let m = split.0 in
    let long : length h.newest ≤ length m = omega (arith, ap length split.3, length-take (length h.newest) m) in
    record {
      before = h.before;
      newest = m;
      later = split.1;
      are = split.2;
      has = h.has ∙ ap (λ l. map only_asserted (h.before ++ l ∷ [])) (ap (take t.last) (sym split.3) ∙ take-take t.last (length h.newest) m h.within);
      within = omega (arith, h.within, long);
      count = h.count;
    }

pub told_goes_on : (levels : List engine.Level) (t : ToldExtent) (old new : List (List ℕ)) → GoesOn old new → IsTold levels t old → IsTold levels t new
told_goes_on levels t old new on (inl h) = inl h
told_goes_on levels t old new on (inr h) = inr (first_goes_on levels t old new on h)

-- ---- Levels are taken off

take_past : (before : List (List ℕ)) (newest : List ℕ) (later : List (List ℕ)) (n : ℕ) → length before < n → (ms : List (List ℕ)) × (take n (before ++ newest ∷ later) ≡ before ++ newest ∷ ms)
take_past [] newest later zero h = absurd (omega (arith, h))
take_past [] newest later (suc n) h = (take n later, refl)
take_past (x ∷ before) newest later zero h = absurd (omega (arith, h))
take_past (x ∷ before) newest later (suc n) h =
    let rest = take_past before newest later n (omega (arith, h)) in
    (rest.0, ap (λ l. x ∷ l) rest.1)

-- of levels that the engine wasn't told
pub told_cut : (levels : List engine.Level) (t : ToldExtent) (old new : List (List ℕ)) → IsCutBack old new → t.levels ≤ length new → IsTold levels t old → IsTold levels t new
told_cut levels t old new cut few (inl h) = inl h
told_cut levels t old new cut few (inr h) =
    let rest = take_past h.before h.newest h.later (length new) (let count = h.count in omega (arith, count, few)) in
    inr (record {
      before = h.before;
      newest = h.newest;
      later = rest.0;
      are = sym cut.front ∙ ap (take (length new)) h.are ∙ rest.1;
      has = h.has;
      within = h.within;
      count = h.count;
    })

-- the engine's levels that are left are all that is asserted
pub told_left : (levels : List engine.Level) (t : ToldExtent) (old new : List (List ℕ)) → IsCutBack old new → length new < t.levels → IsTold levels t old → take (length new) levels ≡ map only_asserted new
told_left levels t old new cut many (inl h) = absurd (let count = h.count in omega (arith, count, many))
told_left levels t old new cut many (inr h) =
    let short : length new ≤ length h.before = (let count = h.count in omega (arith, count, many)) in
    let told = h.before ++ take t.last h.newest ∷ [] in
    let front : take (length new) told ≡ new =
    take-append-le (length new) h.before (take t.last h.newest ∷ []) short
    ∙ sym (take-append-le (length new) h.before (h.newest ∷ h.later) short)
    ∙ ap (take (length new)) (sym h.are)
    ∙ cut.front in
    ap (take (length new)) h.has ∙ take-map only_asserted (length new) told ∙ ap (map only_asserted) front

-- so it was told all of them
pub told_whole : (levels : List engine.Level) (before : List (List ℕ)) (newest : List ℕ) (t : ToldExtent) → levels ≡ map only_asserted (before ++ newest ∷ []) → t.levels ≡ length before + 1 → t.last ≡ length newest
    → IsTold levels t (before ++ newest ∷ [])
told_whole levels before newest t e f g =
    let long : length newest ≤ length newest = omega arith in
    inr (record {
      before = before;
      newest = newest;
      later = [];
      are = refl;
      has = e ∙ ap (λ l. map only_asserted (before ++ l ∷ [])) (sym (ap (λ n. take n newest) g ∙ take_all (length newest) newest long));
      within = omega (arith, g);
      count = f;
    })

-- ---- All that is asserted

-- how many levels are below the newest
pub below_count : (l : Standing) (below : List Level) → map layer_of below ≡ l.below → length below ≡ length l.below
below_count l below e = sym (length-map below layer_of) ∙ ap length e

-- how many levels are live
asserted_long : (l : Standing) → length (asserted_by l) ≡ length l.below + 1
asserted_long l =
    let more : length (layers_of l) ≡ length l.below + 1 = length-append l.below (l.top ∷ []) in
    length-map (layers_of l) (λ (k : Layer). table_numbers k.assertions) ∙ more

pub asserted_count : (l : Standing) (below : List Level) → map layer_of below ≡ l.below → length below + 1 ≡ length (asserted_by l)
asserted_count l below e = ap (λ n. n + 1) (below_count l below e) ∙ sym (asserted_long l)

-- the engine's levels are all that is asserted
pub told_all : (levels : List engine.Level) (l : Standing) (t : ToldExtent) → levels ≡ map only_asserted (asserted_by l) → t.levels ≡ length l.below + 1 → t.last ≡ length l.top.assertions → IsTold levels t (asserted_by l)
told_all levels l t e f g =
    let asserted : Layer → List ℕ = λ k. table_numbers k.assertions in
    let parts : asserted_by l ≡ map asserted l.below ++ asserted l.top ∷ [] = map-append asserted l.below (l.top ∷ []) in
    subst (IsTold levels t) (sym parts)
    (told_whole levels (map asserted l.below) (asserted l.top) t (e ∙ ap (map only_asserted) parts) (f ∙ ap (λ n. n + 1) (sym (length-map l.below asserted))) (g ∙ sym (length-map l.top.assertions (λ (a : Accepted). a.term))))

-- after as many levels were taken off the engine as are live no more
pub told_popped : (levels after : List engine.Level) (t u : ToldExtent) (old : List (List ℕ)) (l : Standing) (count : ℕ) → IsCutBack old (asserted_by l) → IsTold levels t old → count ≡ length (asserted_by l)
    → count < t.levels → after ≡ take (length levels - (t.levels - count)) levels → u.levels ≡ count → u.last ≡ length l.top.assertions → IsTold after u (asserted_by l)
told_popped levels after t u old l count cut h live less e f g =
    let many = told_count levels t old h in
    let left : length levels - (t.levels - count) ≡ length (asserted_by l) = omega (arith, many, less, live) in
    let more : length (asserted_by l) < t.levels = omega (arith, less, live) in
    told_all after l u (e ∙ ap (λ k. take k levels) left ∙ told_left levels t old (asserted_by l) cut more h) (f ∙ live ∙ asserted_long l) g

-- ---- One assertion more, or one level

-- the terms of one item more
pub numbers_more : (items : List Accepted) (n : ℕ) (d : Accepted) → n < length items → take n (table_numbers items) ++ (get_or items n d).term ∷ [] ≡ take (n + 1) (table_numbers items)
numbers_more items n d below =
    let same : length (table_numbers items) ≡ length items = length-map items (λ (a : Accepted). a.term) in
    let inside : n < length (table_numbers items) = omega (arith, same, below) in
    sym (ap (λ k. take k (table_numbers items)) (add-one n) ∙ take-suc (table_numbers items) n d.term inside
    ∙ ap (λ i. take n (table_numbers items) ++ i ∷ []) (get_or-map (λ (a : Accepted). a.term) items n d))

-- what holds of the terms of all items holds of that of one
pub item_has : (P : ℕ → Type 0) (items : List Accepted) (n : ℕ) (d : Accepted) → All P (table_numbers items) → n < length items → P (get_or items n d).term
item_has P items n d all below =
    let same : length (table_numbers items) ≡ length items = length-map items (λ (a : Accepted). a.term) in
    subst P (get_or-map (λ (a : Accepted). a.term) items n d) (all n d.term (omega (arith, same, below)))

-- ---- The first level

-- where the engine had none
told_first : (levels after : List engine.Level) (t u : ToldExtent) (asserted : List (List ℕ)) → 0 < length asserted → IsTold levels t asserted → t.levels ≡ 0 → IsBegun levels t after u → IsTold after u asserted
told_first levels after t u [] some h none b = absurd (omega (arith, some))
told_first levels after t u (l ∷ ls) some (inr h) none b = absurd (let count = h.count in omega (arith, count, none))
told_first levels after t u (l ∷ ls) some (inl h) none b =
    let first : 0 ≤ length l = omega arith in
    inr (record {
      before = [];
      newest = l;
      later = ls;
      are = refl;
      has = b.has ∙ ap (λ ms. ms ++ empty_level ∷ []) h.none ∙ ap (λ n. only_asserted (take n l) ∷ []) (sym b.last);
      within = subst (λ n. n ≤ length l) (sym b.last) first;
      count = b.count ∙ ap (λ n. n + 1) none;
    })

-- it is begun, or there is no memory for it
pub told_begin : {A B : Type 0} (r : Result A B) (levels after : List engine.Level) (t u : ToldExtent) (asserted : List (List ℕ)) → 0 < length asserted → IsTold levels t asserted → t.levels ≡ 0
    → OnOk r (IsBegun levels t after u) → OnErr r ((after ≡ levels) × (u ≡ t)) → IsTold after u asserted
told_begin (Ok a) levels after t u asserted some h none begun same = told_first levels after t u asserted some h none begun
told_begin (Err e) levels after t u asserted some h none begun same = subst (λ ls. IsTold ls u asserted) (sym same.0) (subst (λ v. IsTold levels v asserted) (sym same.1) h)

at_place : (before : List (List ℕ)) (newest : List ℕ) (later : List (List ℕ)) → slice_get (before ++ newest ∷ later) (length before) ≡ Some newest
at_place [] newest later = refl
at_place (x ∷ before) newest later = at_place before newest later

-- the last level that was told is the one at this place
pub told_at : (levels : List engine.Level) (t : ToldExtent) (asserted : List (List ℕ)) (place : ℕ) (level : List ℕ) → t.levels ≡ place + 1 → slice_get asserted place ≡ Some level → IsTold levels t asserted
    → (h : IsToldFirst levels t asserted) × (h.newest ≡ level) × (place ≡ length h.before)
told_at levels t asserted place level n at (inl h) = absurd (let count = h.count in omega (arith, count, n))
told_at levels t asserted place level n at (inr h) =
    let here : place ≡ length h.before = (let count = h.count in omega (arith, count, n)) in
    let same : Some h.newest ≡ Some level = sym (at_place h.before h.newest h.later) ∙ ap (λ ls. slice_get ls (length h.before)) (sym h.are) ∙ ap (slice_get asserted) (sym here) ∙ at in
    (h, cc, here)

-- more of the last level was told
pub told_more : (levels after : List engine.Level) (t u : ToldExtent) (asserted : List (List ℕ)) (h : IsToldFirst levels t asserted) → after ≡ map only_asserted (h.before ++ take u.last h.newest ∷ []) → u.last ≤ length h.newest
    → u.levels ≡ t.levels → IsTold after u asserted
told_more levels after t u asserted h has within count =
    inr (record { before = h.before; newest = h.newest; later = h.later; are = h.are; has = has; within = within; count = count ∙ h.count })

next_begun : (after : List engine.Level) (v : ToldExtent) (asserted before : List (List ℕ)) (newest : List ℕ) (later : List (List ℕ)) → asserted ≡ before ++ newest ∷ later → length before + 1 < length asserted
    → after ≡ map only_asserted (before ++ newest ∷ []) ++ empty_level ∷ [] → v.levels ≡ (length before + 1) + 1 → v.last ≡ 0 → IsTold after v asserted
next_begun after v asserted before newest [] are more has count last =
    let long : length asserted ≡ length before + 1 = ap length are ∙ length-append before (newest ∷ []) in
    absurd (omega (arith, long, more))
next_begun after v asserted before newest (k ∷ ks) are more has count last =
    let first : 0 ≤ length k = omega arith in
    let long : length (before ++ newest ∷ []) ≡ length before + 1 = length-append before (newest ∷ []) in
    inr (record {
      before = before ++ newest ∷ [];
      newest = k;
      later = ks;
      are = are ∙ sym (append_assoc before (newest ∷ []) (k ∷ ks));
      has = has ∙ ap (λ n. map only_asserted (before ++ newest ∷ []) ++ only_asserted (take n k) ∷ []) (sym last)
          ∙ sym (map-append only_asserted (before ++ newest ∷ []) (take v.last k ∷ []));
      within = subst (λ n. n ≤ length k) (sym last) first;
      count = omega (arith, count, long);
    })

-- the last level was told whole, and the next one begun
pub told_begun : (levels mid after : List engine.Level) (t u v : ToldExtent) (asserted : List (List ℕ)) (h : IsToldFirst levels t asserted) → t.levels < length asserted → mid ≡ map only_asserted (h.before ++ take u.last h.newest ∷ [])
    → u.last ≡ length h.newest → u.levels ≡ t.levels → IsBegun mid u after v → IsTold after v asserted
told_begun levels mid after t u v asserted h more whole last same b =
    let long : length h.newest ≤ length h.newest = omega arith in
    let all : mid ≡ map only_asserted (h.before ++ h.newest ∷ []) =
    whole ∙ ap (λ n. map only_asserted (h.before ++ take n h.newest ∷ [])) last ∙ ap (λ l. map only_asserted (h.before ++ l ∷ [])) (take_all (length h.newest) h.newest long) in
    let levels_told = h.count in
    let count = b.count in
    next_begun after v asserted h.before h.newest h.later h.are (omega (arith, levels_told, more)) (b.has ∙ ap (λ ms. ms ++ empty_level ∷ []) all) (omega (arith, count, same, levels_told)) b.last

-- ---- The level at a place

level_in : (f : Layer → List ℕ) (ks : List Level) (more : List Layer) (i : ℕ) (x : Level) → i < length ks → x ≡ get_or ks i x → slice_get (map f (map layer_of ks ++ more)) i ≡ Some (f (layer_of x))
level_in f [] more i x below is = absurd (omega (arith, below))
level_in f (k ∷ ks) more zero x below is = ap (λ (y : Level). Some (f (layer_of y))) (sym is)
level_in f (k ∷ ks) more (suc i) x below is = level_in f ks more i x (omega (arith, below)) is

pub level_at : (l : Standing) (below : List Level) (place : ℕ) (x : Level) → map layer_of below ≡ l.below → place < length below → x ≡ get_or below place x
    → slice_get (asserted_by l) place ≡ Some (table_numbers (layer_of x).assertions)
level_at l below place x e inside is =
    let asserted : Layer → List ℕ = λ k. table_numbers k.assertions in
    ap (λ ls. slice_get (map asserted (ls ++ l.top ∷ [])) place) (sym e) ∙ level_in asserted below (l.top ∷ []) place x inside is

pub top_at : (l : Standing) → slice_get (asserted_by l) (length l.below) ≡ Some (table_numbers l.top.assertions)
top_at l =
    let asserted : Layer → List ℕ = λ k. table_numbers k.assertions in
    ap (λ ls. slice_get ls (length l.below)) (map-append asserted l.below (l.top ∷ []))
    ∙ ap (slice_get (map asserted l.below ++ asserted l.top ∷ [])) (sym (length-map l.below asserted))
    ∙ at_place (map asserted l.below) (asserted l.top) []

module _ (levels : List engine.Level) (t : ToldExtent) (asserted : List (List ℕ)) (place : ℕ) (items : List Accepted) (n : t.levels ≡ place + 1) (at : slice_get asserted place ≡ Some (table_numbers items))
    (told : IsTold levels t asserted) where
  -- what the engine has of it is a front of it
  pub tells_from : (before : List (List ℕ)) × (levels ≡ map only_asserted (before ++ take t.last (table_numbers items) ∷ [])) × (t.last ≤ length items)
  tells_from =
      let h = told_at levels t asserted place (table_numbers items) n at told in
      let long : length h.0.newest ≡ length items = ap length h.1 ∙ length-map items (λ (a : Accepted). a.term) in
      let within = h.0.within in
      (h.0.before, h.0.has ∙ ap (λ l. map only_asserted (h.0.before ++ take t.last l ∷ [])) h.1, omega (arith, within, long))

  -- and has more of it
  pub tells_more : (after : List engine.Level) (u : ToldExtent)
      → ((before : List (List ℕ)) → levels ≡ map only_asserted (before ++ take t.last (table_numbers items) ∷ []) → after ≡ map only_asserted (before ++ take u.last (table_numbers items) ∷ []))
      → u.last ≤ length items → u.levels ≡ t.levels → IsTold after u asserted
  tells_more after u more within count =
      let h = told_at levels t asserted place (table_numbers items) n at told in
      let long : length h.0.newest ≡ length items = ap length h.1 ∙ length-map items (λ (a : Accepted). a.term) in
      let grown = more h.0.before (h.0.has ∙ ap (λ l. map only_asserted (h.0.before ++ take t.last l ∷ [])) h.1) in
      told_more levels after t u asserted h.0 (grown ∙ ap (λ l. map only_asserted (h.0.before ++ take u.last l ∷ [])) (sym h.1)) (omega (arith, within, long)) count

  -- or all of it, and the next one is begun
  pub tells_next : (mid after : List engine.Level) (u v : ToldExtent)
      → ((before : List (List ℕ)) → levels ≡ map only_asserted (before ++ take t.last (table_numbers items) ∷ []) → mid ≡ map only_asserted (before ++ take u.last (table_numbers items) ∷ []))
      → u.last ≡ length items → u.levels ≡ t.levels → place + 1 < length asserted → IsBegun mid u after v → IsTold after v asserted
  tells_next mid after u v more whole same far begun =
      let h = told_at levels t asserted place (table_numbers items) n at told in
      let long : length h.0.newest ≡ length items = ap length h.1 ∙ length-map items (λ (a : Accepted). a.term) in
      let grown = more h.0.before (h.0.has ∙ ap (λ l. map only_asserted (h.0.before ++ take t.last l ∷ [])) h.1) in
      told_begun levels mid after t u v asserted h.0 (omega (arith, n, far)) (grown ∙ ap (λ l. map only_asserted (h.0.before ++ take u.last l ∷ [])) (sym h.1)) (whole ∙ sym long) same begun
