-- The state of the loop that puts terms into their order: its stack, what is done and the numbers so far.
use Rattle.std.proofs.Common.{◌≡◌, ◌==◌, inl, inr, ℕ, suc, ◌<◌, Bool, true, false, cond, List, [], ◌∷◌, ◌++◌, length, map, reverse, get_or, All, refl, sym, ap, subst, ◌∙◌, arith, true≢false, length-append}
use Rattle.std.specs.Prelude.{◌↔◌, Contains, flat_map, MatchOption, Option, Some, None, ⊤}
use Rattle.std.proofs.lemmas.Bool.Decides.{eqb_tells}
use Rattle.std.proofs.lemmas.List.{map-append, reverse-append, reverse-reverse}
use Rattle.std.proofs.lemmas.List.Elements.{Contains-append_left, Contains-append_right, Contains-append_cases, All-push, All-nil}
use Rattle.nz_spec.specs.terms.Term.{Term}
use Rattle.nz_spec.specs.terms.Table.{Node, term_in, terms_at, HasOneNumberEach}
use Rattle.nz_spec.specs.terms.Order.{post_order, post_orders, AreFirst}
use Rattle.nz_term.specs.declared.order.Step.{Step}
use Rattle.nz_term.specs.declared.order.Step.TheVariants.{Enter, Leave}
use Rattle.nz_term.specs.Steps.{entries, EntersArguments}
use Rattle.nz_term.proofs.Traversal.{parts, whole, alone, none, AreOnWay, effort, effort_entries, start, finish, skip, enter, leave}

-- ---- Stacks, whose last step is the next

map-reverse : {X Y : Type 0} (f : X → Y) (xs : List X) → map f (reverse xs) ≡ reverse (map f xs)
map-reverse f [] = refl
map-reverse f (x ∷ xs) =
    ap (map f) (reverse-append (x ∷ []) xs) ∙ map-append f (reverse xs) (x ∷ []) ∙ ap (λ l. l ++ f x ∷ []) (map-reverse f xs)
    ∙ sym (reverse-append (f x ∷ []) (map f xs))

-- entries are taken in the order of their terms
pub stacked : (steps : List Step) (ids : List ℕ) → reverse (steps ++ entries ids) ≡ map Enter ids ++ reverse steps
stacked steps ids =
    reverse-append steps (entries ids)
    ∙ ap (λ l. l ++ reverse steps) (sym (map-reverse Enter (reverse ids)) ∙ ap (map Enter) (reverse-reverse ids))

on_top : {X : Type 0} (xs : List X) (x : X) → reverse (xs ++ x ∷ []) ≡ x ∷ reverse xs
on_top xs x = reverse-append xs (x ∷ [])

-- each step is about a number below this one
abbrev pub AreBelow : ℕ → List Step → Type 0
AreBelow n [] = ⊤
AreBelow n (Enter i ∷ s) = (i < n) × AreBelow n s
AreBelow n (Leave i ∷ s) = (i < n) × AreBelow n s

below_entries : (n : ℕ) (is : List ℕ) (s : List Step) → All (λ i. i < n) is → AreBelow n s → AreBelow n (map Enter is ++ s)
below_entries n [] s h b = b
below_entries n (i ∷ is) s h b = (h 0 i (omega arith), below_entries n is s (λ k d l. h (suc k) d (omega arith)) b)

-- ---- The terms that are done

-- the numbers that pass the test are those of the terms that were seen
abbrev pub Tell : (ℕ → Term) → ℕ → (ℕ → Bool) → List Term → Type 0
Tell f n is_done seen = (i : ℕ) → i < n → (is_done i ≡ true) ↔ Contains seen (f i)

-- the test after one number more
abbrev pub IsWith : ℕ → (ℕ → Bool) → (ℕ → Bool) → Type 0
IsWith j old new = (i : ℕ) → new i ≡ cond (j == i) true (old i)

-- one more
marked : (f : ℕ → Term) (n : ℕ) (old new : ℕ → Bool) (seen : List Term) (j : ℕ) → ((i k : ℕ) → i < n → k < n → f i ≡ f k → i ≡ k)
    → IsWith j old new → j < n → Tell f n old seen → Tell f n new (f j ∷ seen)
marked f n old new seen j one updated below told i within =
    elim (eqb_tells j i) [
      | inl e ↦ (
        λ m. Contains-append_left (f j ∷ []) seen (f i) (0, omega arith, ap f e.1),
        λ k. updated i ∙ ap (λ b. cond b true (old i)) e.0,
      )
      | inr e ↦
          let same : new i ≡ old i = updated i ∙ ap (λ b. cond b true (old i)) e.0 in (
            λ m. Contains-append_right (f j ∷ []) seen (f i) ((told i within).0 (sym same ∙ m)),
            λ k. elim (Contains-append_cases (f j ∷ []) seen (f i) k) [
              | inl l ↦ absurd (e.1 (one j i below within (alone (f j) (f i) l)))
              | inr r ↦ same ∙ (told i within).1 r
            ],
          )
    ]

-- what holds where nothing was taken
pub none_taken : {X : Type 0} (r : Option X) (P : Type 0) (Q : X → Type 0) → ((x : X) → r ≡ Some x → ⊥) → MatchOption r P Q → P
none_taken None P Q isnt h = h
none_taken (Some x) P Q isnt h = absurd (isnt x refl)

-- ---- The state

pub record IsWalk (ns : List Node) (roots : List ℕ) (steps : List Step) (is_done : ℕ → Bool) (order : List ℕ) : Type 0 where
  pub way : AreOnWay (term_in ns) (flat_map post_order (map (term_in ns) roots)) (reverse (map (term_in ns) order)) (map (term_in ns) order) (reverse steps)
  pub told : Tell (term_in ns) (length ns) is_done (reverse (map (term_in ns) order))
  pub inside : AreBelow (length ns) (reverse steps)
  pub listed : All (λ i. i < length ns) order

module _ (ns : List Node) (roots : List ℕ) where
  pub start_walk : (steps : List Step) (is_done : ℕ → Bool) (order : List ℕ) → All (λ r. r < length ns) roots
      → steps ≡ [] ++ entries roots → ((i : ℕ) → is_done i ≡ false) → order ≡ [] → IsWalk ns roots steps is_done order
  start_walk steps is_done order within s blank_test o =
      let f = term_in ns in
      let stack : reverse steps ≡ map Enter roots ++ [] = ap reverse s ∙ stacked [] roots in
      let blank : map f order ≡ [] = ap (map f) o in
      record {
        way = subst (λ l. AreOnWay f (flat_map post_order (map f roots)) (reverse l) l (reverse steps)) (sym blank)
            (subst (AreOnWay f (flat_map post_order (map f roots)) [] []) (sym stack) (start f roots));
        told = λ i below. (
          λ e. absurd (true≢false (sym e ∙ blank_test i)),
          λ k. absurd (none (f i) (subst (λ l. Contains (reverse l) (f i)) blank k)),
        );
        inside = subst (AreBelow (length ns)) (sym stack) (below_entries (length ns) roots [] within tt);
        listed = subst (All (λ i. i < length ns)) (sym o) (All-nil (λ i. i < length ns));
      }

  pub finish_walk : (steps : List Step) (is_done : ℕ → Bool) (order : List ℕ) → steps ≡ [] → IsWalk ns roots steps is_done order
      → AreFirst [] (flat_map post_order (map (term_in ns) roots)) (map (term_in ns) order)
  finish_walk steps is_done order e w =
      let f = term_in ns in
      finish f (flat_map post_order (map f roots)) (reverse (map f order)) (map f order)
      (subst (AreOnWay f (flat_map post_order (map f roots)) (reverse (map f order)) (map f order)) (ap reverse e) w.way)

  -- ---- Steps that were taken from the stack

  pub enters_within : (steps : List Step) (i : ℕ) (is_done : ℕ → Bool) (order : List ℕ) → IsWalk ns roots (steps ++ Enter i ∷ []) is_done order → i < length ns
  enters_within steps i is_done order w = (subst (AreBelow (length ns)) (on_top steps (Enter i)) w.inside).0

  pub leaves_within : (steps : List Step) (i : ℕ) (is_done : ℕ → Bool) (order : List ℕ) → IsWalk ns roots (steps ++ Leave i ∷ []) is_done order → i < length ns
  leaves_within steps i is_done order w = (subst (AreBelow (length ns)) (on_top steps (Leave i)) w.inside).0

  pub skip_walk : (steps : List Step) (i : ℕ) (is_done : ℕ → Bool) (order : List ℕ) → is_done i ≡ true
      → IsWalk ns roots (steps ++ Enter i ∷ []) is_done order → IsWalk ns roots steps is_done order
  skip_walk steps i is_done order e w =
      let f = term_in ns in
      let all = flat_map post_order (map f roots) in
      let done = map f order in
      record {
        way = skip f all (reverse done) done i (reverse steps) ((w.told i (enters_within steps i is_done order w)).0 e)
            (subst (AreOnWay f all (reverse done) done) (on_top steps (Enter i)) w.way);
        told = w.told;
        inside = (subst (AreBelow (length ns)) (on_top steps (Enter i)) w.inside).1;
        listed = w.listed;
      }

  -- the stack where a term is entered
  entered_stack : (steps after : List Step) (i : ℕ) (a : EntersArguments ns i (steps ++ Leave i ∷ []) after) → reverse after ≡ map Enter a.kids ++ Leave i ∷ reverse steps
  entered_stack steps after i a =
      ap reverse a.steps ∙ stacked (steps ++ Leave i ∷ []) a.kids ∙ ap (λ l. map Enter a.kids ++ l) (on_top steps (Leave i))

  pub enter_walk : (steps after : List Step) (i : ℕ) (is_done : ℕ → Bool) (order : List ℕ) → is_done i ≡ false
      → EntersArguments ns i (steps ++ Leave i ∷ []) after → IsWalk ns roots (steps ++ Enter i ∷ []) is_done order → IsWalk ns roots after is_done order
  enter_walk steps after i is_done order e a w =
      let f = term_in ns in
      let all = flat_map post_order (map f roots) in
      let done = map f order in
      let below = enters_within steps i is_done order w in
      let stack = entered_stack steps after i a in
      let new : Contains (reverse done) (f i) → ⊥ = λ k. true≢false (sym ((w.told i below).1 k) ∙ e) in
      let there = subst (AreBelow (length ns)) (on_top steps (Enter i)) w.inside in
      record {
        way = subst (AreOnWay f all (reverse done) done) (sym stack)
            (enter f all (reverse done) done i (reverse steps) a.head a.kids new a.term
            (subst (AreOnWay f all (reverse done) done) (on_top steps (Enter i)) w.way));
        told = w.told;
        inside = subst (AreBelow (length ns)) (sym stack)
            (below_entries (length ns) a.kids (Leave i ∷ reverse steps) (λ k d l. let h : get_or a.kids k d < i = a.below k d l in omega arith) there);
        listed = w.listed;
      }

  pub leave_walk : HasOneNumberEach ns → (steps : List Step) (i : ℕ) (is_done next : ℕ → Bool) (order : List ℕ) → IsWith i is_done next
      → IsWalk ns roots (steps ++ Leave i ∷ []) is_done order → IsWalk ns roots steps next (order ++ i ∷ [])
  leave_walk one steps i is_done next order updated w =
      let f = term_in ns in
      let all = flat_map post_order (map f roots) in
      let done = map f order in
      let below = leaves_within steps i is_done order w in
      let more : map f (order ++ i ∷ []) ≡ done ++ f i ∷ [] = map-append f order (i ∷ []) in
      let turned : reverse (map f (order ++ i ∷ [])) ≡ f i ∷ reverse done = ap reverse more ∙ on_top done (f i) in
      let left : AreOnWay f all (f i ∷ reverse done) (done ++ f i ∷ []) (reverse steps) =
      leave f all (reverse done) done i (reverse steps) (subst (AreOnWay f all (reverse done) done) (on_top steps (Leave i)) w.way) in
      record {
        way = subst (λ l. AreOnWay f all l (map f (order ++ i ∷ [])) (reverse steps)) (sym turned)
            (subst (λ l. AreOnWay f all (f i ∷ reverse done) l (reverse steps)) (sym more) left);
        told = subst (Tell f (length ns) next) (sym turned) (marked f (length ns) is_done next (reverse done) i one updated below w.told);
        inside = (subst (AreBelow (length ns)) (on_top steps (Leave i)) w.inside).1;
        listed = All-push (λ k. k < length ns) order i w.listed below;
      }

  -- ---- Less is left to do at each step

  pub skip_less : (steps : List Step) (i : ℕ) → effort (term_in ns) (reverse steps) < effort (term_in ns) (reverse (steps ++ Enter i ∷ []))
  skip_less steps i =
      let t = term_in ns i in
      omega (arith, ap (effort (term_in ns)) (on_top steps (Enter i)), ap length (whole t), length-append (parts t) (t ∷ []))

  pub enter_less : (steps after : List Step) (i : ℕ) → EntersArguments ns i (steps ++ Leave i ∷ []) after
      → effort (term_in ns) (reverse after) < effort (term_in ns) (reverse (steps ++ Enter i ∷ []))
  enter_less steps after i a =
      let f = term_in ns in
      let inner = post_orders (terms_at f a.kids) in
      let both : post_order (f i) ≡ inner ++ f i ∷ [] = whole (f i) ∙ ap (λ (t : Term). parts t ++ f i ∷ []) a.term in
      omega (
        arith,
        ap (effort f) (on_top steps (Enter i)),
        ap (effort f) (entered_stack steps after i a),
        effort_entries f a.kids (Leave i ∷ reverse steps),
        ap length both,
        length-append inner (f i ∷ []),
      )
