-- The literals of a list that are marked, each at its last place, as one more is marked or one less.
use Rattle.std.proofs.Common.{◌≡◌, Bool, true, false, not, ◌&&◌, ◌||◌, List, [], ◌∷◌, ◌++◌, if◌then◌else◌, refl, sym, ap, ◌∙◌, true≢false, append_assoc}
use Rattle.std.specs.Prelude.{reverse}
use Rattle.std.specs.List.{list_any}
use Rattle.std.proofs.lemmas.List.{reverse-append}
use Rattle.std.proofs.lemmas.List.Folds.{list_any-append}
use Rattle.nz_lists.proofs.Tests.{same_tests}
use Rattle.nz_spec.specs.clauses.Literal.{without}
use Rattle.nz_log.specs.declared.lits.Lit.{Lit}
use Rattle.nz_log.specs.Lits.{are_same_lit}
use Rattle.nz_log.specs.Marked.{AreListed, last_marked}
use Rattle.nz_log.proofs.LiteralSets.{lit_same, same_lit}

same_turned : (l m : Lit) → are_same_lit l m ≡ are_same_lit m l
same_turned l m =
    same_tests (are_same_lit l m) (are_same_lit m l)
    (λ e. ap (are_same_lit m) (same_lit l m e) ∙ lit_same m)
    (λ e. ap (are_same_lit l) (same_lit m l e) ∙ lit_same l)

-- ---- Which they are

first_any : (s b a c : Bool) (l y : Lit) (ys : List Lit) → are_same_lit l y ≡ s → (s ≡ true → c ≡ (b && not a)) → list_any (are_same_lit l) ys ≡ (b && a)
    → list_any (are_same_lit l) (if c then y ∷ ys else ys) ≡ (b && (s || a))
first_any true true a true l y ys e f h = ap (λ (d : Bool). d || list_any (are_same_lit l) ys) e
first_any true false a true l y ys e f h = absurd (true≢false (f refl))
first_any true true true false l y ys e f h = h
first_any true true false false l y ys e f h = absurd (true≢false (sym (f refl)))
first_any true false a false l y ys e f h = h
first_any false b a true l y ys e f h = ap (λ (d : Bool). d || list_any (are_same_lit l) ys) e ∙ h
first_any false b a false l y ys e f h = h

any_last : (has : Lit → Bool) (l : Lit) (xs : List Lit) → list_any (are_same_lit l) (last_marked has xs) ≡ (has l && list_any (are_same_lit l) xs)
any_last has l [] = nothing (has l)
  where
    nothing : (b : Bool) → false ≡ (b && false)
    nothing true = refl
    nothing false = refl
any_last has l (y ∷ ys) =
    first_any (are_same_lit l y) (has l) (list_any (are_same_lit l) ys) (has y && not (list_any (are_same_lit y) ys)) l y (last_marked has ys) refl
    (λ e. ap (λ (z : Lit). has z && not (list_any (are_same_lit z) ys)) (sym (same_lit l y e)))
    (any_last has l ys)

both_there : (b a : Bool) → (b ≡ true → a ≡ true) → b ≡ (b && a)
both_there true a f = sym (f refl)
both_there false a f = refl

-- what is marked in a list that has all that is
pub marks_tell : (has : Lit → Bool) (xs : List Lit) → AreListed has xs → (l : Lit) → has l ≡ list_any (are_same_lit l) (last_marked has xs)
marks_tell has xs are l = both_there (has l) (list_any (are_same_lit l) xs) (are l) ∙ sym (any_last has l xs)

not_true : (b : Bool) → (b ≡ true → ⊥) → b ≡ false
not_true true f = absurd (f refl)
not_true false f = refl

-- ---- One more at the end

kept_end : (b : Bool) (y x : Lit) (us vs : List Lit) → us ≡ vs ++ x ∷ [] → (if b then y ∷ us else us) ≡ (if b then y ∷ vs else vs) ++ x ∷ []
kept_end true y x us vs e = ap (λ (ws : List Lit). y ∷ ws) e
kept_end false y x us vs e = e

last_at : (s a b : Bool) → (s ≡ true → b ≡ false) → ((s || b) && not (a || (s || false))) ≡ (b && not a)
last_at true a true f = absurd (true≢false (f refl))
last_at true true false f = refl
last_at true false false f = refl
last_at false true true f = refl
last_at false true false f = refl
last_at false false true f = refl
last_at false false false f = refl

unmarked_at : (s a b : Bool) → (s ≡ true → b ≡ false) → (b && not (a || (s || false))) ≡ (b && not a)
unmarked_at true a true f = absurd (true≢false (f refl))
unmarked_at true a false f = refl
unmarked_at false true true f = refl
unmarked_at false true false f = refl
unmarked_at false false true f = refl
unmarked_at false false false f = refl

-- which is marked now
pub last_more : (has now : Lit → Bool) (x : Lit) → has x ≡ false → ((l : Lit) → now l ≡ (are_same_lit l x || has l)) → (xs : List Lit)
    → last_marked now (xs ++ x ∷ []) ≡ last_marked has xs ++ x ∷ []
last_more has now x none more [] = ap (λ (b : Bool). if b && true then x ∷ [] else []) (more x ∙ ap (λ (b : Bool). b || has x) (lit_same x))
last_more has now x none more (y ∷ ys) =
    ap (λ (b : Bool). if b then y ∷ last_marked now (ys ++ x ∷ []) else last_marked now (ys ++ x ∷ []))
    (ap (λ (b : Bool). now y && not b) (list_any-append (are_same_lit y) ys (x ∷ []))
    ∙ ap (λ (b : Bool). b && not (list_any (are_same_lit y) ys || (are_same_lit y x || false))) (more y)
    ∙ last_at (are_same_lit y x) (list_any (are_same_lit y) ys) (has y) (λ e. ap has (same_lit y x e) ∙ none))
    ∙ kept_end (has y && not (list_any (are_same_lit y) ys)) y x (last_marked now (ys ++ x ∷ [])) (last_marked has ys) (last_more has now x none more ys)

-- which isn't marked
pub last_unmarked : (has : Lit → Bool) (x : Lit) → has x ≡ false → (xs : List Lit) → last_marked has (xs ++ x ∷ []) ≡ last_marked has xs
last_unmarked has x none [] = ap (λ (b : Bool). if b && true then x ∷ [] else []) none
last_unmarked has x none (y ∷ ys) =
    ap (λ (b : Bool). if b then y ∷ last_marked has (ys ++ x ∷ []) else last_marked has (ys ++ x ∷ []))
    (ap (λ (b : Bool). has y && not b) (list_any-append (are_same_lit y) ys (x ∷ []))
    ∙ unmarked_at (are_same_lit y x) (list_any (are_same_lit y) ys) (has y) (λ e. ap has (same_lit y x e) ∙ none))
    ∙ ap (λ (us : List Lit). if has y && not (list_any (are_same_lit y) ys) then y ∷ us else us) (last_unmarked has x none ys)

more_at : (s a b c : Bool) → c ≡ (s || b) → (b ≡ true → a ≡ true) → c ≡ true → (a || (s || false)) ≡ true
more_at true true b c e f h = refl
more_at true false b c e f h = refl
more_at false a b c e f h = ap (λ (d : Bool). d || false) (f (sym e ∙ h))

pub listed_more : (has now : Lit → Bool) (x : Lit) (xs : List Lit) → AreListed has xs → ((l : Lit) → now l ≡ (are_same_lit l x || has l)) → AreListed now (xs ++ x ∷ [])
listed_more has now x xs are more l e =
    list_any-append (are_same_lit l) xs (x ∷ []) ∙ more_at (are_same_lit l x) (list_any (are_same_lit l) xs) (has l) (now l) (more l) (are l) e

-- ---- One less

first_out : (s b a : Bool) (x y : Lit) (us vs : List Lit) → us ≡ without are_same_lit x vs → s ≡ are_same_lit x y
    → (if (not s && b) && not a then y ∷ us else us) ≡ without are_same_lit x (if b && not a then y ∷ vs else vs)
first_out true true true x y us vs e is = e
first_out true true false x y us vs e is = e ∙ ap (λ (d : Bool). if not d then y ∷ without are_same_lit x vs else without are_same_lit x vs) is
first_out true false a x y us vs e is = e
first_out false true true x y us vs e is = e
first_out false true false x y us vs e is =
    ap (λ (ws : List Lit). y ∷ ws) e ∙ ap (λ (d : Bool). if not d then y ∷ without are_same_lit x vs else without are_same_lit x vs) is
first_out false false a x y us vs e is = e

pub last_without : (has now : Lit → Bool) (x : Lit) → ((l : Lit) → now l ≡ (not (are_same_lit l x) && has l)) → (xs : List Lit)
    → last_marked now xs ≡ without are_same_lit x (last_marked has xs)
last_without has now x less [] = refl
last_without has now x less (y ∷ ys) =
    ap (λ (b : Bool). if b && not (list_any (are_same_lit y) ys) then y ∷ last_marked now ys else last_marked now ys) (less y)
    ∙ first_out (are_same_lit y x) (has y) (list_any (are_same_lit y) ys) x y (last_marked now ys) (last_marked has ys) (last_without has now x less ys) (same_turned y x)

less_at : (s b c : Bool) → c ≡ (not s && b) → c ≡ true → (s ≡ false) × (b ≡ true)
less_at true b c e h = absurd (true≢false (sym h ∙ e))
less_at false b c e h = (refl, sym e ∙ h)

-- ---- The last one taken off

back_at : (s b c : Bool) → (s ≡ true → b ≡ true) → c ≡ (not s && b) → b ≡ (s || c)
back_at true b c f e = f refl
back_at false b c f e = sym e

pub last_popped : (has now : Lit → Bool) (x : Lit) → has x ≡ true → ((l : Lit) → now l ≡ (not (are_same_lit l x) && has l)) → (xs : List Lit)
    → last_marked has (xs ++ x ∷ []) ≡ last_marked now xs ++ x ∷ []
last_popped has now x there less xs =
    last_more now has x (less x ∙ ap (λ (b : Bool). not b && has x) (lit_same x))
    (λ l. back_at (are_same_lit l x) (has l) (now l) (λ e. ap has (same_lit l x e) ∙ there) (less l)) xs

-- it stands first of those that were taken off
pub popped_joined : (has now : Lit → Bool) (x : Lit) (xs ys all : List Lit) → has x ≡ true → ((l : Lit) → now l ≡ (not (are_same_lit l x) && has l))
    → last_marked has (xs ++ x ∷ []) ++ reverse ys ≡ all → last_marked now xs ++ reverse (ys ++ x ∷ []) ≡ all
popped_joined has now x xs ys all there less e =
    ap (λ (zs : List Lit). last_marked now xs ++ zs) (reverse-append ys (x ∷ []))
    ∙ sym (append_assoc (last_marked now xs) (x ∷ []) (reverse ys))
    ∙ ap (λ (zs : List Lit). zs ++ reverse ys) (sym (last_popped has now x there less xs)) ∙ e

before_at : (s a : Bool) → s ≡ false → (a || (s || false)) ≡ true → a ≡ true
before_at true a e h = absurd (true≢false e)
before_at false true e h = refl
before_at false false e h = h

listed_before : (has now : Lit → Bool) (x : Lit) (xs : List Lit) → AreListed has (xs ++ x ∷ [])
    → ((l : Lit) → now l ≡ true → (are_same_lit l x ≡ false) × (has l ≡ true)) → AreListed now xs
listed_before has now x xs are others l e =
    before_at (are_same_lit l x) (list_any (are_same_lit l) xs) (others l e).0 (sym (list_any-append (are_same_lit l) xs (x ∷ [])) ∙ are l (others l e).1)

pub listed_popped : (has now : Lit → Bool) (x : Lit) (xs : List Lit) → AreListed has (xs ++ x ∷ []) → ((l : Lit) → now l ≡ (not (are_same_lit l x) && has l))
    → AreListed now xs
listed_popped has now x xs are less = listed_before has now x xs are (λ l. less_at (are_same_lit l x) (has l) (now l) (less l))

pub listed_but : (has : Lit → Bool) (x : Lit) (xs : List Lit) → AreListed has (xs ++ x ∷ []) → has x ≡ false → AreListed has xs
listed_but has x xs are none =
    listed_before has has x xs are
    (λ l e. (not_true (are_same_lit l x) (λ same. true≢false (sym e ∙ ap has (same_lit l x same) ∙ none)), e))
