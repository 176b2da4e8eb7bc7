-- Terms by level, as the code keeps them, and where one more is added.
use Rattle.std.proofs.Common.{◌≡◌, ℕ, zero, suc, ◌+◌, ◌<◌, ◌++◌, true, false, List, [], ◌∷◌, length, set, take, get_or, refl, sym, ap, ◌∙◌, arith}
use Rattle.std.proofs.lemmas.List.{length-append, map-set, set-get_or, length-map, get_or-map}
use Rattle.nz_spec.specs.clauses.Gates.{is_boolean_term}
use Rattle.nz_spec.specs.search.Decide.{asserted_numbers}
use Rattle.nz_spec.specs.terms.Table.{Node, term_in}
use Rattle.nz_search.specs.Levels.{Level, empty_level, with_added, with_term}
use Rattle.nz_engine.specs.declared.levels.AddedTerms.{AddedTerms}
use Rattle.nz_engine.specs.declared.levels.Kind.{Kind}
use Rattle.nz_engine.specs.Levels.{by_level, count_in, level_of, levels_of, of_kind}
use Rattle.nz_engine.proofs.AssertionPlaces.{level_with, next_level}

-- ---- Terms of a kind

-- how many levels there are
pub level_count : (kind : Kind) (levels : List AddedTerms) → length (by_level kind (levels_of levels)) ≡ length levels
level_count kind levels = length-map (levels_of levels) (of_kind kind) ∙ length-map levels level_of

-- the terms of one level, by its place
pub level_at : (kind : Kind) (levels : List AddedTerms) (j : ℕ) (level : AddedTerms) → j < length levels → level ≡ get_or levels j level
    → get_or (by_level kind (levels_of levels)) j [] ≡ of_kind kind (level_of level)
level_at kind levels j level l e =
    let size = length-map levels level_of in
    get_or-map (of_kind kind) (levels_of levels) j (level_of level) [] (omega (arith, l, size))
    ∙ ap (of_kind kind) (get_or-map level_of levels j level (level_of level) l ∙ ap level_of (sym e))

-- how many there are up to the next level
pub count_next : (kind : Kind) (levels : List AddedTerms) (k : ℕ) (level : AddedTerms) → k < length levels → level ≡ get_or levels k level
    → count_in (by_level kind (levels_of levels)) (suc k) ≡ count_in (by_level kind (levels_of levels)) k + length (of_kind kind (level_of level))
count_next kind levels k level l e =
    let ls = by_level kind (levels_of levels) in
    let size = level_count kind levels in
    let next = ap length (next_level ls k (omega (arith, l, size))) in
    let both = length-append (asserted_numbers (take k ls)) (get_or ls k []) in
    let own = ap length (level_at kind levels k level l e) in
    omega (arith, next, both, own)

-- ---- A term more

-- a term more goes to the last level
with_added-set : (ns : List Node) (levels : List Level) (j i : ℕ) → length levels ≡ suc j → with_added ns levels i ≡ set levels j (with_term ns i (get_or levels j empty_level))
with_added-set ns [] j i l = absurd (omega arith)
with_added-set ns (level ∷ []) zero i l = refl
with_added-set ns (level ∷ []) (suc j) i l = absurd (omega arith)
with_added-set ns (level ∷ next ∷ more) zero i l = absurd (omega arith)
with_added-set ns (level ∷ next ∷ more) (suc j) i l = ap (λ r. level ∷ r) (with_added-set ns (next ∷ more) j i (omega arith))

own_level : (levels : List AddedTerms) (j : ℕ) (level : AddedTerms) → j < length levels → level ≡ get_or levels j level → get_or (levels_of levels) j empty_level ≡ level_of level
own_level levels j level l e = get_or-map level_of levels j level empty_level l ∙ ap level_of (sym e)

-- a level with an assertion more, and with a number more
pub one_asserted : (ns : List Node) (i : ℕ) (level new : AddedTerms) → is_boolean_term (term_in ns i) ≡ true → new.asserted.items ≡ level.asserted.items ++ i ∷ []
    → new.numbers.items ≡ level.numbers.items → level_of new ≡ with_term ns i (level_of level)
one_asserted ns i level new e f g =
    ap (λ (xs : List ℕ). let l : Level = record { asserted = xs; numbers = new.numbers.items } in l) f
    ∙ ap (λ (xs : List ℕ). let l : Level = record { asserted = level.asserted.items ++ i ∷ []; numbers = xs } in l) g ∙ sym (ap (level_with (level_of level) i) e)

pub one_number : (ns : List Node) (i : ℕ) (level new : AddedTerms) → is_boolean_term (term_in ns i) ≡ false → new.asserted.items ≡ level.asserted.items
    → new.numbers.items ≡ level.numbers.items ++ i ∷ [] → level_of new ≡ with_term ns i (level_of level)
one_number ns i level new e f g =
    ap (λ (xs : List ℕ). let l : Level = record { asserted = xs; numbers = new.numbers.items } in l) f
    ∙ ap (λ (xs : List ℕ). let l : Level = record { asserted = level.asserted.items; numbers = xs } in l) g ∙ sym (ap (level_with (level_of level) i) e)

pub same_level : (level new : AddedTerms) → new.asserted.items ≡ level.asserted.items → new.numbers.items ≡ level.numbers.items → level_of new ≡ level_of level
same_level level new f g =
    ap (λ (xs : List ℕ). let l : Level = record { asserted = xs; numbers = new.numbers.items } in l) f
    ∙ ap (λ (xs : List ℕ). let l : Level = record { asserted = level.asserted.items; numbers = xs } in l) g

-- where the last level has one term more
pub term_added : (ns : List Node) (levels : List AddedTerms) (j i : ℕ) (level new : AddedTerms) → length levels ≡ suc j → level ≡ get_or levels j level
    → level_of new ≡ with_term ns i (level_of level) → levels_of (set levels j new) ≡ with_added ns (levels_of levels) i
term_added ns levels j i level new l e f =
    let ls = levels_of levels in
    let size : length ls ≡ suc j = length-map levels level_of ∙ l in
    map-set level_of levels j new ∙ ap (set ls j) (f ∙ ap (with_term ns i) (sym (own_level levels j level (omega (arith, l)) e))) ∙ sym (with_added-set ns ls j i size)

-- where a level keeps its terms
pub terms_kept : (levels : List AddedTerms) (j : ℕ) (level new : AddedTerms) → length levels ≡ suc j → level ≡ get_or levels j level → level_of new ≡ level_of level
    → levels_of (set levels j new) ≡ levels_of levels
terms_kept levels j level new l e f =
    let ls = levels_of levels in
    map-set level_of levels j new ∙ ap (set ls j) (f ∙ sym (own_level levels j level (omega (arith, l)) e)) ∙ set-get_or ls j empty_level
