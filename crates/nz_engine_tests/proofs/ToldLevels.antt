-- What was added to an engine, by levels.
use Rattle.std.proofs.Common.{◌≡◌, ℕ, zero, suc, ◌<◌, ◌-◌, Bool, true, false, List, [], ◌∷◌, ◌++◌, length, take, refl, sym, ap, ◌∙◌, subst, arith, if◌then◌else◌}
use Rattle.std.specs.Prelude.{All}
use Rattle.std.specs.List.{AllByRecursion}
use Rattle.std.proofs.lemmas.List.{length-append, length-take-le}
use Rattle.std.proofs.lemmas.List.Elements.{All-append, All-nil, All-push}
use Rattle.nz_spec.specs.clauses.Gates.{is_boolean_term}
use Rattle.nz_spec.specs.search.Decide.{AreInTable, IsFrontOfTable, asserted_numbers}
use Rattle.nz_spec.specs.terms.Table.{Node, term_in}
use Rattle.nz_spec.specs.terms.Term as spec
use Rattle.nz_spec.specs.terms.Taken.{IsTaken, IsTakenBoolean}
use Rattle.nz_taken_samples.specs.Sorted.{AreTaken}
use Rattle.nz_search.specs.Levels.{Level, added_by_level, asserted_by_level, empty_level, numbers_by_level, with_added, with_term}
use Rattle.nz_engine.specs.Engines.{Begins, EngineState, empty_engine}
use Rattle.nz_engine_tests.specs.Benches.{IsFormula, IsInOrder, IsLevelOf, IsNew, IsReady}

-- ---- All levels

module _ (ns : List Node) where
  are_formulas : (levels : List Level) → AllByRecursion (IsLevelOf ns) levels → All (IsFormula ns) (asserted_numbers (asserted_by_level levels))
  are_formulas [] h = All-nil _
  are_formulas (l ∷ ls) h = All-append (IsFormula ns) l.asserted (asserted_numbers (asserted_by_level ls)) h.0.asserted (are_formulas ls h.1)

  are_numbers : (levels : List Level) → AllByRecursion (IsLevelOf ns) levels → All (λ i. i < length ns) (asserted_numbers (numbers_by_level levels))
  are_numbers [] h = All-nil _
  are_numbers (l ∷ ls) h = All-append (λ i. i < length ns) l.numbers (asserted_numbers (numbers_by_level ls)) h.0.numbers (are_numbers ls h.1)

  -- all that was added is of the table
  pub are_known : (levels : List Level) → AllByRecursion (IsLevelOf ns) levels → AreInTable ns (added_by_level levels)
  are_known [] h = All-nil _
  are_known (l ∷ ls) h =
      let own = All-append (λ i. i < length ns) l.asserted l.numbers (λ k d below. (h.0.asserted k d below).within) h.0.numbers in
      All-append (λ i. i < length ns) (l.asserted ++ l.numbers) (asserted_numbers (added_by_level ls)) own (are_known ls h.1)

  module _ (taken : AreTaken ns (length ns)) (levels : List Level) (h : AllByRecursion (IsLevelOf ns) levels) where
    pub asserted_taken : All (λ i. IsTakenBoolean (term_in ns i)) (asserted_numbers (asserted_by_level levels))
    asserted_taken k d below = let f = are_formulas levels h k d below in record { taken = taken _ f.within; boolean = f.boolean }

    pub numbers_taken : All (λ i. IsTaken (term_in ns i)) (asserted_numbers (numbers_by_level levels))
    numbers_taken k d below = taken _ (are_numbers levels h k d below)

-- ---- A level more

level_more : (ns : List Node) (levels : List Level) → AllByRecursion (IsLevelOf ns) levels → AllByRecursion (IsLevelOf ns) (levels ++ empty_level ∷ [])
level_more ns [] h = (record { asserted = All-nil _; numbers = All-nil _ }, h)
level_more ns (l ∷ ls) h = (h.0, level_more ns ls h.1)

pub pushed_ready : (ns : List Node) (old new : EngineState) → IsReady ns old → new.levels ≡ old.levels ++ empty_level ∷ [] → new.table ≡ old.table → IsReady ns new
pushed_ready ns old new h levels table =
    record {
      added = subst (AllByRecursion (IsLevelOf ns)) (sym levels) (level_more ns old.levels h.added);
      front = subst (λ t. IsFrontOfTable t ns) (sym table) h.front;
    }

-- ---- A level less

levels_taken : (ns : List Node) (n : ℕ) (levels : List Level) → AllByRecursion (IsLevelOf ns) levels → AllByRecursion (IsLevelOf ns) (take n levels)
levels_taken ns zero levels h = tt
levels_taken ns (suc n) [] h = h
levels_taken ns (suc n) (l ∷ ls) h = (h.0, levels_taken ns n ls h.1)

-- the last level is taken off, which isn't the first
pub popped : (ns : List Node) (old new : EngineState) (depth : ℕ) → IsInOrder ns old depth → 0 < depth → new.levels ≡ take (length old.levels - 1) old.levels → new.table ≡ old.table
    → IsInOrder ns new (depth - 1)
popped ns old new depth h l levels table =
    let deep : depth < length old.levels = h.deep in
    let size : length new.levels ≡ length old.levels - 1 = ap length levels ∙ length-take-le (length old.levels - 1) old.levels (omega arith) in
    record {
      ready = record {
        added = subst (AllByRecursion (IsLevelOf ns)) (sym levels) (levels_taken ns (length old.levels - 1) old.levels h.ready.added);
        front = subst (λ t. IsFrontOfTable t ns) (sym table) h.ready.front;
      };
      deep = omega arith;
    }

-- ---- A term more

-- the level with the term, by its sort
with_by : (ns : List Node) (i : ℕ) (l : Level) (b : Bool) → is_boolean_term (term_in ns i) ≡ b
    → with_term ns i l ≡ (if b then record l { asserted = l.asserted ++ i ∷ [] } else record l { numbers = l.numbers ++ i ∷ [] })
with_by ns i l b is = ap (λ (c : Bool). if c then (let k : Level = record l { asserted = l.asserted ++ i ∷ [] } in k) else record l { numbers = l.numbers ++ i ∷ [] }) is

module _ (ns : List Node) (i : ℕ) (within : i < length ns) where
  level_with : (b : Bool) → is_boolean_term (term_in ns i) ≡ b → (l : Level) → IsLevelOf ns l → IsLevelOf ns (with_term ns i l)
  level_with true is l h =
      let same = with_by ns i l true is in
      subst (IsLevelOf ns) (sym same) (record { asserted = All-push (IsFormula ns) l.asserted i h.asserted (record { within = within; boolean = is }); numbers = h.numbers })
  level_with false is l h =
      let same = with_by ns i l false is in
      subst (IsLevelOf ns) (sym same) (record { asserted = h.asserted; numbers = All-push (λ j. j < length ns) l.numbers i h.numbers within })

  levels_with : (levels : List Level) → AllByRecursion (IsLevelOf ns) levels → AllByRecursion (IsLevelOf ns) (with_added ns levels i)
  levels_with [] h = h
  levels_with (l ∷ []) h = (level_with (is_boolean_term (term_in ns i)) refl l h.0, h.1)
  levels_with (l ∷ next ∷ more) h = (h.0, levels_with (next ∷ more) h.1)

  pub added_ready : (old new : EngineState) → IsReady ns old → new.levels ≡ with_added ns old.levels i → new.table ≡ old.table → IsReady ns new
  added_ready old new h levels table =
      record {
        added = subst (AllByRecursion (IsLevelOf ns)) (sym levels) (levels_with old.levels h.added);
        front = subst (λ t. IsFrontOfTable t ns) (sym table) h.front;
      }

length_with : (ns : List Node) (i : ℕ) (levels : List Level) → length (with_added ns levels i) ≡ length levels
length_with ns i [] = refl
length_with ns i (l ∷ []) = refl
length_with ns i (l ∷ next ∷ more) = ap suc (length_with ns i (next ∷ more))

pub added_count : (ns : List Node) (i : ℕ) (old new : EngineState) → new.levels ≡ with_added ns old.levels i → length new.levels ≡ length old.levels
added_count ns i old new levels = ap length levels ∙ length_with ns i old.levels

-- ---- A bench stays in order

pub kept_in_order : (ns : List Node) (old new : EngineState) (depth : ℕ) → IsInOrder ns old depth → (IsReady ns old → IsReady ns new) → length new.levels ≡ length old.levels → IsInOrder ns new depth
kept_in_order ns old new depth h ready count = let deep = h.deep in record { ready = ready h.ready; deep = omega (arith, deep, count) }

-- what an engine was told stays ready where its levels and its table are the same
pub same_ready : (ns : List Node) (old new : EngineState) → new.levels ≡ old.levels → IsFrontOfTable new.table ns → IsReady ns old → IsReady ns new
same_ready ns old new levels front h = record { added = subst (AllByRecursion (IsLevelOf ns)) (sym levels) h.added; front = front }

-- ---- An engine stays new

pub pushed_new : (ns : List Node) (old new : EngineState) → old ≡ empty_engine → new.levels ≡ old.levels ++ empty_level ∷ [] → new.table ≡ old.table
    → ((ts : List spec.Term) → Begins old ts) → ((ts : List spec.Term) → Begins old ts → Begins new ts) → IsNew ns new
pushed_new ns old new empty levels table begins stays =
    let nothing : IsReady ns old = subst (IsReady ns) (sym empty) (record { added = tt; front = refl }) in
    let count = ap length levels ∙ length-append old.levels (empty_level ∷ []) in
    record { ready = pushed_ready ns old new nothing levels table; some = omega (arith, count); begins = λ ts. stays ts (begins ts) }

pub kept_new : (ns : List Node) (old new : EngineState) → IsNew ns old → (IsReady ns old → IsReady ns new) → length new.levels ≡ length old.levels
    → ((ts : List spec.Term) → Begins old ts → Begins new ts) → IsNew ns new
kept_new ns old new h ready count begins = let some = h.some in record { ready = ready h.ready; some = omega (arith, some, count); begins = λ ts. begins ts (h.begins ts) }
