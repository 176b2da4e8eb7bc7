-- What the engine keeps, as levels change, and what a check answers.
use Rattle.std.proofs.Common.{◌≡◌, ℕ, zero, suc, ◌≤◌, List, [], ◌∷◌, ◌++◌, length, take, drop, inl, inr, Result, Ok, Err, OnOk, OnErr, refl, sym, ap, subst, ◌∙◌, arith}
use Rattle.std.proofs.lemmas.List.{length-map, length-take, take-append-drop, take-append-le, take_all}
use Rattle.nz_spec.specs.terms.Table.{IsTable, Node, TermStays}
use Rattle.nz_spec.specs.terms.Term.{Term}
use Rattle.nz_spec.specs.search.Decide.{IsFrontOfTable}
use Rattle.nz_log.specs.Leveled.{LogsStayLeveled}
use Rattle.nz_log.specs.Sound.{LogsStay}
use Rattle.nz_cform.specs.Laws.{CoversStay}
use Rattle.nz_reals.specs.Stands.{IsOver}
use Rattle.nz_reals.specs.Starts.{MayRestart, TheoriesRestart}
use Rattle.nz_reals.specs.State.{Theory, empty_theory}
use Rattle.nz_search.specs.Levels.{Level, added_by_level}
use Rattle.nz_engine.specs.declared.check.Retained.{Retained}
use Rattle.nz_engine.specs.declared.check.Retained.TheVariants as kept
use Rattle.nz_engine.specs.Engines.{IsAtRest, IsKept, IsLow, IsReadied, IsSettled, theory_of}
use Rattle.nz_engine.specs.Preparing.{PreparedState, CutsTo, IsPrepared}
use Rattle.nz_engine.proofs.LevelPreservation.{cut_prepared, goes_on, grown, standing}
use Rattle.nz_engine.proofs.AssertionPlaces.{GoOn, lower_or_not}

take_added : (n : ℕ) (levels : List Level) → take n (added_by_level levels) ≡ added_by_level (take n levels)
take_added zero levels = refl
take_added (suc n) [] = refl
take_added (suc n) (l ∷ ls) = ap (λ rest. (l.asserted ++ l.numbers) ∷ rest) (take_added n ls)

-- the levels below one, of those with one above them
front_of : (levels : List Level) (more : List ℕ) (n : ℕ) → n ≤ length levels → take n (added_by_level levels ++ more ∷ []) ≡ added_by_level (take n levels)
front_of levels more n few =
    let long = length-map levels (λ (l : Level). l.asserted ++ l.numbers) in
    take-append-le n (added_by_level levels) (more ∷ []) (omega (arith, few, long)) ∙ take_added n levels

take_length : (n : ℕ) (xs ys : List Level) → take n xs ≡ ys → length ys ≡ n → n ≤ length xs
take_length n xs ys e long = let all = ap length (sym e) ∙ length-take n xs in omega (arith, all, long)

-- what is cut to the last of the first levels
pub settled : CoversStay → LogsStayLeveled → (ns : List Node) (old levels : List Level) (p q : PreparedState) (last : ℕ) → take (length levels) old ≡ levels → suc last ≡ length levels
    → CutsTo p last levels q → IsReadied ns old p → IsSettled ns levels q
settled covers leveled ns old levels p q last front end cuts r =
    let same : take (suc last) old ≡ levels = ap (λ n. take n old) end ∙ front in
    let few : suc last ≤ length old = take_length (suc last) old levels same (sym end) in
    let own : CutsTo p last (take (suc last) old) q = subst (λ ls. CutsTo p last ls q) (sym same) cuts in
    let cut = cut_prepared ns old (added_by_level old ++ r.more ∷ []) p q last own r.standing.raised covers leveled in
    record {
      table = r.table;
      prepared = subst (λ ls. IsPrepared ns ls (added_by_level ls) q) same (subst (λ rs. IsPrepared ns (take (suc last) old) rs q) (front_of old r.more (suc last) few) cut);
      rest = subst (IsAtRest ns) (sym cuts.theory) r.rest;
    }

-- what has nothing above may have something
pub kept_low : (ns : List Node) (levels : List Level) (k : Retained) → IsLow ns levels k → IsKept ns levels k
kept_low ns levels (kept.Theory t) h = h
kept_low ns levels (kept.Prepared p) h = record { table = h.table; more = []; standing = standing ns levels [] p h.prepared; rest = h.rest }

-- and so it is when the levels go on
pub kept_on : LogsStay → (ns : List Node) (old new : List Level) (k : Retained) → GoOn old new → IsLow ns old k → IsKept ns new k
kept_on stay ns old new (kept.Theory t) on h = h
kept_on stay ns old new (kept.Prepared p) on h =
    kept_low ns new (kept.Prepared p) (record { table = h.table; prepared = goes_on ns old new p on h.prepared stay; rest = h.rest })

-- ---- A table that has grown

-- a table grows behind its front
grown_from : (front ns : List Node) → IsFrontOfTable front ns → front ++ drop (length front) ns ≡ ns
grown_from front ns is = ap (λ xs. xs ++ drop (length front) ns) (sym is) ∙ take-append-drop (length front) ns

-- a search may begin with the theory over the table where it may over a front of it
pub rests_over : TheoriesRestart → (front ns : List Node) (t : Theory) (ts : List Term) → IsFrontOfTable front ns → IsOver t front → MayRestart t front ts → MayRestart t ns ts
rests_over laws front ns t ts is over may = subst (λ xs. MayRestart t xs ts) (grown_from front ns is) (laws.grown t front (drop (length front) ns) ts over may)

pub over_grown : TheoriesRestart → (front ns : List Node) (t : Theory) → IsFrontOfTable front ns → IsTable ns → IsOver t front → IsOver t ns
over_grown laws front ns t is table over =
    let joined = grown_from front ns is in
    subst (IsOver t) joined (laws.over t front (drop (length front) ns) (subst IsTable (sym joined) table) over)

-- of what is kept the theory is so
pub kept_rest : (ns : List Node) (levels : List Level) (k : Retained) → IsKept ns levels k → IsAtRest ns (theory_of k)
kept_rest ns levels (kept.Theory t) h = h
kept_rest ns levels (kept.Prepared p) h = h.rest

-- over no sum, whatever the table
pub empty_rest : TheoriesRestart → (ns : List Node) → IsTable ns → IsAtRest ns empty_theory
empty_rest laws ns table = record { over = record { table = table; units = tt }; known = []; may = laws.empty ns [] }

-- what is settled over a front of a table is so over the table
pub prepared_over : TermStays → LogsStay → CoversStay → (front ns : List Node) (levels : List Level) (p : PreparedState) → IsFrontOfTable front ns → IsSettled front levels p
    → IsPrepared ns levels (added_by_level levels) p
prepared_over terms stay covers front ns levels p is h =
    subst (λ xs. IsPrepared xs levels (added_by_level levels) p) (grown_from front ns is) (grown terms stay covers front (drop (length front) ns) levels (added_by_level levels) p h.table h.prepared)

-- and after a call that makes the levels go on, or leaves them
pub kept_either : {X E : Type 0} (r : Result X E) → LogsStay → (ns : List Node) (old on new : List Level) (k : Retained) → GoOn old on → OnOk r (new ≡ on)
    → OnErr r (new ≡ old) → IsLow ns old k → IsKept ns new k
kept_either (Ok x) stay ns old on new k goes ok err h = subst (λ ls. IsKept ns ls k) (sym ok) (kept_on stay ns old on k goes h)
kept_either (Err e) stay ns old on new k goes ok err h = subst (λ ls. IsKept ns ls k) (sym err) (kept_low ns old k h)

-- the first levels are as many as they are
pub take_again : (n : ℕ) (levels new : List Level) → new ≡ take n levels → take (length new) levels ≡ new
take_again n levels new is =
    let long = ap length is ∙ length-take n levels in
    elim (lower_or_not n (length levels)) [
      | inl below ↦ ap (λ k. take k levels) (omega (arith, long, below)) ∙ sym is
      | inr past ↦ take_all (length new) levels (omega (arith, long, past)) ∙ sym (take_all n levels past) ∙ sym is
    ]
