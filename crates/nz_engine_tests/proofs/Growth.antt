-- Formulas stay so while the table grows.
use Rattle.std.proofs.Common.{◌≡◌, ℕ, ◌<◌, ◌≤◌, ◌+◌, List, [], ◌∷◌, ◌++◌, length, take, Result, Ok, Err, OnOk, OnErr, ◌⊎◌, inl, inr, sym, ap, ◌∙◌, subst, arith, length-append}
use Rattle.std.specs.Prelude.{All}
use Rattle.std.specs.List.{AllByRecursion}
use Rattle.std.proofs.lemmas.List.{append-nil}
use Rattle.std.proofs.Math.Seq.{take-append_seam}
use Rattle.nz_lists.proofs.Fronts.{front_of_more}
use Rattle.nz_spec.specs.search.Decide.{IsFrontOfTable}
use Rattle.nz_spec.specs.clauses.Gates.{is_boolean_term}
use Rattle.nz_spec.specs.terms.Table.{Node}
use Rattle.nz_search.specs.Levels.{Level}
use Rattle.nz_engine.specs.Engines.{EngineState}
use Rattle.nz_term.specs.Growth.{Grows, KeepsTerms}
use Rattle.nz_engine_tests.specs.Benches.{Extends, IsFormula, IsInOrder, IsLevelOf, IsReady}

-- ---- Tables

longer : (old new : List Node) → Extends old new → length old ≤ length new
longer old new e = let l : length new ≡ length old + length e.more = ap length e.all ∙ length-append old e.more in omega arith

front_of_extended : (old new : List Node) → Extends old new → IsFrontOfTable old new
front_of_extended old new e = ap (take (length old)) e.all ∙ take-append_seam old e.more

-- ---- Terms

formula_stays : (old new : List Node) → Extends old new → (i : ℕ) → IsFormula old i → IsFormula new i
formula_stays old new e i h =
    let k : length old ≤ length new = longer old new e in
    let w : i < length old = h.within in
    record { within = omega arith; boolean = ap is_boolean_term (e.stays i w) ∙ h.boolean }

all_stay : (old new : List Node) → Extends old new → (is : List ℕ) → All (IsFormula old) is → All (IsFormula new) is
all_stay old new e is h = λ k d l. formula_stays old new e _ (h k d l)

level_stays : (old new : List Node) → Extends old new → (l : Level) → IsLevelOf old l → IsLevelOf new l
level_stays old new e l h =
    let more : length old ≤ length new = longer old new e in
    record { asserted = all_stay old new e l.asserted h.asserted; numbers = λ k d below. let w = h.numbers k d below in omega (arith, more, w) }

levels_stay : (old new : List Node) → Extends old new → (levels : List Level) → AllByRecursion (IsLevelOf old) levels → AllByRecursion (IsLevelOf new) levels
levels_stay old new e [] h = h
levels_stay old new e (l ∷ ls) h = (level_stays old new e l h.0, levels_stay old new e ls h.1)

-- ---- Engines

ready_stays : (old new : List Node) (engine : EngineState) → Extends old new → IsReady old engine → IsReady new engine
ready_stays old new engine e h =
    record {
      added = levels_stay old new e engine.levels h.added;
      front = front_of_more engine.table old new h.front (front_of_extended old new e);
    }

-- ---- A term more

extends : (old new : List Node) (n : Node) → (new ≡ old) ⊎ (new ≡ old ++ n ∷ []) → KeepsTerms old new → Extends old new
extends old new n (inl same) stays = record { more = []; all = same ∙ sym (append-nil old); stays = stays }
extends old new n (inr more) stays = record { more = n ∷ []; all = more; stays = stays }

-- a bench stays in order where its table goes on
pub order_stays : (old new : List Node) (engine : EngineState) (depth : ℕ) → Extends old new → IsInOrder old engine depth → IsInOrder new engine depth
order_stays old new engine depth e order = record { ready = ready_stays old new engine e order.ready; deep = order.deep }

-- and so whether there was memory for the term or not
pub made_in_order : {E : Type 0} (old new : List Node) (n : Node) (engine : EngineState) (depth : ℕ) (r : Result ℕ E) → OnOk r ((new ≡ old) ⊎ (new ≡ old ++ n ∷ [])) → KeepsTerms old new
    → OnErr r (new ≡ old) → IsInOrder old engine depth → IsInOrder new engine depth
made_in_order old new n engine depth (Ok id) grown stays same order = order_stays old new engine depth (extends old new n grown stays) order
made_in_order old new n engine depth (Err x) grown stays same order = subst (λ (ns : List Node). IsInOrder ns engine depth) (sym same) order

-- and where companions join it
pub completed_in_order : (old new : List Node) (engine : EngineState) (depth : ℕ) → Grows old new → IsInOrder old engine depth → IsInOrder new engine depth
completed_in_order old new engine depth grows order = order_stays old new engine depth (record { more = grows.more; all = grows.all; stays = grows.stays }) order
