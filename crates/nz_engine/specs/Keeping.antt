-- What stays of what is kept, from check to check.
use Rattle.std.specs.Prelude.{◌≡◌, ℕ, ◌≤◌, suc, true, false, Contains, List, [], length}
use Rattle.nz_spec.specs.search.Work.{WorkList}
use Rattle.nz_search.specs.declared.note.Note.{Note}
use Rattle.nz_cform.specs.Covering.{Keeps}
use Rattle.nz_sat.specs.declared.clauses.Held.{Held}
use Rattle.nz_search.specs.Levels.{Level}
use Rattle.nz_engine.specs.declared.check.Retained.{Retained}
use Rattle.nz_engine.specs.declared.check.Retained.TheVariants as kept
use Rattle.nz_engine.specs.Engines.{prepared_of}
use Rattle.nz_engine.specs.Preparing.{CutsTo, PreparedState}

-- a clause was added, or learned with literals of no more than two levels
abbrev pub IsLasting : Held → Type 0
IsLasting h = h.glue ≤ 2

-- Each clause of the log stays as it is, and each atom keeps its number. A clause that is held still is, where it was added or has literals of few levels.
pub record KeepsClauses (old new : PreparedState) : Type 0 where
  pub log : Keeps old.log new.log
  pub held : (h : Held) → Contains old.sat.clauses h → IsLasting h → Contains new.sat.clauses h

-- ---- Levels

-- What was prepared is left up to the last of these levels.
pub record CutsToLast (old : PreparedState) (levels : List Level) (new : PreparedState) : Type 0 where
  pub last : ℕ
  pub is : suc last ≡ length levels
  pub cuts : CutsTo old last levels new

-- what was prepared is left so, or the theory alone where there is no level
abbrev pub IsCutTo : PreparedState → List Level → Retained → Type 0
IsCutTo old levels (kept.Prepared p) = CutsToLast old levels p
IsCutTo old levels (kept.Theory t) = (levels ≡ []) × (t ≡ old.sat.theory)

-- the same of what is kept, if anything was prepared
abbrev pub IsKeptTo : Retained → List Level → Retained → Type 0
IsKeptTo (kept.Prepared p) levels new = IsCutTo p levels new
IsKeptTo (kept.Theory t) levels new = new ≡ kept.Theory t

-- What is kept stays where nothing stands above the levels, and else it is left up to the last of them.
pub record IsLowered (old : Retained) (levels : List Level) (new : Retained) : Type 0 where
  pub same : (prepared_of old).above ≡ false → new ≡ old
  pub cuts : (prepared_of old).above ≡ true → IsKeptTo old levels new

-- ---- A check

-- The clauses stay that are left with nothing above the levels.
pub record KeepsLowered (levels : List Level) (old : Retained) (new : PreparedState) : Type 0 where
  pub low : Retained
  pub lowered : IsLowered old levels low
  pub keeps : KeepsClauses (prepared_of low) new

-- A check that begins its list keeps the clauses that are left so, and one that goes on with its list all of them.
pub record Retains (levels : List Level) (work : WorkList Note) (old : Retained) (new : PreparedState) : Type 0 where
  pub anew : work.lines ≡ [] → KeepsLowered levels old new
  pub on : (work.lines ≡ [] → ⊥) → KeepsClauses (prepared_of old) new
