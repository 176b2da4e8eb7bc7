-- What a theory does to a log and to a work list, and where it stands.
use Rattle.std.specs.Prelude.{◌≡◌, ℕ, List, [], ◌∷◌, ◌++◌, length, map, Contains, Option, Some, None, Result, Ok, Err, slice_get, ⊤}
use Rattle.nz_spec.specs.simplex.Bland.{Point, Position}
use Rattle.nz_spec.specs.terms.Form.{Part}
use Rattle.nz_spec.specs.clauses.Literal as spec
use Rattle.nz_spec.specs.clauses.Literal.{StandOnce}
use Rattle.nz_spec.specs.simplex.LiteralBounds.{moved_by, position_under}
use Rattle.nz_spec.specs.simplex.PositionMoves.{AreConsistent}
use Rattle.nz_spec.specs.simplex.Pivots.{Pivot, pivot, MayPivot, Lead}
use Rattle.nz_spec.specs.terms.Table.{Node}
use Rattle.nz_spec.specs.search.Work.{PivotEntry, WorkList, UnitLine}
use Rattle.nz_lin.specs.declared.bound.Bound.{Bound}
use Rattle.nz_log.specs.declared.atoms.Atom.TheVariants.{AtMost}
use Rattle.nz_search.specs.declared.stop.Stop.{Stop}
use Rattle.nz_search.specs.declared.stop.Stop.TheVariants.{Wide, Spent, Memory}
use Rattle.nz_place.specs.declared.place.Place.{Place}
use Rattle.nz_place.specs.declared.place.Site.{Site}
use Rattle.nz_place.specs.declared.place.Site.TheVariants.{Term, Goal, Joining, Exchange, Value, Sum, Cut, Tight, Split, Move, Limit, Model, Worth, Line, GoalLine, Scaling}
use Rattle.nz_place.specs.Places.{IsPlaceIn}
use Rattle.nz_log.specs.declared.lits.Lit.{Lit}
use Rattle.nz_search.specs.declared.note.Note.{Note}
use Rattle.nz_log.specs.Lits.{negated_lit}
use Rattle.nz_log.specs.Logs.{LogState, IsLive, literals_at}

-- A clause of the log says that literals that were told aren't true together: it has negations of them, each once.
pub record IsClash (log : LogState) (told : List Lit) (id : ℕ) : Type 0 where
  pub live : IsLive log id
  pub once : StandOnce (literals_at log id)
  pub negations : (l : Lit) → Contains (literals_at log id) l → Contains told (negated_lit l)

-- what a theory was told after a literal: not that, where it answered a clause
abbrev pub told_after : List Lit → Lit → Option ℕ → List Lit
told_after ls l None = ls ++ l ∷ []
told_after ls l (Some id) = ls

-- the literal is on an atom that is a bound
abbrev pub IsBoundIn : LogState → Lit → Type 0
IsBoundIn log l = (b : Bound) × (slice_get log.atoms l.atom ≡ Some (AtMost b))

-- Units are added, which are pivots.
pub record AddsPivots (old new : WorkList Note) : Type 0 where
  pub pivots : List Pivot
  pub joined : new ≡ record old { lines = old.lines ++ map (λ (p : Pivot). UnitLine (PivotEntry p.leaves p.enters)) pivots }

-- a literal that was told moves the form that it bounds; one that was refuted moves nothing
abbrev pub MovesOn : (List spec.Literal → Point → Type 0) → List (List Part) → List spec.Literal → spec.Literal → Point → Option ℕ → Type 0
MovesOn IsAt fs ls l x None = IsAt (ls ++ l ∷ []) (moved_by fs l x)
MovesOn IsAt fs ls l x (Some id) = IsAt ls x

-- when a computation of a simplex that looks for a point is made: an exchange where it may be next
abbrev pub IsDueIn : Position → Site → Type 0
IsDueIn p (Exchange leaves enters) = AreConsistent p × MayPivot p (pivot leaves enters)
IsDueIn p (Value form) = ⊤
IsDueIn p (Sum multiples) = ⊤
IsDueIn p (Term term) = ⊥
IsDueIn p (Goal goal) = ⊥
IsDueIn p Joining = ⊥
IsDueIn p (Cut multiples) = ⊥
IsDueIn p (Tight bound) = ⊥
IsDueIn p (Split unit) = ⊥
IsDueIn p (Move form moves side) = ⊥
IsDueIn p (Limit form side) = ⊥
IsDueIn p (Model form) = ⊥
IsDueIn p (Worth term model) = ⊥
IsDueIn p (Line term family) = ⊥
IsDueIn p (GoalLine goal family) = ⊥
IsDueIn p (Scaling forms moves) = ⊥

-- An operation of a simplex that looks for a point leaves the numbers.
pub record IsPlaceOfStep (ns : List Node) (fs : List (List Part)) (ls : List spec.Literal) (x : Point) (place : Place) : Type 0 where
  pub leaves : IsPlaceIn ns fs ls x place
  pub due : IsDueIn (position_under fs x ls) place.site

-- what stands where a check ends: at a point, at a place, or where one more pivot may follow
abbrev pub EndsAt : {A : Type 0} → (Point → Type 0) → List Node → List (List Part) → List spec.Literal → Point → Result A Stop → Type 0
EndsAt IsAt ns fs ls y (Ok answer) = IsAt y
EndsAt IsAt ns fs ls y (Err (Wide place)) = IsPlaceOfStep ns fs ls y place
EndsAt IsAt ns fs ls y (Err Spent) = (p : Pivot) × MayPivot (position_under fs y ls) p
EndsAt IsAt ns fs ls y (Err Memory) = ⊤

-- The bounds leave each form a value, and the pivots that are added lead from a point to the one where the check ends.
pub record Leads {A : Type 0} (IsAt : Point → Type 0) (ns : List Node) (fs : List (List Part)) (ls : List spec.Literal) (x : Point) (old new : WorkList Note) (result : Result A Stop) : Type 0 where
  pub consistent : AreConsistent (position_under fs x ls)
  pub adds : AddsPivots old new
  pub end : Position
  pub lead : Lead (position_under fs x ls) adds.pivots end
  pub ends : EndsAt IsAt ns fs ls end.point result

-- no form, and no literal that bounds one
pub record IsWithoutForms (count : ℕ) (fs : List (List Part)) (ls : List spec.Literal) (x : Point) : Type 0 where
  pub told : count ≡ length ls
  pub forms : fs ≡ []
  pub point : (k : ℕ) → x k ≡ None
