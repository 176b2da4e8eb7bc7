-- A trail, what a theory was told of it, and what a work list tells of it.
use Rattle.std.specs.Prelude.{◌≡◌, ℕ, ◌≤◌, ◌++◌, ◌∷◌, Bool, true, false, All, Contains, List, [], Option, None, Some, IfOk, IfSome, OnOk, Result, drop, filter, length, map, slice_get, take, unwrap_or, ⊤}
use Rattle.std.specs.List.{AllByRecursion}
use Rattle.nz_spec.specs.simplex.Bland.{Point}
use Rattle.nz_spec.specs.search.Legal.{MayTell, Lead}
use Rattle.nz_spec.specs.search.Notes.{told_atom}
use Rattle.nz_spec.specs.search.Search.{Task, ToldLiteral, at_first, literal_by, no_point}
use Rattle.nz_spec.specs.clauses.Literal as spec
use Rattle.nz_spec.specs.terms.Table.{Node}
use Rattle.nz_spec.specs.search.Work.{PivotEntry, DecisionEntry, LearnedEntry, BranchEntry, FoundEntry, NoteLine, UnitLine, WorkLine, WorkList}
use Rattle.nz_log.specs.declared.atoms.Atom.{Atom}
use Rattle.nz_log.specs.declared.atoms.Atom.TheVariants.{Term, AtMost}
use Rattle.nz_log.specs.declared.lits.Lit.{Lit}
use Rattle.nz_search.specs.declared.note.Note as note
use Rattle.nz_search.specs.declared.note.Note.{Note}
use Rattle.nz_search.specs.declared.stop.Stop.{Stop}
use Rattle.nz_log.specs.Atoms.{AreWithin, IsLitIn, clause_in, literal_in}
use Rattle.nz_log.specs.Leveled.{AreTold, AreToldAtoms}
use Rattle.nz_log.specs.Logs.{LogState}
use Rattle.nz_search.specs.Notes.{noted_list}
use Rattle.nz_log.specs.Sound.{IsLog}
use Rattle.nz_search.specs.Standing.{Ends, Standing, Stands, search_after}
use Rattle.nz_search.specs.Theories.{IsClash, told_after}
use Rattle.nz_log.specs.Growth.{Grows}
use Rattle.nz_sat.specs.declared.consult.Bounds.{Bounds}
use Rattle.nz_sat.specs.declared.trail.Assigned.{Assigned}
use Rattle.nz_sat.specs.declared.clauses.Held.{Held}
use Rattle.nz_sat.specs.Clauses.{AreAssumedOn, IsImplied}
use Rattle.nz_sat.specs.Conflicts.{is_marked}
use Rattle.nz_sat.specs.Numbers.{atom_literal, number_of, numbered}
use Rattle.nz_sat.specs.Sats.{IsAsked}
use Rattle.nz_sat.specs.Trails.{EachBehind, IsTrail, TrailState, depth, is_decision, literals_on}

-- ---- A theory

-- A theory, as a search sees it: over which tables what it knows of terms is so, which literals it was told, whether some values meet them, of
-- which atoms it knows the bounds, and where it stands.
pub record TheoryState : Type 1 where
  pub over : List Node → Type 0
  pub has_told : List Lit → Type 0
  pub is_feasible : Type 0
  pub of : List Atom → List ℕ → Type 0
  pub at : List Node → Standing

abbrev pub state_of : {T : Type 0} → (T → List Node → Type 0) → (T → List Lit → Type 0) → (T → Type 0) → (T → List Atom → List ℕ → Type 0) → (T → List Node → Standing) → T
    → TheoryState
state_of over has_told is_feasible of at t = record { over = over t; has_told = has_told t; is_feasible = is_feasible t; of = of t; at = at t }

-- It still knows what it knew of terms and of atoms.
pub record Keeps (old new : TheoryState) : Type 0 where
  pub over : (ns : List Node) → old.over ns → new.over ns
  pub of : (all : List Atom) (ids : List ℕ) → old.of all ids → new.of all ids

-- ---- Bounds on a trail

-- whether an atom is a bound
abbrev pub is_bound : Atom → Bool
is_bound (Term t) = false
is_bound (AtMost b) = true

abbrev pub is_bound_at : List Atom → ℕ → Bool
is_bound_at all i = elim (slice_get all i) [ None ↦ false | Some a ↦ is_bound a ]

-- the entries on bounds
abbrev pub bounds_on : List Bool → List Assigned → List Assigned
bounds_on marks es = filter (λ (e : Assigned). is_marked marks e.literal.atom) es

-- those of them up to the place where a theory was told them
abbrev pub told_on : Bounds → List Assigned → List Assigned
told_on b es = bounds_on b.marks.items (take b.told es)

-- what it was told
abbrev pub told_lits : Bounds → List Assigned → List Lit
told_lits b es = literals_on (told_on b es)

-- each entry from a place on stands at the last level
abbrev pub AreLast : ℕ → List Assigned → Type 0
AreLast n es = All (λ (e : Assigned). e.level ≡ depth es) (drop n es)

-- A trail in order over atoms of a log: each entry is on one of them, and one that has a reason follows by it. A level was told of each term that
-- the atoms name, those that are bounds are marked, and what the theory wasn't told of the trail stands at the last level.
pub record IsTrailOn (log : LogState) (atoms : List ℕ) (bounds : Bounds) (trail : TrailState) : Type 0 where
  pub there : AreToldAtoms log atoms
  pub marked : All (λ (t : ℕ). is_marked bounds.marks.items t ≡ is_bound_at log.atoms t) atoms
  pub on_trail : All (λ (e : Assigned). Contains atoms e.literal.atom) trail.entries
  pub order : IsTrail trail
  pub implied : EachBehind (IsImplied log) trail.entries
  pub inside : bounds.told ≤ length trail.entries
  pub untold_last : AreLast bounds.told trail.entries

-- It was told each bound of the trail, and some values meet them.
pub record IsMet (theory : TheoryState) (bounds : Bounds) (es : List Assigned) : Type 0 where
  pub told : theory.has_told (told_lits bounds es)
  pub whole : bounds.told ≡ length es
  pub feasible : theory.is_feasible

-- where the trail is over a table in which what it knows of terms is so, the log stays in order
abbrev pub StaysSoundOver : (List Node → Type 0) → List Assigned → LogState → LogState → Type 0
StaysSoundOver over es old new =
    (ns : List Node) (levels : List (List ℕ)) → over ns → All (λ (e : Assigned). IsLitIn ns old.atoms e.literal) es → IsLog ns levels old → IsLog ns levels new

-- ---- Work lists

-- that a theory was told a literal
abbrev pub told_line : List ℕ → Lit → WorkLine Note
told_line atoms l = NoteLine (note.TheVariants.Told (unwrap_or (number_of atoms l.atom) 0) l.sign)

-- the list after a theory was told a literal, and took it or answered a clause
abbrev pub work_told : WorkList Note → WorkLine Note → Option ℕ → WorkList Note
work_told work line None = record work { lines = work.lines ++ line ∷ [] }
work_told work line (Some id) = work

-- a line that comes of a theory: what it was told, or a pivot
abbrev pub IsOfTheory : WorkLine Note → Type 0
IsOfTheory (NoteLine (note.TheVariants.Start start)) = ⊥
IsOfTheory (NoteLine (note.TheVariants.Atom t)) = ⊥
IsOfTheory (NoteLine (note.TheVariants.Bound b)) = ⊥
IsOfTheory (NoteLine (note.TheVariants.Form atom)) = ⊥
IsOfTheory (NoteLine (note.TheVariants.Under literals)) = ⊥
IsOfTheory (NoteLine (note.TheVariants.Told atom sign)) = ⊤
IsOfTheory (UnitLine (DecisionEntry atom sign)) = ⊥
IsOfTheory (UnitLine (LearnedEntry keep clause)) = ⊥
IsOfTheory (UnitLine (PivotEntry leaves enters)) = ⊤
IsOfTheory (UnitLine (BranchEntry atom)) = ⊥
IsOfTheory (UnitLine (FoundEntry goal value)) = ⊥

-- a line that comes of a search: a decision, a learned clause, a pivot, or what the theory was told
abbrev pub IsOfSearch : WorkLine Note → Type 0
IsOfSearch (NoteLine (note.TheVariants.Start start)) = ⊥
IsOfSearch (NoteLine (note.TheVariants.Atom t)) = ⊥
IsOfSearch (NoteLine (note.TheVariants.Bound b)) = ⊥
IsOfSearch (NoteLine (note.TheVariants.Form atom)) = ⊥
IsOfSearch (NoteLine (note.TheVariants.Under literals)) = ⊥
IsOfSearch (NoteLine (note.TheVariants.Told atom sign)) = ⊤
IsOfSearch (UnitLine (DecisionEntry atom sign)) = ⊤
IsOfSearch (UnitLine (LearnedEntry keep clause)) = ⊤
IsOfSearch (UnitLine (PivotEntry leaves enters)) = ⊤
IsOfSearch (UnitLine (BranchEntry atom)) = ⊥
IsOfSearch (UnitLine (FoundEntry goal value)) = ⊥

-- Lines of a kind are added, and the limit stays.
pub record AddsLines (P : WorkLine Note → Type 0) (old new : WorkList Note) : Type 0 where
  pub more : List (WorkLine Note)
  pub joined : new ≡ record old { lines = old.lines ++ more }
  pub each : AllByRecursion P more

-- an entry that the theory was told, as a work list has it
abbrev pub told_literal : List Node → List Atom → Assigned → ToldLiteral
told_literal ns all e = record { depth = e.level; literal = literal_in ns all e.literal }

-- The work list, over each table, tells the atoms, the decisions of the trail, and the bounds on it that a theory was told, each behind as many
-- decisions as its level is.
pub record TellsTrail (log : LogState) (atoms : List ℕ) (bounds : Bounds) (es : List Assigned) (work : WorkList Note) : Type 0 where
  pub named : (ns : List Node) → (search_after ns work).atoms ≡ map (atom_literal ns log.atoms) atoms
  pub decided : (ns : List Node) → (search_after ns work).decided ≡ map (λ (e : Assigned). numbered atoms e.literal) (filter is_decision es)
  pub told : (ns : List Node) → (search_after ns work).told ≡ map (told_literal ns log.atoms) (told_on bounds es)

-- The lines are legal and lead to a point, at which a theory stands that was told these literals.
pub record StandsAt (IsAt : Standing) (ns : List Node) (q : Task) (work : WorkList Note) (ls : List spec.Literal) : Type 0 where
  pub point : Point
  pub legal : Lead q at_first no_point (noted_list ns work).lines point
  pub at : IsAt (search_after ns work).forms ls point

-- Where the theory stands where the old list leads, the new one is legal, and leads to where the theory stands then, or stopped.
abbrev pub EndsLegally : {A : Type 0} → (old new : TheoryState) → LogState → List Held → List ℕ → List Lit → List Assigned → (work work' : WorkList Note) → Result A Stop → Type 0
EndsLegally old new log held atoms told es work work' result = (ns : List Node) (levels : List (List ℕ)) (assumed : List Lit) (q : Task) → old.over ns → AreAssumedOn assumed es
    → IsAsked ns levels log held atoms assumed work q → StandsAt (old.at ns) ns q work (clause_in ns log.atoms told) → Ends (new.at ns) ns q work' result

-- A theory is told bounds of a trail, from a place on and up to another one, and answers a clause that says that not all entries are true, if it sees
-- that.
pub record Consults (theory theory' : TheoryState) (log log' : LogState) (atoms : List ℕ) (bounds bounds' : Bounds) (on : TrailState) (work work' : WorkList Note)
    (result : Result (Option ℕ) Stop) : Type 0 where
  pub rest : bounds' ≡ record bounds { told = bounds'.told }
  pub trail : IsTrailOn log' atoms bounds' on
  pub keeps : Keeps theory theory'
  pub grows : Grows log log'
  pub sound : StaysSoundOver theory.over on.entries log log'
  pub adds : AddsLines IsOfTheory work work'
  pub told : OnOk result (theory'.has_told (told_lits bounds' on.entries))
  pub noted : OnOk result (TellsTrail log' atoms bounds' on.entries work')
  pub clash : IfOk result (λ found. IfSome found (IsClash log' (literals_on on.entries)))
  pub ends : (held : List Held) → EndsLegally theory theory' log held atoms (told_lits bounds on.entries) on.entries work work' result

-- A theory is told a literal: it takes it, or answers a clause that refutes it. The list has a note of it where it was taken. Where the literal may be
-- told, the list stays legal, and leads to where the theory stands.
pub record TellsOne (theory theory' : TheoryState) (log log' : LogState) (atoms : List ℕ) (literal : Lit) (work work' : WorkList Note) (result : Result (Option ℕ) Stop) : Type 0 where
  pub told : (ls : List Lit) → theory.has_told ls → IfOk result (λ found. theory'.has_told (told_after ls literal found))
  pub clash : (ls : List Lit) → theory.has_told ls → IfOk result (λ found. IfSome found (IsClash log' (ls ++ literal ∷ [])))
  pub keeps : Keeps theory theory'
  pub grows : (ls : List Lit) → theory.has_told ls → AreTold log (ls ++ literal ∷ []) → Grows log log'
  pub sound : (ls : List Lit) (ns : List Node) (levels : List (List ℕ)) → theory.has_told ls → theory.over ns → AreWithin ns log.atoms (ls ++ literal ∷ []) → IsLog ns levels log → IsLog ns levels log'
  pub noted : IfOk result (λ found. work' ≡ work_told work (told_line atoms literal) found)
  pub adds : AddsLines IsOfTheory work work'
  pub ends : (ns : List Node) (q : Task) → MayTell q (search_after ns work) (told_atom (numbered atoms literal).0 literal.sign false)
      → literal_by (search_after ns work).atoms (numbered atoms literal) ≡ literal_in ns log.atoms literal → Stands (theory.at ns) ns q work → Ends (theory'.at ns) ns q work' result
