-- What an engine keeps from check to check: clauses in a log, each held by a search.
use Rattle.std.specs.Prelude.{⊤, ◌≡◌, ◌⊎◌, ℕ, ◌<◌, ◌≤◌, ◌++◌, Bool, true, false, List, [], ◌∷◌, length, map, flat_map, min, take, suc, All, Contains, Some, None, IsSome, if◌then◌else◌, slice_get}
use Rattle.nz_spec.specs.clauses.Gates.{is_boolean_term}
use Rattle.nz_spec.specs.clauses.Literal.{StandOnce}
use Rattle.nz_spec.specs.terms.Table.{Node, term_in}
use Rattle.nz_spec.specs.terms.Taken.{IsTaken}
use Rattle.nz_spec.specs.terms.Order.{listing_order}
use Rattle.nz_spec.specs.search.Decide.{asserted_numbers}
use Rattle.nz_lin.specs.declared.bound.Bound.{Bound}
use Rattle.nz_log.specs.declared.atoms.Atom.{Atom}
use Rattle.nz_log.specs.declared.atoms.Atom.TheVariants.{Term, AtMost}
use Rattle.nz_log.specs.declared.lits.Lit.{Lit}
use Rattle.nz_log.specs.declared.origins.Subject.TheVariants.{Truth}
use Rattle.nz_log.specs.Leveled.{IsLeveled}
use Rattle.nz_log.specs.Atoms.{HasTerm, lit_of, term_place}
use Rattle.nz_log.specs.Logs.{LogState, empty_log, literals_at, told_level, Drops, subject_at}
use Rattle.nz_log.specs.Sound.{IsLog, live_at}
use Rattle.nz_log.specs.Growth.{Grows}
use Rattle.nz_term.specs.TermLits.{yes}
use Rattle.nz_cform.specs.Covering.{AreAdded, Covers, IsRowAt, Keeps}
use Rattle.nz_cform.specs.Forms as form
use Rattle.nz_cform.specs.Forms.{FormState, Cuts, covered_at, empty_form}
use Rattle.nz_cform.specs.Listings.{ListingState, listed_at}
use Rattle.nz_reals.specs.Exclusions.{AddsOn, HasNeighbours, IsExclusion}
use Rattle.nz_reals.specs.Stands.{HasTold, IsOf}
use Rattle.nz_reals.specs.State.{Theory}
use Rattle.nz_sat.specs.declared.clauses.Held.{Held}
use Rattle.nz_sat.specs.declared.clauses.Need.{Need}
use Rattle.nz_sat.specs.declared.clauses.Need.TheVariants.{Always, Never, Of}
use Rattle.nz_sat.specs.Sats.{SatState, AreHeld, AreSameSince, HoldsMore, added_as, held_of, held_up_to}
use Rattle.nz_search.specs.Levels.{Level, added_by_level, asserted_by_level, numbers_by_level}
use Rattle.nz_engine.specs.declared.levels.Kind.{Kind}
use Rattle.nz_engine.specs.declared.levels.Kind.TheVariants.{Asserted, Number}
use Rattle.nz_engine.specs.Levels.{IsPlaced, by_level, count_in, count_of}

-- The log, the terms that have their gates in it, the search, how many assertions have their clause, how many numbers are covered, whether terms are covered
-- for assumed literals alone, above all levels, and the atoms that the present list of work names, in their order.
pub record PreparedState : Type 0 where
  pub log : LogState
  pub form : FormState
  pub sat : SatState Theory
  pub given : ℕ
  pub numbered : ℕ
  pub above : Bool
  pub noted : List ℕ

abbrev pub nothing_prepared : Theory → PreparedState
nothing_prepared theory = record {
  log = empty_log;
  form = empty_form;
  sat = record { clauses = []; truths = []; theory = theory; seen = None };
  given = 0;
  numbered = 0;
  above = false;
  noted = [];
}

-- the clause that a term is true
abbrev pub unit_of : LogState → ℕ → List Lit
unit_of log t = lit_of log.atoms (yes t) ∷ []

-- ---- Atoms of a search

-- a term, where it is Boolean
abbrev pub boolean_term : List Node → ℕ → List ℕ
boolean_term ns t = if is_boolean_term (term_in ns t) then t ∷ [] else []

abbrev pub boolean_terms : List Node → List ℕ → List ℕ
boolean_terms ns ts = flat_map (boolean_term ns) ts

-- the numbers of the atoms of a search: those of the covered Boolean terms, and then the bounds that are listed
abbrev pub atoms_of : List Node → PreparedState → List ℕ
atoms_of ns p = map (term_place p.log.atoms) (boolean_terms ns p.form.terms.ids) ++ p.form.bounds.ids

-- Each of these atoms is among those, and each of those among these. None stands twice.
pub record AreJust (atoms ids : List ℕ) : Type 0 where
  pub each : All (Contains ids) atoms
  pub only : All (Contains atoms) ids
  pub once : StandOnce ids

-- These atoms are named too, each that isn't among those that are named behind them.
pub record Names (old more new : List ℕ) : Type 0 where
  pub joined : List ℕ
  pub behind : new ≡ old ++ joined
  pub each : All (Contains new) more
  pub only : (i : ℕ) → Contains new i → Contains old i ⊎ Contains more i
  pub once : StandOnce old → StandOnce new

-- an atom is that of a covered Boolean term, or a bound that is listed
abbrev pub IsOfForm : List Node → FormState → ℕ → Atom → Type 0
IsOfForm ns s i (Term t) = IsSome (covered_at s t) × (is_boolean_term (term_in ns t) ≡ true)
IsOfForm ns s i (AtMost b) = IsSome (listed_at s.bounds i)

-- The atom of a number is so.
pub record IsSearched (ns : List Node) (log : LogState) (s : FormState) (i : ℕ) : Type 0 where
  pub atom : Atom
  pub at : slice_get log.atoms i ≡ Some atom
  pub of : IsOfForm ns s i atom

-- each literal of these clauses is on such an atom
abbrev pub AreSearched : List Node → LogState → FormState → List Held → Type 0
AreSearched ns log s held = All (λ (h : Held). All (λ (l : Lit). IsSearched ns log s l.atom) (literals_at log h.id)) held

-- ---- What is prepared

-- The term is among what is listed with one of these terms.
pub record IsMadeOf (ns : List Node) (roots : List ℕ) (t : ℕ) : Type 0 where
  pub root : ℕ
  pub has : Contains roots root
  pub within : root < length ns
  pub part : Contains (listing_order (term_in ns root)) (term_in ns t)

-- A clause of the log may need a true literal so: always, or where the term has a truth that it is about.
abbrev pub MayNeed : LogState → ℕ → Need → Type 0
MayNeed log i Always = ⊤
MayNeed log i (Of a) = (t : ℕ) × (subject_at log i ≡ Truth t) × (slice_get log.atoms a ≡ Some (Term t))
MayNeed log i Never = ⊥

-- The search holds a row of a table, which was added.
pub record HoldsRow (log : LogState) (clauses : List Held) (i : ℕ) : Type 0 where
  pub need : Need
  pub may : MayNeed log i need
  pub has : Contains clauses (added_as need log i)

-- The search holds that a term is true, by a clause that was added, of a level below which no more than so many assertions stand.
pub record HoldsUnit (levels : List (List ℕ)) (p : PreparedState) (k t : ℕ) : Type 0 where
  pub held : Held
  pub there : Contains p.sat.clauses held
  pub need : held.need ≡ Always
  pub added : held.glue ≡ 0
  pub named : HasTerm p.log.atoms t
  pub literals : literals_at p.log held.id ≡ unit_of p.log t
  pub behind : count_in levels held.level ≤ k

-- A number is covered, at a level below which no more than so many numbers stand.
pub record IsNumbered (levels : List (List ℕ)) (p : PreparedState) (k t : ℕ) : Type 0 where
  pub level : ℕ
  pub covered : covered_at p.form t ≡ Some level
  pub behind : count_in levels level ≤ k

-- the clauses that are held are as the search saw them
abbrev pub IsSeen : PreparedState → Type 0
IsSeen p = AreSameSince p.sat.seen p.log p.sat.clauses

-- The clauses are in order over the levels of assertions. What is covered is taken, and made of roots by level: of what was added, and in a level above of
-- what is assumed. The search holds each clause of a table, and of so many assertions that each is true, and so many numbers are covered; where a term is
-- covered, all that was added in lower levels is among them. Each clause that is held is on the atoms of covered Boolean terms and on listed bounds.
pub record IsPrepared (ns : List Node) (levels : List Level) (roots : List (List ℕ)) (p : PreparedState) : Type 0 where
  pub order : IsLog ns (asserted_by_level levels) p.log
  pub covers : Covers ns p.log p.form
  pub below : (t n : ℕ) → covered_at p.form t ≡ Some n → n < length roots
  pub made : (t n : ℕ) → covered_at p.form t ≡ Some n → IsMadeOf ns (live_at roots n) t
  pub taken : (t : ℕ) → IsSome (covered_at p.form t) → IsTaken (term_in ns t)
  pub leveled : IsLeveled p.log
  pub held : AreHeld p.log p.sat.clauses
  pub seen : IsSeen p
  pub searched : AreSearched ns p.log p.form p.sat.clauses
  pub rows : (i t : ℕ) → IsRowAt p.log i t → HoldsRow p.log p.sat.clauses i
  pub units : (k t : ℕ) → k < p.given → slice_get (asserted_numbers (asserted_by_level levels)) k ≡ Some t → HoldsUnit (asserted_by_level levels) p k t
  pub numbers : (k t : ℕ) → k < p.numbered → slice_get (asserted_numbers (numbers_by_level levels)) k ≡ Some t → IsNumbered (numbers_by_level levels) p k t
  pub within : p.given ≤ count_of (asserted_by_level levels)
  pub numbers_within : p.numbered ≤ count_of (numbers_by_level levels)
  pub lower : (t : ℕ) → count_in (asserted_by_level levels) (told_level p.log t) ≤ p.given
  pub numbers_lower : (t : ℕ) → count_in (numbers_by_level levels) (told_level p.log t) ≤ p.numbered

-- The same where in a level above all others these terms may be covered; where none is, no level is needed for them.
pub record IsStanding (ns : List Node) (levels : List Level) (more : List ℕ) (p : PreparedState) : Type 0 where
  pub raised : IsPrepared ns levels (added_by_level levels ++ more ∷ []) p
  pub plain : p.above ≡ false → IsPrepared ns levels (added_by_level levels) p

-- how many terms of a kind have their clauses
abbrev pub done_of : Kind → PreparedState → ℕ
done_of Asserted p = p.given
done_of Number p = p.numbered

-- The next term of a kind is this one, in the level of this number, and all that stands below that level has its clauses.
pub record IsNext (levels : List Level) (p : PreparedState) (kind : Kind) (t n : ℕ) : Type 0 where
  pub placed : IsPlaced (by_level kind levels) (done_of kind p) t n
  pub given : count_in (asserted_by_level levels) n ≤ p.given
  pub numbered : count_in (numbers_by_level levels) n ≤ p.numbered

-- All that was added has its clauses.
pub record IsAllAdded (levels : List Level) (p : PreparedState) : Type 0 where
  pub given : count_of (asserted_by_level levels) ≡ p.given
  pub numbered : count_of (numbers_by_level levels) ≡ p.numbered

-- A term may be covered in a level above all others.
pub record IsAssumable (ns : List Node) (levels : List Level) (more : List ℕ) (t level : ℕ) (p : PreparedState) : Type 0 where
  pub last : length levels ≡ level
  pub named : Contains more t
  pub taken : IsTaken (term_in ns t)
  pub all : IsAllAdded levels p
  pub standing : IsStanding ns levels more p

-- ---- Changes

-- The clauses that were held still are, then others.
pub record HoldsAlso (log : LogState) (old new : List Held) : Type 0 where
  pub also : List Held
  pub joined : new ≡ old ++ also
  pub held : AreHeld log new

-- A term is covered, with what is listed with it, at a level that no level told is above; the search holds the clauses that were put.
pub record CoversAlso (ns : List Node) (old : PreparedState) (t level : ℕ) (new : PreparedState) : Type 0 where
  pub covers : Covers ns new.log new.form
  pub kept : Keeps old.log new.log
  pub grown : form.Grows old.form level new.form
  pub made : (u : ℕ) → covered_at old.form u ≡ None → IsSome (covered_at new.form u) → Contains (listing_order (term_in ns t)) (term_in ns u)
  pub here : IsSome (covered_at new.form t)
  pub ids : List ℕ
  pub added : AreAdded old.log ids new.log
  pub joined : new.sat.clauses ≡ old.sat.clauses ++ map (held_of new.log) ids
  pub seen : IsSeen new
  pub told : (u : ℕ) → told_level new.log u ≤ level
  pub sound : (levels : List (List ℕ)) → IsLog ns levels old.log → IsLog ns levels new.log
  pub given : new.given ≡ old.given
  pub numbered : new.numbered ≡ old.numbered

-- each bound is listed still
abbrev pub KeepsBounds : FormState → FormState → Type 0
KeepsBounds old new = (i : ℕ) → IsSome (listed_at old.bounds i) → IsSome (listed_at new.bounds i)

-- the numbers of clauses that are held
abbrev pub ids_held : List Held → List ℕ
ids_held held = map (λ (h : Held). h.id) held

-- Terms may be covered too, and clauses held. Atoms keep their numbers and clauses their literals, and what is noted stays, and the theory.
pub record Extends (old new : PreparedState) : Type 0 where
  pub noted : new.noted ≡ old.noted
  pub theory : new.sat.theory ≡ old.sat.theory
  pub given : new.given ≡ old.given
  pub numbered : new.numbered ≡ old.numbered
  pub kept : Keeps old.log new.log
  pub held : (id : ℕ) → Contains (ids_held old.sat.clauses) id → Contains (ids_held new.sat.clauses) id
  pub covered : (t : ℕ) → IsSome (covered_at old.form t) → IsSome (covered_at new.form t)
  pub bounds : KeepsBounds old.form new.form

-- Clauses for neighbouring bounds on these atoms are put and held, so that each two have theirs, unless their sum leaves the numbers. They need no true
-- literal, since arithmetic alone says them.
pub record Excludes (log : LogState) (old : SatState Theory) (atoms : List ℕ) (log' : LogState) (new : SatState Theory) : Type 0 where
  pub theory : new.theory ≡ old.theory
  pub adds : AddsOn atoms log log'
  pub ids : List ℕ
  pub exclusions : All (IsExclusion log' atoms) ids
  pub joined : new.clauses ≡ old.clauses ++ map (held_of log') ids
  pub seen : AreSameSince new.seen log' new.clauses
  pub neighbours : HasNeighbours new.theory log' atoms (ids_held new.clauses)

-- When the search began, and the theory had been told nothing, each two neighbouring bounds of one form had their clause among those held, unless their sum
-- leaves the numbers. What is held besides was learned since.
pub record BeganExcluded (ns : List Node) (new : PreparedState) : Type 0 where
  pub theory : Theory
  pub untold : HasTold theory []
  pub log : LogState
  pub of : IsOf theory log.atoms new.noted
  pub held : List Held
  pub neighbours : HasNeighbours theory log new.noted (ids_held held)
  pub grown : Grows log new.log
  pub learned : HoldsMore new.log held new.sat.clauses

-- a literal is on no bound, or on one that is listed
abbrev pub IsListedIn : LogState → ListingState → Lit → Type 0
IsListedIn log bounds l = (b : Bound) → slice_get log.atoms l.atom ≡ Some (AtMost b) → IsSome (listed_at bounds l.atom)

-- each bound that the clause of a number has is listed
abbrev pub HasListedBounds : LogState → ListingState → ℕ → Type 0
HasListedBounds log bounds id = All (IsListedIn log bounds) (literals_at log id)

-- Of these clauses those are left of which each bound is listed, and perhaps others; of none that is left was each listed before and isn't now.
pub record Forgets (log : LogState) (before after : ListingState) (old new : List Held) : Type 0 where
  pub only : All (Contains old) new
  pub stays : (h : Held) → Contains old h → HasListedBounds log after h.id → Contains new h
  pub listed : All (λ (h : Held). HasListedBounds log before h.id → HasListedBounds log after h.id) new

-- What is above a level is taken back, and clauses over bounds that are listed no more are forgotten. The counts are no more than what stands in these
-- levels. The theory stays.
pub record CutsTo (old : PreparedState) (level : ℕ) (levels : List Level) (new : PreparedState) : Type 0 where
  pub log : Drops old.log level new.log
  pub sound : (ns : List Node) (levels : List (List ℕ)) → IsLog ns levels old.log → IsLog ns (take (suc level) levels) new.log
  pub form : Cuts old.form level new.form
  pub clauses : Forgets new.log old.form.bounds new.form.bounds (held_up_to level old.sat.clauses) new.sat.clauses
  pub seen : new.sat.seen ≡ old.sat.seen
  pub theory : new.sat.theory ≡ old.sat.theory
  pub given : new.given ≡ min old.given (count_of (asserted_by_level levels))
  pub numbered : new.numbered ≡ min old.numbered (count_of (numbers_by_level levels))
  pub above : new.above ≡ false
