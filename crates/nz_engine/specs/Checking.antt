-- A check: its atoms, its answer, its work, and where it stopped.
use Rattle.std.specs.Prelude.{◌≡◌, ◌⊎◌, ℕ, ◌<◌, ◌≤◌, ◌++◌, suc, Bool, true, List, [], ◌∷◌, length, All, Contains, Option, Some, None, IsSome, if◌then◌else◌, flat_map, map, option_map, slice_get, slice_index_or, take, IfErr, OnOk, Result, ⊤}
use Rattle.std.specs.declared.vec.Vec.{Vec}
use Rattle.std.specs.declared.alloc.Global.{Global}
use Rattle.nz_spec.specs.terms.Term as spec_term
use Rattle.nz_spec.specs.terms.Term.{Head, constant, Value, is_bool, truth}
use Rattle.nz_spec.specs.terms.Table.{Node, IsTable, term_in, assignment_by}
use Rattle.nz_spec.specs.simplex.Bland.{Point}
use Rattle.nz_spec.specs.search.Decide.{asserted_numbers, asserted_terms, AreModelValues}
use Rattle.nz_spec.specs.terms.Form as form
use Rattle.nz_spec.specs.clauses.Literal as spec
use Rattle.nz_spec.specs.clauses.Literal.{AreTrueLiterals, StandOnce}
use Rattle.nz_spec.specs.terms.FormOf.{number_in}
use Rattle.nz_spec.specs.terms.Model.{IsUnsatisfiable}
use Rattle.nz_spec.specs.search.Search.{Task, Search, at_first, no_point, terms_known}
use Rattle.nz_spec.specs.search.Atoms.{IsTabled, IsTruth}
use Rattle.nz_spec.specs.search.Legal.{Lead}
use Rattle.nz_spec.specs.search.Places.{IsStoppedLegally}
use Rattle.nz_spec.specs.terms.Taken.{IsTakenBoolean}
use Rattle.nz_spec.specs.search.Work.{WorkLine, NoteLine, WorkList, unit_count, with_line}
use Rattle.nz_search.specs.declared.decide.Verdict.{Verdict}
use Rattle.nz_search.specs.declared.decide.Verdict.TheVariants.{Sat, Unsat}
use Rattle.nz_log.specs.declared.atoms.Atom as log
use Rattle.nz_log.specs.declared.atoms.Atom.TheVariants.{Term, AtMost}
use Rattle.nz_log.specs.declared.lits.Lit.{Lit}
use Rattle.nz_place.specs.declared.place.Place.{Place}
use Rattle.nz_place.specs.declared.place.Site.TheVariants as sites
use Rattle.nz_search.specs.declared.stop.Stop.{Stop}
use Rattle.nz_search.specs.declared.stop.Stop.TheVariants.{Wide, Spent, Memory}
use Rattle.nz_term.specs.declared.term_lits.TermLit.{TermLit}
use Rattle.nz_log.specs.Atoms.{AreAtoms, HasTerm, lits_of, term_place}
use Rattle.nz_log.specs.Logs.{IsLive, LogState, literals_at}
use Rattle.nz_place.specs.Places.{IsSiteWithin, place_of}
use Rattle.nz_search.specs.Standing.{IsStoppedAt, IsWanting, Stands, search_after}
use Rattle.nz_term.specs.TermLits.{literal_of, AreNegations}
use Rattle.nz_search.specs.declared.note.Note.{Note}
use Rattle.nz_search.specs.declared.note.Note.TheVariants as notes
use Rattle.nz_search.specs.Levels.{Level, asserted_by_level}
use Rattle.nz_search.specs.Notes.{noted_list, AreNotedWithin}
use Rattle.nz_cform.specs.Covering.{Keeps}
use Rattle.nz_cform.specs.Forms.{covered_at}
use Rattle.nz_cform.specs.Listings.{IsListing}
use Rattle.nz_cform.specs.Stops.{IsStopIn}
use Rattle.nz_reals.specs.Chosen.{HasWorths}
use Rattle.nz_reals.specs.Constants.{is_marked}
use Rattle.nz_reals.specs.Exclusions.{HasNeighbours}
use Rattle.nz_reals.specs.Joins.{IsNumberIn, IsStoppedJoining}
use Rattle.nz_reals.specs.Limits.{IsPlaceOfValues}
use Rattle.nz_reals.specs.Stands.{HasTold, IsAt, IsFeasible, IsOf, IsOver}
use Rattle.nz_reals.specs.Starts.{MayRestart}
use Rattle.nz_reals.specs.State.{Theory}
use Rattle.nz_reals.specs.Sums.{AreNonzero}
use Rattle.nz_sat.specs.Numbers.{AreNotedIn, IsAtomAt, atom_literal, numbered}
use Rattle.nz_sat.specs.declared.clauses.Held.{Held}
use Rattle.nz_sat.specs.Sats.{HoldsLearned, IsSatisfied, IsTheoryMet, truth_of, TellsTrue}
use Rattle.nz_engine.specs.Engines.{literals_in}
use Rattle.nz_engine.specs.Preparing.{AreJust, PreparedState, IsAllAdded, IsSearched, IsStanding, atoms_of, boolean_terms, ids_held}
use Rattle.nz_engine.specs.SearchLaws.{SearchLaws}

-- the terms that the literals name
abbrev pub terms_named : List TermLit → List ℕ
terms_named ls = map (λ (l : TermLit). l.term) ls

-- checks take the terms of these numbers, which are Boolean
abbrev pub AreTakenAt : List Node → List ℕ → Type 0
AreTakenAt ns ts = All (λ t. IsTakenBoolean (term_in ns t)) ts

-- the terms that the literals name are covered
abbrev pub AreCovered : PreparedState → List TermLit → Type 0
AreCovered p ls = All (λ (l : TermLit). IsSome (covered_at p.form l.term)) ls

-- The covered Boolean terms have their atoms, and so have the terms that the literals name.
pub record HaveAtoms (ns : List Node) (p : PreparedState) (ls : List TermLit) : Type 0 where
  pub covered : All (HasTerm p.log.atoms) (boolean_terms ns p.form.terms.ids)
  pub named : All (λ (l : TermLit). HasTerm p.log.atoms l.term) ls

-- What a search is handed: the atoms of the covered Boolean terms and the bounds, each once, in the order in which the list names them, and the literals on
-- atoms.
pub record AreHanded (ns : List Node) (p : PreparedState) (ls : List TermLit) (atoms : List ℕ) (literals : List Lit) : Type 0 where
  pub terms : IsListing p.form.terms
  pub bounds : IsListing p.form.bounds
  pub noted : atoms ≡ p.noted
  pub numbers : AreJust (atoms_of ns p) atoms
  pub on_atoms : literals ≡ lits_of p.log.atoms ls
  pub there : HaveAtoms ns p ls

-- A search may begin: all that was added has its clauses, and the terms of the assumed literals are covered; others may be that were assumed before. The theory
-- has forms of the table alone.
pub record IsPosed (ns : List Node) (levels : List Level) (assumed : List TermLit) (p : PreparedState) : Type 0 where
  pub table : IsTable ns
  pub over : IsOver p.sat.theory ns
  pub more : List ℕ
  pub standing : IsStanding ns levels more p
  pub all : IsAllAdded levels p
  pub assumed_covered : AreCovered p assumed
  pub taken : AreTakenAt ns (asserted_numbers (asserted_by_level levels))
  pub assumed_taken : AreTakenAt ns (terms_named assumed)
  pub assumed_within : All (λ t. t < length ns) (terms_named assumed)

-- These atoms may be named before others: each is one of a search over what is prepared, and none stands twice.
pub record MayBeNamed (ns : List Node) (p : PreparedState) (ids : List ℕ) : Type 0 where
  pub searched : All (IsSearched ns p.log p.form) ids
  pub once : StandOnce ids

-- Where atoms were named behind the first so many, a search over these and these literals may begin, over the levels over which it might have before.
pub record IsReady (ns : List Node) (assumed : List TermLit) (first : ℕ) (old p : PreparedState) (ids : List ℕ) (lits : List Lit) : Type 0 where
  pub handed : AreHanded ns p assumed ids lits
  pub joined : List ℕ
  pub behind : ids ≡ take first old.noted ++ joined
  pub kept : Keeps old.log p.log
  pub held : (id : ℕ) → Contains (ids_held old.sat.clauses) id → Contains (ids_held p.sat.clauses) id
  pub form : p.form ≡ old.form
  pub posed : (levels : List Level) → IsPosed ns levels assumed old → IsPosed ns levels assumed p
  pub some : (levels : List Level) × IsPosed ns levels assumed p

-- ---- A search of terms and their tables

-- an atom of what is listed: that a Boolean term is true, or a bound of the tables
abbrev pub IsPlainAtom : Task → spec.Literal → Type 0
IsPlainAtom q l = IsTruth q.listed l ⊎ IsTabled q.numbering q.listed l

-- From one search to another, all atoms are of what is listed, one search more began at most, and nothing was found or branched on.
pub record IsPlain (q : Task) (old new : Search) : Type 0 where
  pub atoms : All (IsPlainAtom q) new.atoms
  pub begun : new.begun ≤ suc old.begun
  pub found : new.found ≡ old.found
  pub branches : new.branches ≡ old.branches

-- The terms that are covered are among these.
abbrev pub AreCoveredAmong : List Node → PreparedState → List spec_term.Term → Type 0
AreCoveredAmong ns p ts = (i : ℕ) → IsSome (covered_at p.form i) → Contains ts (term_in ns i)

-- A clause that is held is on these atoms, and has these literals by their numbers.
pub record IsHeldAs (log : LogState) (atoms : List ℕ) (held : List Held) (c : List (ℕ × Bool)) : Type 0 where
  pub id : ℕ
  pub has : Contains (ids_held held) id
  pub live : IsLive log id
  pub on : All (λ (l : Lit). Contains atoms l.atom) (literals_at log id)
  pub is : map (numbered atoms) (literals_at log id) ≡ c

-- each clause that a list says was learned is so
abbrev pub HoldsNamed : LogState → List ℕ → List Held → WorkList Note → Type 0
HoldsNamed log atoms held work = (ns : List Node) → All (IsHeldAs log atoms held) (search_after ns work).learned

-- The list was asked so and leads, over the table, to where the theory stands. It names these atoms, each covered term is of what it was asked, and each
-- clause that it learned is held. A search began in it.
pub record IsUnderWay (ns : List Node) (levels : List Level) (q : Task) (work : WorkList Note) (p : PreparedState) : Type 0 where
  pub noted : AreNotedIn p.log.atoms work.lines p.noted
  pub learned : HoldsNamed p.log p.noted p.sat.clauses work
  pub of : IsOf p.sat.theory p.log.atoms p.noted
  pub named : All (IsSearched ns p.log p.form) p.noted
  pub once : StandOnce p.noted
  pub all : IsAllAdded levels p
  pub within : AreNotedWithin ns work.lines
  pub units : unit_count work.lines ≤ work.limit
  pub covered : AreCoveredAmong ns p q.listed
  pub atoms : All (IsPlainAtom q) (search_after ns work).atoms
  pub begun : 0 < (search_after ns work).begun
  pub leads : Stands (IsAt p.sat.theory ns) ns q work

-- Such a list has no lines, and a search may begin with the theory, or it is under way.
pub data IsFrom (ns : List Node) (levels : List Level) (q : Task) (work : WorkList Note) (p : PreparedState) : Type 0 where
  at_start : work.lines ≡ [] → MayRestart p.sat.theory ns q.earlier → IsFrom ns levels q work p
  on_way : IsUnderWay ns levels q work p → IsFrom ns levels q work p

-- those of these literals that are on terms
abbrev pub those_on_terms : List spec.Literal → List spec.Literal
those_on_terms [] = []
those_on_terms (spec.term_literal t sign ∷ ls) = spec.term_literal t sign ∷ those_on_terms ls
those_on_terms (spec.is_at_most ps b ∷ ls) = those_on_terms ls
those_on_terms (spec.is_below ps b ∷ ls) = those_on_terms ls

-- the task without its goals and those before, of what it assumes of terms alone
abbrev pub without_goals : Task → Task
without_goals q = record q { assumed = those_on_terms q.assumed; goals = []; earlier_goals = [] }

-- A search under these literals, which the task assumes, may begin in the list, which was asked so.
pub record MaySearch (ns : List Node) (levels : List Level) (assumed : List TermLit) (q : Task) (work : WorkList Note) (p : PreparedState) : Type 0 where
  pub posed : IsPosed ns levels assumed p
  pub asserted : q.asserted ≡ asserted_terms ns (asserted_by_level levels)
  pub numbering : q.numbering ≡ number_in ns
  pub under : All (Contains q.assumed) (map (literal_of ns) assumed)
  pub covered : AreCoveredAmong ns p q.listed
  pub from : IsFrom ns levels q work p

-- No search began yet, and nothing was decided, learned or told.
pub record IsUnbegun (s : Search) : Type 0 where
  pub begun : s.begun ≡ 0
  pub decided : s.decided ≡ []
  pub learned : s.learned ≡ []
  pub told : s.told ≡ []

-- A search began that goes under these literals, in which nothing was decided or told.
pub record HasGoneUnder (ls : List spec.Literal) (s : Search) : Type 0 where
  pub begun : 0 < s.begun
  pub under : s.under ≡ ls
  pub decided : s.decided ≡ []
  pub told : s.told ≡ []

-- Two searches are the same but for atoms and forms.
pub record IsSameBut (old new : Search) : Type 0 where
  pub learned : new.learned ≡ old.learned
  pub begun : new.begun ≡ old.begun
  pub branches : new.branches ≡ old.branches
  pub found : new.found ≡ old.found
  pub under : new.under ≡ old.under
  pub decided : new.decided ≡ old.decided
  pub told : new.told ≡ old.told

-- ---- Notes

-- the note of an atom
abbrev pub note_of : log.Atom → Note
note_of (Term t) = notes.Atom t
note_of (AtMost b) = notes.Bound b

-- the atom of a number; a number past the end stands for the first term
abbrev pub atom_at : List log.Atom → ℕ → log.Atom
atom_at all i = slice_index_or all i (Term 0)

abbrev pub atom_lines : List log.Atom → List ℕ → List (WorkLine Note)
atom_lines all ids = map (λ (i : ℕ). NoteLine (note_of (atom_at all i))) ids

abbrev pub form_lines : List ℕ → List (WorkLine Note)
form_lines ks = map (λ (k : ℕ). NoteLine (notes.Form k)) ks

-- the list with notes of the first so many of these atoms more
pub record NotesFirst (all : List log.Atom) (ids : List ℕ) (old new : WorkList Note) : Type 0 where
  pub count : ℕ
  pub noted : new ≡ record old { lines = old.lines ++ atom_lines all (take count ids) }

-- the list with notes of forms more
pub record NotesForms (old new : WorkList Note) : Type 0 where
  pub forms : List ℕ
  pub noted : new ≡ record old { lines = old.lines ++ form_lines forms }

-- What lines before a search name is in each table that has what the theory and these atoms name. They have no unit.
pub record HasBegun (t : Theory) (all : List log.Atom) (ids : List ℕ) (old new : WorkList Note) : Type 0 where
  pub within : (ns : List Node) → IsOver t ns → All (IsAtomAt ns all) ids → AreNotedWithin ns new.lines
  pub units : unit_count new.lines ≡ 0
  pub limit : new.limit ≡ old.limit

-- The list names these atoms, in this order, and no search began yet.
pub record NotesAll (all : List log.Atom) (ids : List ℕ) (work : WorkList Note) : Type 0 where
  pub noted : AreNotedIn all work.lines ids
  pub unbegun : (ns : List Node) → IsUnbegun (search_after ns work)

-- the list with the note more that a search goes under these literals
pub record NotesUnder (ls : List TermLit) (old new : WorkList Note) : Type 0 where
  pub literals : Vec TermLit Global
  pub items : literals.items ≡ ls
  pub line : new ≡ with_line old (NoteLine (notes.Under literals))

-- The list names these atoms, in this order, and a search began that goes under these literals.
pub record GoesUnder (all : List log.Atom) (ids : List ℕ) (ls : List TermLit) (work : WorkList Note) : Type 0 where
  pub noted : AreNotedIn all work.lines ids
  pub under : (ns : List Node) → HasGoneUnder (map (literal_of ns) ls) (search_after ns work)

-- the list knows each of these atoms by its place
abbrev pub AreNumbered : List Node → List log.Atom → List ℕ → WorkList Note → Type 0
AreNumbered ns all ids work = (k i : ℕ) → slice_get ids k ≡ Some i → IsNumberIn ns all i k work

-- ---- The theory of a search

-- a sum that is bounded has no coefficient 0
abbrev pub IsNonzero : log.Atom → Type 0
IsNonzero (Term t) = ⊤
IsNonzero (AtMost b) = AreNonzero b.sides.parts

-- The atom of a number is there, over the table, and a theory may learn of it.
pub record IsLearnable (ns : List Node) (all : List log.Atom) (i : ℕ) : Type 0 where
  pub within : IsAtomAt ns all i
  pub nonzero : IsNonzero (atom_at all i)

-- some table has what the theory and these atoms name
pub record AreLearnable (t : Theory) (all : List log.Atom) (ids : List ℕ) : Type 0 where
  pub table : List Node
  pub over : IsOver t table
  pub each : All (IsLearnable table all) ids

-- A search is asked over these atoms, which it may name, each once, in the table. It may begin with the theory, where it stands.
pub record MayBegin (t : Theory) (ns : List Node) (q : Task) (all : List log.Atom) (ids : List ℕ) : Type 0 where
  pub over : IsOver t ns
  pub numbering : q.numbering ≡ number_in ns
  pub rest : MayRestart t ns (terms_known q)
  pub within : All (IsAtomAt ns all) ids
  pub nameable : All (λ i. IsPlainAtom q (atom_literal ns all i)) ids
  pub once : StandOnce ids
  pub atoms : AreAtoms all

-- what is known of a list where a stop came: at the row of a form that joins, in a search, or for want of a unit or of memory
abbrev pub EndsWith : List Node → Task → WorkList Note → Stop → Type 0
EndsWith ns q work (Wide place) = IsStoppedJoining ns q work place ⊎ IsStoppedAt ns q work place
EndsWith ns q work Spent = IsWanting ns q work
EndsWith ns q work Memory = (point : Point) × Lead q at_first no_point (noted_list ns work).lines point

-- What comes of a theory that begins anew and learns of these atoms, where the list had no line.
pub record BeginsAnew (all : List log.Atom) (ids : List ℕ) (old new : Theory) (before after : WorkList Note) (result : Result (Unit {0}) Stop) : Type 0 where
  pub untold : OnOk result (HasTold new [])
  pub of : OnOk result (IsOf new all ids)
  pub over : OnOk result ((ns : List Node) → IsOver old ns → All (IsAtomAt ns all) ids → IsOver new ns)
  pub begun : HasBegun old all ids before after
  pub noted : OnOk result (NotesAll all ids after)
  pub stands : OnOk result ((ns : List Node) (q : Task) → MayBegin old ns q all ids → Stands (IsAt new ns) ns q after)
  pub stopped : IfErr result (λ e. (ns : List Node) (q : Task) → MayBegin old ns q all ids → EndsWith ns q after e)
  pub plain : (ns : List Node) (q : Task) → MayBegin old ns q all ids → IsPlain q at_first (search_after ns after)
  pub unspent : IfErr result (λ e. e ≡ Spent → ⊥)

-- A list goes on that names the first so many of these atoms: the others may be named, each once.
pub record MayLearnMore (ns : List Node) (q : Task) (all : List log.Atom) (ids : List ℕ) (from : ℕ) (work : WorkList Note) : Type 0 where
  pub table : IsTable ns
  pub numbering : q.numbering ≡ number_in ns
  pub within : All (IsAtomAt ns all) ids
  pub nameable : All (λ i. IsPlainAtom q (atom_literal ns all i)) ids
  pub once : StandOnce ids
  pub atoms : AreAtoms all
  pub named : AreNotedIn all work.lines (take from ids)

-- What comes of a theory that learns of the others, which are noted.
pub record LearnsMore (all : List log.Atom) (ids : List ℕ) (from : ℕ) (old new : Theory) (before after : WorkList Note) (result : Result (Unit {0}) Stop) : Type 0 where
  pub untold : OnOk result (HasTold new [])
  pub of : OnOk result (IsOf new all ids)
  pub over : OnOk result ((ns : List Node) → IsOver old ns → All (IsAtomAt ns all) ids → IsOver new ns)
  pub within : (ns : List Node) → All (IsAtomAt ns all) ids → AreNotedWithin ns before.lines → AreNotedWithin ns after.lines
  pub units : unit_count after.lines ≡ unit_count before.lines
  pub limit : after.limit ≡ before.limit
  pub noted : OnOk result (AreNotedIn all before.lines (take from ids) → AreNotedIn all after.lines ids)
  pub same : (ns : List Node) → IsSameBut (search_after ns before) (search_after ns after)
  pub stands : OnOk result ((ns : List Node) (q : Task) → MayLearnMore ns q all ids from before → Stands (IsAt old ns) ns q before → Stands (IsAt new ns) ns q after)
  pub stopped : IfErr result (λ e. (ns : List Node) (q : Task) → MayLearnMore ns q all ids from before → Stands (IsAt old ns) ns q before → EndsWith ns q after e)
  pub plain : (ns : List Node) (q : Task) → MayLearnMore ns q all ids from before → All (IsPlainAtom q) (search_after ns before).atoms → All (IsPlainAtom q) (search_after ns after).atoms
  pub unspent : IfErr result (λ e. e ≡ Spent → ⊥)

-- All has been done that comes before a search over these atoms and literals, which may begin over the levels over which it might have before: the theory has
-- learned of the atoms, of which the list tells, and stands where the list leads, which goes under what is assumed.
pub record IsBegun (ns : List Node) (assumed : List TermLit) (first : ℕ) (old p : PreparedState) (ids : List ℕ) (lits : List Lit) (before work : WorkList Note) : Type 0 where
  pub laws : SearchLaws
  pub ready : IsReady ns assumed first old p ids lits
  pub of : IsOf p.sat.theory p.log.atoms ids
  pub untold : HasTold p.sat.theory []
  pub notes : GoesUnder p.log.atoms ids assumed work
  pub learned : HoldsLearned p.log ids p.sat.clauses work
  pub neighbours : HasNeighbours p.sat.theory p.log ids (ids_held p.sat.clauses)
  pub stands : (levels : List Level) (q : Task) → MaySearch ns levels assumed q before old → Stands (IsAt p.sat.theory ns) ns q work
  pub plain : (levels : List Level) (q : Task) → MaySearch ns levels assumed q before old → IsPlain q (search_after ns before) (search_after ns work)

-- an operation of a term that this one is made of left the numbers
pub record IsTermPlace (ns : List Node) (root : spec_term.Term) (place : Place) : Type 0 where
  pub term : ℕ
  pub site : place.site ≡ sites.Term term
  pub stop : IsStopIn ns root place.wide term

-- why the clauses of a term weren't put: that, or want of memory
abbrev pub IsTermStop : List Node → spec_term.Term → Stop → Type 0
IsTermStop ns root (Wide place) = IsTermPlace ns root place
IsTermStop ns root Spent = ⊥
IsTermStop ns root Memory = ⊤

-- why those of some terms weren't
abbrev pub IsRootStop : List Node → List ℕ → Stop → Type 0
IsRootStop ns roots (Wide place) = (root : ℕ) × Contains roots root × IsTermPlace ns (term_in ns root) place
IsRootStop ns roots Spent = ⊥
IsRootStop ns roots Memory = ⊤

-- ---- What was found

-- There are truths under which each clause that needs one has a true literal, and each assumed literal is true, and a theory that was told the bounds that are true is feasible.
pub record HasFound (ns : List Node) (assumed : List TermLit) (p : PreparedState) : Type 0 where
  pub handed : AreHanded ns p assumed p.noted (lits_of p.log.atoms assumed)
  pub truths : IsSatisfied p.log p.sat (lits_of p.log.atoms assumed)
  pub bounds : IsTheoryMet p.log (HasTold p.sat.theory) (IsFeasible p.sat.theory) p.sat p.noted
  pub of : IsOf p.sat.theory p.log.atoms p.noted
  pub forms : List (List form.Part)
  pub told : List spec.Literal
  pub point : Point
  pub at : IsAt p.sat.theory ns forms told point

-- The list goes under the assumed literals, and tells each bound that is true.
pub record IsAllTold (ns : List Node) (assumed : List TermLit) (p : PreparedState) (s : Search) : Type 0 where
  pub under : s.under ≡ map (literal_of ns) assumed
  pub tells : TellsTrue ns p.log p.sat p.noted s

-- ---- Truths

-- a term with its truth, where it is a constant of sort Bool that has one
abbrev pub value_as : ℕ → Option Head → Option Bool → List (ℕ × Value)
value_as t (Some (constant c)) (Some b) = if is_bool c.sort then (t, truth b) ∷ [] else []
value_as t h o = []

-- the truth of a term is that of its atom, where it has one
abbrev pub truth_in : PreparedState → ℕ → Option Bool
truth_in p t = elim (slice_get p.log.atoms (term_place p.log.atoms t)) [ None ↦ None | Some a ↦ truth_of p.sat (term_place p.log.atoms t) ]

abbrev pub value_at : List Node → PreparedState → ℕ → List (ℕ × Value)
value_at ns p t = value_as t (option_map (λ (n : Node). n.head) (slice_get ns t)) (truth_in p t)

-- ---- Work

-- What the list names is in the table, its limit is as before, and it has no more units.
pub record Works (ns : List Node) (old new : WorkList Note) : Type 0 where
  pub named : AreNotedWithin ns new.lines
  pub limit : new.limit ≡ old.limit
  pub within : unit_count new.lines ≤ new.limit

-- An operation left the numbers where a search of these lines may stop, in the table.
pub record IsStop (ns : List Node) (q : Task) (work : WorkList Note) (place : Place) : Type 0 where
  pub within : IsSiteWithin ns place.site
  pub legally : IsStoppedLegally q (noted_list ns work) (place_of ns place)

-- an operation of the values of these terms' constants left the numbers, wherever the theory stands
abbrev pub IsStopOf : List Node → List spec_term.Term → Theory → Place → Type 0
IsStopOf ns ts t place = (fs : List (List form.Part)) (ls : List spec.Literal) (x : Point) → IsAt t ns fs ls x → IsPlaceOfValues ns ts fs ls x place

-- The marked numbers are these.
pub record AreMarksOf (ts : List ℕ) (marks : List Bool) : Type 0 where
  pub right : (i : ℕ) → is_marked marks i ≡ true → Contains ts i
  pub all : (i : ℕ) → Contains ts i → is_marked marks i ≡ true

-- Behind the truths stand values of the covered constants, by the worths of a theory.
pub record HasCoveredWorths (ns : List Node) (p : PreparedState) (ps : List (ℕ × Value)) : Type 0 where
  pub marks : List Bool
  pub marked : AreMarksOf p.form.terms.ids marks
  pub worths : HasWorths p.sat.theory ns marks (flat_map (value_at ns p) p.form.terms.ids) ps

-- ---- Answers

-- The values make what is asserted and assumed true; or no assignment does, and the clause is one of negations of assumed literals.
abbrev pub IsAnswer : List Node → List Level → List TermLit → LogState → Verdict → Type 0
IsAnswer ns levels assumed log (Sat ps) =
    AreModelValues ns (asserted_terms ns (asserted_by_level levels)) [] ps × AreTrueLiterals (assignment_by ns ps) (map (literal_of ns) assumed)
IsAnswer ns levels assumed log (Unsat id) =
    IsUnsatisfiable (asserted_terms ns (asserted_by_level levels)) (map (literal_of ns) assumed) × AreNegations assumed (literals_in log id)
