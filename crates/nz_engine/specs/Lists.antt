-- From where an engine may go on with a list of work.
use Rattle.std.specs.Prelude.{◌≡◌, List, [], Contains}
use Rattle.nz_spec.specs.search.Legal.{AreFew, AreLegal}
use Rattle.nz_spec.specs.search.Search.{Task, terms_known}
use Rattle.nz_spec.specs.search.Work.{WorkList}
use Rattle.nz_spec.specs.terms.Table.{Node}
use Rattle.nz_spec.specs.terms.Term as spec
use Rattle.nz_term.specs.declared.term_lits.TermLit.{TermLit}
use Rattle.nz_search.specs.declared.note.Note.{Note}
use Rattle.nz_search.specs.Asked.{MayCheck}
use Rattle.nz_search.specs.Levels.{Level}
use Rattle.nz_search.specs.Notes.{AreNotedWithin, noted_list}
use Rattle.nz_search.specs.Standing.{search_after}
use Rattle.nz_engine.specs.declared.check.Retained.{Retained}
use Rattle.nz_engine.specs.Checking.{IsFrom, IsUnderWay, without_goals}
use Rattle.nz_engine.specs.Engines.{Begins, EngineState, IsKept, prepared_of}

-- From where a list leads over a table, which was asked so, a check may go on with what is kept: the list has no lines, and a search may begin with the
-- theory; or it is that of the last checks, over their table. Then it leads there without the goals, too: no check of it has one.
pub data StandsAt (e : EngineState) (ns : List Node) (q : Task) (work : WorkList Note) : Type 0 where
  at_start : work.lines ≡ [] → Begins e q.earlier → StandsAt e ns q work
  on_way : e.table ≡ ns → IsUnderWay ns e.levels q work e.prepared → IsUnderWay ns e.levels (without_goals q) work e.prepared → StandsAt e ns q work

-- The check may be made of the list, from where it leads, with what is kept over the levels; over the table, where the list is under way.
pub record MayGoOnFrom (ns : List Node) (levels : List Level) (assumed : List TermLit) (q : Task) (work : WorkList Note) (k : Retained) : Type 0 where
  pub asked : MayCheck ns levels assumed q work
  pub from : IsFrom ns levels q work (prepared_of k)
  pub alone : IsFrom ns levels (without_goals q) work (prepared_of k)
  pub kept : (work.lines ≡ [] → ⊥) → IsKept ns levels k

pub starts_at : (e : EngineState) (ns : List Node) (q : Task) (work : WorkList Note) → Begins e q.earlier → work.lines ≡ [] → StandsAt e ns q work
starts_at e ns q work begins none = at_start none begins

-- ---- Laws

-- A list with which an engine may go on is legal where it is few, and where it has no goal a later one may begin.
pub record EnginesStand : Type 0 where
  pub legal : (e : EngineState) (ns : List Node) (q : Task) (work : WorkList Note) → StandsAt e ns q work → AreFew q (search_after ns work) → AreLegal q (noted_list ns work).lines
  pub begins : (e : EngineState) (ns : List Node) (q : Task) (us : List spec.Term) (work : WorkList Note) → StandsAt e ns q work → ((t : spec.Term) → Contains (terms_known q) t → Contains us t) → Begins e us
  pub within : (e : EngineState) (ns : List Node) (q : Task) (work : WorkList Note) → StandsAt e ns q work → AreNotedWithin ns work.lines
