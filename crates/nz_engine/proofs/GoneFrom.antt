-- From where an engine may go on with a list, a check may be made with what it keeps.
use Rattle.std.proofs.Common.{◌≡◌, ◌⊎◌, inl, inr, List, [], sym, subst}
use Rattle.std.proofs.lemmas.List.Elements.{Contains-append_left}
use Rattle.nz_spec.specs.search.Decide.{IsFrontOfTable}
use Rattle.nz_spec.specs.search.Search.{Task, no_point, terms_known}
use Rattle.nz_spec.specs.search.Legal.{AreFew, AreLegal}
use Rattle.nz_spec.specs.search.Work.{WorkList}
use Rattle.nz_spec.specs.terms.Table.{Node}
use Rattle.nz_search.specs.declared.note.Note.{Note}
use Rattle.nz_term.specs.declared.term_lits.TermLit.{TermLit}
use Rattle.nz_search.specs.Asked.{ChecksMayStart, MayCheck}
use Rattle.nz_search.specs.Notes.{AreNotedWithin, noted_list}
use Rattle.nz_search.specs.Standing.{search_after}
use Rattle.nz_search.specs.Verdicts.{task_in}
use Rattle.nz_reals.specs.Starts.{MayRestart, TheoriesRestart}
use Rattle.nz_search.specs.Levels.{Level}
use Rattle.nz_engine.specs.declared.check.Retained.{Retained}
use Rattle.nz_engine.specs.Checking.{IsUnderWay, without_goals}
use Rattle.nz_engine.specs.Checking as from
use Rattle.nz_engine.specs.Engines.{Begins, EngineState, IsKept, prepared_of, theory_of}
use Rattle.nz_engine.specs.Lists.{EnginesStand, MayGoOnFrom, StandsAt, at_start, on_way}
use Rattle.nz_engine.proofs.KeptState.{kept_rest}
use Rattle.nz_engine.proofs.KeptTheory.{begins_after, rests_here}
use Rattle.nz_engine.proofs.CheckEnds.{lead_none}

module _ (laws : TheoriesRestart) (front ns : List Node) (levels : List Level) (assumed : List TermLit) (k taken : Retained) where
  abbrev e : EngineState
  e = record { levels = levels; table = front; prepared = prepared_of k }

  module _ (q : Task) (work : WorkList Note) (is : IsFrontOfTable front ns) (h : IsKept front levels k) (same : taken ≡ k) (asked : MayCheck ns levels assumed q work) where
    started : work.lines ≡ [] → MayRestart (theory_of taken) ns q.earlier → MayGoOnFrom ns levels assumed q work taken
    started none rest = record { asked = asked; from = from.at_start none rest; alone = from.at_start none rest; kept = λ some. absurd (some none) }

    pub stands_from : StandsAt e ns q work → MayGoOnFrom ns levels assumed q work taken
    stands_from (at_start none rest) = started none (rests_here laws front ns levels k taken is h same q.earlier rest)
    stands_from (on_way table u v) =
        record {
          asked = asked;
          from = from.on_way (subst (λ (x : Retained). IsUnderWay ns levels q work (prepared_of x)) (sym same) u);
          alone = from.on_way (subst (λ (x : Retained). IsUnderWay ns levels (without_goals q) work (prepared_of x)) (sym same) v);
          kept = λ some. subst (IsKept ns levels) (sym same) (subst (λ (xs : List Node). IsKept xs levels k) table h);
        }

  pub goes_from : ChecksMayStart → (work : WorkList Note) → IsFrontOfTable front ns → IsKept front levels k → taken ≡ k
      → (work.lines ≡ []) ⊎ ((q : Task) × MayCheck ns levels assumed q work × StandsAt e ns q work) → (q : Task) × MayGoOnFrom ns levels assumed q work taken
  goes_from start work is h same (inl none) =
      let rest = kept_rest front levels k h in
      let q = task_in ns levels assumed rest.known in
      (q, started q work is h same (start.asked ns levels assumed q work (start.alone ns levels assumed rest.known) none) none (rests_here laws front ns levels k taken is h same rest.known rest.may))
  goes_from start work is h same (inr some) = (some.0, stands_from some.0 work is h same some.1 some.2)

-- ---- A law

stands_legal : (e : EngineState) (ns : List Node) (q : Task) (work : WorkList Note) → StandsAt e ns q work → AreFew q (search_after ns work) → AreLegal q (noted_list ns work).lines
stands_legal e ns q work (at_start none begins) few = record { point = no_point; lead = lead_none q ns work none; few = few }
stands_legal e ns q work (on_way table u v) few = record { point = u.leads.point; lead = u.leads.legal; few = few }

stands_begin : TheoriesRestart → (e : EngineState) (ns : List Node) (q : Task) (work : WorkList Note) → StandsAt e ns q work → Begins e (terms_known q)
stands_begin laws e ns q work (at_start none begins) =
    laws.more e.prepared.sat.theory e.table q.earlier (terms_known q) (λ t has. Contains-append_left q.earlier q.listed t has) begins
stands_begin laws e ns q work (on_way table u v) =
    subst (λ (xs : List Node). MayRestart e.prepared.sat.theory xs (terms_known q)) (sym table) (begins_after laws ns e.levels q work e.prepared v)

stands_within : (e : EngineState) (ns : List Node) (q : Task) (work : WorkList Note) → StandsAt e ns q work → AreNotedWithin ns work.lines
stands_within e ns q work (at_start none begins) = subst (AreNotedWithin ns) (sym none) tt
stands_within e ns q work (on_way table u v) = u.within

pub engines_stand : TheoriesRestart → EnginesStand
engines_stand laws =
    record {
      legal = stands_legal;
      begins = λ e ns q us work stands into. laws.more e.prepared.sat.theory e.table (terms_known q) us into (stands_begin laws e ns q work stands);
      within = stands_within;
    }
