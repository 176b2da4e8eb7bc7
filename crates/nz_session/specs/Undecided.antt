-- Checks that weren't decided: the work of their search, and why it ended.
use Rattle.std.specs.Prelude.{◌≡◌, ℕ, List, map, Option, None, Some, IfSome, ⊤}
use Rattle.nz_spec.specs.terms.Table.{Node}
use Rattle.nz_spec.specs.terms.Term.{Term}
use Rattle.nz_script.specs.live.Live as live_state
use Rattle.nz_spec.specs.search.Search.{Task}
use Rattle.nz_spec.specs.search.Legal.{IsSpentLegally}
use Rattle.nz_spec.specs.search.Places.{IsStoppedLegally}
use Rattle.nz_script.specs.replies.Reply.{Cause, spent, stopped}
use Rattle.nz_spec.specs.search.Work.{WorkList}
use Rattle.nz_frac.specs.Operations.{operation_of}
use Rattle.nz_search.specs.declared.note.Note.{Note}
use Rattle.nz_place.specs.declared.place.Place.{Place}
use Rattle.nz_search.specs.declared.stop.Stop.{Stop}
use Rattle.nz_search.specs.declared.stop.Stop.TheVariants.{Wide, Spent, Memory}
use Rattle.nz_term.specs.declared.term_lits.TermLit.{TermLit}
use Rattle.nz_search.specs.Notes.{noted_list, AreNotedWithin}
use Rattle.nz_place.specs.Places.{IsSiteWithin, place_of}
use Rattle.nz_search.specs.Verdicts.{task_in}
use Rattle.nz_reply.specs.Replies.{work_of}
use Rattle.nz_reply.specs.declared.reply.WorkDone.{WorkDone}
use Rattle.nz_session.specs.Told.{only_asserted}

-- the fact of a search that wasn't decided: it ended at this place, or at none where each unit of its work was used
abbrev pub IfUndecided : Stop → (Option Place → Type 0) → Type 0
IfUndecided Spent P = P None
IfUndecided (Wide place) P = P (Some place)
IfUndecided Memory P = ⊤

-- the work of such a search is legal for what it was asked
abbrev pub EndsLegally : List Node → Task → WorkList Note → Option Place → Type 0
EndsLegally ns q work None = IsSpentLegally q (noted_list ns work)
EndsLegally ns q work (Some place) = IsStoppedLegally q (noted_list ns work) (place_of ns place)

-- A search of the assertions of these numbers by level, under these literals, where those before were asked of the earlier terms, ended so, within
-- this limit. What it noted, and the place, are of the table.
pub record IsUndecided (ns : List Node) (levels : List (List ℕ)) (assumed : List TermLit) (earlier : List Term) (limit : ℕ) (work : WorkList Note) (place : Option Place)
    : Type 0 where
  pub limited : work.limit ≡ limit
  pub ends : EndsLegally ns (task_in ns (map only_asserted levels) assumed earlier) work place
  pub noted : AreNotedWithin ns work.lines
  pub sited : IfSome place (λ (p : Place). IsSiteWithin ns p.site)

-- ---- What is told of it

-- the reason
abbrev pub reason_by : ℕ → Option Place → live_state.Reason
reason_by limit None = live_state.units_spent limit
reason_by limit (Some place) = live_state.number_left (operation_of place.wide)

-- the cause
abbrev pub cause_by : List Node → WorkDone → Option Place → Cause
cause_by ns done None = spent (work_of ns done)
cause_by ns done (Some place) = stopped (place_of ns place) (work_of ns done)
