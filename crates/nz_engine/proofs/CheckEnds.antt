-- How a check ends: its lines are legal, and where an operation left the numbers a search may stop.
use Rattle.std.proofs.Common.{◌≡◌, ◌⊎◌, inl, inr, Err, Ok, Result, ℕ, ◌+◌, ◌*◌, ◌≤◌, false, length, List, [], ◌∷◌, ◌++◌, map, refl, sym, ap, subst, ◌∙◌, arith}
use Rattle.std.specs.Prelude.{All, Contains, IsErrAnd, if◌then◌else◌}
use Rattle.std.proofs.lemmas.List.Elements.{All-contains}
use Rattle.std.proofs.lemmas.List.Sums.{sum_by-append, sum_by-cons}
use Rattle.nz_fractions.specs.Fraction.{Operation}
use Rattle.nz_spec.specs.simplex.Bland.{IsCheckStep, Point, Position}
use Rattle.nz_spec.specs.search.Decide.{asserted_numbers}
use Rattle.nz_spec.specs.search.Search.{Task, Found, Search, at_first, no_point, position_of, told_literals}
use Rattle.nz_spec.specs.search.Atoms.{IsBoundOf, IsTruth}
use Rattle.nz_spec.specs.search.Legal.{Lead, AreFew, AreLegal, AreSpread, IsSpentLegally, events}
use Rattle.nz_spec.specs.search.Places.{IsDue, IsToldEnough, IsOperationAt, IsOperationIn, term_operations}
use Rattle.nz_spec.specs.laws.LegalWork.{PivotsAreLegal}
use Rattle.nz_spec.specs.simplex.Pivots.{pivot}
use Rattle.nz_spec.specs.clauses.Literal.{Literal}
use Rattle.nz_spec.specs.terms.Form.{Numbering}
use Rattle.nz_spec.specs.terms.Table.{Node, term_in}
use Rattle.nz_spec.specs.search.Notes as noted
use Rattle.nz_spec.specs.search.Work.{WorkLine, UnitLine, NoteLine, WorkList, IsSpent, is_unit, unit_count}
use Rattle.nz_frac.specs.Operations.{operation_of}
use Rattle.nz_log.specs.declared.atoms.Atom.{Atom}
use Rattle.nz_search.specs.declared.note.Note.{Note}
use Rattle.nz_search.specs.declared.note.Note.TheVariants as notes
use Rattle.nz_place.specs.declared.place.Place.{Place}
use Rattle.nz_place.specs.declared.place.Site as sites
use Rattle.nz_place.specs.declared.place.Site.TheVariants.{Term, Goal, Joining, Exchange, Value, Sum, Cut, Tight, Split, Move, Limit, Model, Worth, Line, GoalLine, Scaling}
use Rattle.nz_search.specs.declared.stop.Stop.{Stop}
use Rattle.nz_search.specs.declared.stop.Stop.TheVariants.{Wide, Spent, Memory}
use Rattle.nz_term.specs.declared.term_lits.TermLit.{TermLit}
use Rattle.nz_term.specs.TermLits.{AreOfTerms, literal_of}
use Rattle.nz_search.specs.Notes.{noted_line, noted_list, AreNotedWithin}
use Rattle.nz_place.specs.Places.{IsSiteWithin, site_of}
use Rattle.nz_search.specs.Places.{OnWide}
use Rattle.nz_search.specs.Standing.{IsStoppedAt, IsWanting, Stands, search_after}
use Rattle.nz_search.specs.Asked.{HasRoom, MayCheck}
use Rattle.nz_search.specs.Theories.{IsDueIn}
use Rattle.nz_search.specs.Verdicts.{OnSpent}
use Rattle.nz_reals.specs.Joins.{IsStoppedJoining}
use Rattle.nz_reals.specs.Limits.{IsPlaceOfValues}
use Rattle.nz_reals.specs.Stands.{IsAt, IsOver}
use Rattle.nz_reals.specs.State.{Theory}
use Rattle.nz_sat.specs.Numbers.{IsAtomAt}
use Rattle.nz_search.specs.Levels.{Level, added_by_level}
use Rattle.nz_engine.specs.Checking.{EndsWith, HasBegun, IsPlain, IsPlainAtom, IsRootStop, IsStop, IsStopOf, IsTermPlace, IsTermStop, NotesUnder, Works, terms_named}
use Rattle.nz_engine.proofs.SaidAtoms.{says_itself}
use Rattle.nz_engine.proofs.AtomNotes.{listed_part, within_append}

-- ---- Work

-- without a line
pub lead_none : (q : Task) (ns : List Node) (work : WorkList Note) → work.lines ≡ [] → Lead q at_first no_point (noted_list ns work).lines no_point
lead_none q ns work none = subst (λ (ls : List (WorkLine Note)). Lead q at_first no_point (map (noted_line ns) ls) no_point) (sym none) ([], refl)

pub first_none : (ns : List Node) (work : WorkList Note) → work.lines ≡ [] → search_after ns work ≡ at_first
first_none ns work none = ap (λ (ls : List (WorkLine Note)). search_after ns (record work { lines = ls })) none

pub plain_none : (q : Task) (ns : List Node) (work : WorkList Note) → work.lines ≡ [] → IsPlain q at_first (search_after ns work)
plain_none q ns work none =
    subst (IsPlain q at_first) (sym (first_none ns work none)) (record { atoms = λ k d below. absurd (omega (arith, below)); begun = omega arith; found = refl; branches = refl })

-- nothing is noted
pub works_none : (ns : List Node) (work : WorkList Note) → work.lines ≡ [] → Works ns work work
works_none ns work none =
    let count : unit_count work.lines ≡ 0 = ap unit_count none in
    record { named = subst (AreNotedWithin ns) (sym none) tt; limit = refl; within = omega (arith, count) }

-- what comes before a search
pub works_begun : (ns : List Node) (t : Theory) (all : List Atom) (ids : List ℕ) (old new : WorkList Note) → IsOver t ns → All (IsAtomAt ns all) ids → HasBegun t all ids old new → Works ns old new
works_begun ns t all ids old new over within h =
    let count = h.units in
    record { named = h.within ns over within; limit = h.limit; within = omega (arith, count) }

-- with the note of what it goes under
pub works_under : (ns : List Node) (t : Theory) (all : List Atom) (ids : List ℕ) (assumed : List TermLit) (old mid new : WorkList Note) → IsOver t ns → All (IsAtomAt ns all) ids → HasBegun t all ids old mid
    → NotesUnder assumed mid new → AreOfTerms ns assumed → Works ns old new
works_under ns t all ids assumed old mid new over within h n terms =
    let line : WorkLine Note = NoteLine (notes.Under n.literals) in
    let both = sum_by-append (λ (x : WorkLine Note). if is_unit x then 1 else 0) mid.lines (line ∷ []) in
    let units = h.units in
    let count : unit_count (mid.lines ++ line ∷ []) ≡ 0 = omega (arith, both, units) in
    let all_units : unit_count new.lines ≡ 0 = ap (λ (w : WorkList Note). unit_count w.lines) n.line ∙ count in
    record {
      named = subst (λ (w : WorkList Note). AreNotedWithin ns w.lines) (sym n.line)
          (within_append ns mid.lines (line ∷ []) (h.within ns over within) (subst (AreOfTerms ns) (sym n.items) terms, tt));
      limit = ap (λ (w : WorkList Note). w.limit) n.line ∙ h.limit;
      within = omega (arith, all_units);
    }

-- and a search goes on
pub works_solved : (ns : List Node) (old mid new : WorkList Note) → Works ns old mid → (AreNotedWithin ns mid.lines → AreNotedWithin ns new.lines) → new.limit ≡ mid.limit
    → unit_count new.lines ≤ new.limit → Works ns old new
works_solved ns old mid new h named limit few = record { named = named h.named; limit = limit ∙ h.limit; within = few }

same_units : (ns : List Node) (lines : List (WorkLine Note)) → unit_count (map (noted_line ns) lines) ≡ unit_count lines
same_units ns [] = refl
same_units ns (UnitLine entry ∷ lines) =
    sum_by-cons (λ (x : WorkLine noted.Note). if is_unit x then 1 else 0) (UnitLine entry) (map (noted_line ns) lines) ∙ ap (λ n. 1 + n) (same_units ns lines)
    ∙ sym (sum_by-cons (λ (x : WorkLine Note). if is_unit x then 1 else 0) (UnitLine entry) lines)
same_units ns (NoteLine note ∷ lines) = same_units ns lines

-- ---- Places

by_site : (ns : List Node) (q : Task) (s : Search) (x : Point) (site : sites.Site) (op : Operation) → IsOperationIn (told_literals s) (position_of s x) (site_of ns site) op
    → IsOperationAt q s x (site_of ns site) op
by_site ns q s x (Term t) op h = absurd h
by_site ns q s x (Goal goal) op h = absurd h
by_site ns q s x Joining op h = h
by_site ns q s x (Exchange leaves enters) op h = h
by_site ns q s x (Value form) op h = h
by_site ns q s x (Sum multiples) op h = h
by_site ns q s x (Cut multiples) op h = h
by_site ns q s x (Tight bound) op h = absurd h
by_site ns q s x (Split unit) op h = absurd h
by_site ns q s x (Move form moves side) op h = h
by_site ns q s x (Limit form side) op h = h
by_site ns q s x (Model form) op h = absurd h
by_site ns q s x (Worth term model) op h = absurd h
by_site ns q s x (Line term family) op h = absurd h
by_site ns q s x (GoalLine goal family) op h = absurd h
by_site ns q s x (Scaling forms moves) op h = h

-- an exchange that may be next is one of the list
due_site : PivotsAreLegal → (ns : List Node) (q : Task) (lines : List (WorkLine noted.Note)) (s : Search) (x : Point) (site : sites.Site) → IsDueIn (position_of s x) site → IsDue q lines s x (site_of ns site)
due_site pivots ns q lines s x (Term t) h = absurd h
due_site pivots ns q lines s x (Goal goal) h = absurd h
due_site pivots ns q lines s x Joining h = absurd h
due_site pivots ns q lines s x (Exchange leaves enters) h =
    let next = h.1 in
    let there = pivots.lead q s x (pivot leaves enters ∷ []) next.after h.0 (next.after, next.step, refl) in
    let step : IsCheckStep (position_of s x) (position_of s next.after.point) leaves enters = subst (λ (p : Position). IsCheckStep (position_of s x) p leaves enters) there.0 next.step in
    (next.after.point, inl (h.0, step))
due_site pivots ns q lines s x (Value form) h = tt
due_site pivots ns q lines s x (Sum multiples) h = tt
due_site pivots ns q lines s x (Cut multiples) h = absurd h
due_site pivots ns q lines s x (Tight bound) h = absurd h
due_site pivots ns q lines s x (Split unit) h = absurd h
due_site pivots ns q lines s x (Move form moves side) h = absurd h
due_site pivots ns q lines s x (Limit form side) h = absurd h
due_site pivots ns q lines s x (Model form) h = absurd h
due_site pivots ns q lines s x (Worth term model) h = absurd h
due_site pivots ns q lines s x (Line term family) h = absurd h
due_site pivots ns q lines s x (GoalLine goal family) h = absurd h
due_site pivots ns q lines s x (Scaling forms moves) h = absurd h

-- no atom is of anything else than what is listed
none_other : (q : Task) (s : Search) → All (IsPlainAtom q) s.atoms → (others : List Literal) → All (λ (l : Literal). Contains s.atoms l × (IsTruth q.listed l ⊎ IsBoundOf q.numbering q.listed l → ⊥)) others
    → length others ≤ 2 * events q s
none_other q s all [] each = omega arith
none_other q s all (l ∷ others) each =
    let other = All-contains (λ (m : Literal). Contains s.atoms m × (IsTruth q.listed m ⊎ IsBoundOf q.numbering q.listed m → ⊥)) (l ∷ others) l each (0, omega arith, refl) in
    absurd (other.1 (elim (All-contains (IsPlainAtom q) s.atoms l all other.0) [
      | inl truth ↦ inl truth
      | inr tabled ↦ inr (record { plain = l; tabled = tabled; written = l; same = says_itself l; is_tight = false; is = refl })
    ]))

-- what was few stays few, with one search more
few_still : (q : Task) (old new : Search) → IsPlain q old new → AreFew q old → HasRoom q old → AreFew q new
few_still q old new plain few room =
    let more = plain.begun in
    let count = ap (λ (fs : List Found). length fs) plain.found in
    record {
      atoms = λ others once each. none_other q new plain.atoms others each;
      begun = omega (arith, more, room, count);
      spread = subst (AreSpread q) (sym plain.found) few.spread;
    }

-- what a list leads to, where a check of terms and their tables stands that may be made of one before
module _ (ns : List Node) (levels : List Level) (assumed : List TermLit) (q : Task) (before work : WorkList Note) (asked : MayCheck ns levels assumed q before)
    (plain : IsPlain q (search_after ns before) (search_after ns work)) where
  pub few_at : AreFew q (search_after ns work)
  few_at = few_still q (search_after ns before) (search_after ns work) plain asked.goes_on.few asked.goes_on.room

  abbrev pub legal_at : (x : Point) → Lead q at_first no_point (noted_list ns work).lines x → AreLegal q (noted_list ns work).lines
  legal_at x lead = record { point = x; lead = lead; few = few_at }

  -- each unit was used, and one more was wanted
  pub spent_at : IsWanting ns q work → IsSpent work → (search_after ns work).under ≡ map (literal_of ns) assumed → IsSpentLegally q (noted_list ns work)
  spent_at h spent under =
      record {
        spent = same_units ns work.lines ∙ spent;
        legal = legal_at h.point h.legal;
        wanted = h.wanted;
        after = h.after;
        may = h.may;
        under = λ none. subst (λ (ls : List Literal). All (Contains ls) q.assumed) (sym under) (asked.no_others none);
      }

  module _ (few : unit_count work.lines ≤ work.limit) where
    within : unit_count (noted_list ns work).lines ≤ work.limit
    within = let count = same_units ns work.lines in omega (arith, count, few)

    -- a place of a search
    search_stop : (place : Place) → IsStoppedAt ns q work place → PivotsAreLegal → IsStop ns q work place
    search_stop place h pivots =
        record {
          within = h.at.leaves.within;
          legally = record {
            within = within;
            legal = legal_at h.point h.legal;
            leaves = h.at.leaves.leaves;
            due = due_site pivots ns q (noted_list ns work).lines (search_after ns work) h.point place.site h.at.due;
            at = by_site ns q (search_after ns work) h.point place.site (operation_of place.wide) h.at.leaves.at;
          };
        }

    -- the row of a form that joins
    joining_stop : (place : Place) → IsStoppedJoining ns q work place → IsStop ns q work place
    joining_stop place h =
        record {
          within = h.at.within;
          legally = record {
            within = within;
            legal = legal_at h.point h.legal;
            leaves = h.at.leaves;
            due = subst (λ (s : sites.Site). IsDue q (noted_list ns work).lines (search_after ns work) h.point (site_of ns s)) (sym h.joining) h.last;
            at = by_site ns q (search_after ns work) h.point place.site (operation_of place.wide) h.at.at;
          };
        }

    pub ends_stop : PivotsAreLegal → (e : Stop) → EndsWith ns q work e → OnWide e (IsStop ns q work)
    ends_stop pivots (Wide place) (inl h) = joining_stop place h
    ends_stop pivots (Wide place) (inr h) = search_stop place h pivots
    ends_stop pivots Spent h = tt
    ends_stop pivots Memory h = tt

    -- values that weren't found
    value_stop : (place : Place) (s : Stands (λ fs ls x. IsPlaceOfValues ns q.listed fs ls x place) ns q work) → IsToldEnough q (search_after ns work) → IsStop ns q work place
    value_stop place s told = by_case s.at
      where
        by_case : IsPlaceOfValues ns q.listed (search_after ns work).forms (told_literals (search_after ns work)) s.point place → IsStop ns q work place
        by_case (inl h) =
            record {
              within = h.leaves.within;
              legally = record {
                within = within;
                legal = legal_at s.point s.legal;
                leaves = h.leaves.leaves;
                due = subst (λ (x : sites.Site). IsDue q (noted_list ns work).lines (search_after ns work) s.point (site_of ns x)) (sym h.site) told;
                at = by_site ns q (search_after ns work) s.point place.site (operation_of place.wide) h.leaves.at;
              };
            }
        by_case (inr h) =
            record {
              within = subst (IsSiteWithin ns) (sym h.site) tt;
              legally = record {
                within = within;
                legal = legal_at s.point s.legal;
                leaves = h.leaves;
                due = subst (λ (x : sites.Site). IsDue q (noted_list ns work).lines (search_after ns work) s.point (site_of ns x)) (sym h.site) told;
                at = subst (λ (x : sites.Site). IsOperationAt q (search_after ns work) s.point (site_of ns x) (operation_of place.wide)) (sym h.site) h.at;
              };
            }

    pub model_stop : (t : Theory) (e : Stop) → OnWide e (IsStopOf ns q.listed t) → Stands (IsAt t ns) ns q work → IsToldEnough q (search_after ns work) → OnWide e (IsStop ns q work)
    model_stop t (Wide place) f h told =
        value_stop place
        (record { point = h.point; legal = h.legal; at = f (search_after ns work).forms (told_literals (search_after ns work)) h.point h.at }) told
    model_stop t Spent f h told = tt
    model_stop t Memory f h told = tt

-- a term of what is asked, before anything more is noted
module _ (ns : List Node) (levels : List Level) (assumed : List TermLit) (q : Task) (work : WorkList Note) (asked : MayCheck ns levels assumed q work) (few : unit_count work.lines ≤ work.limit)
    (x : Point) (lead : Lead q at_first no_point (noted_list ns work).lines x) where
  term_stop : (root : ℕ) → Contains (asserted_numbers (added_by_level levels) ++ terms_named assumed) root → (place : Place) → IsTermPlace ns (term_in ns root) place → IsStop ns q work place
  term_stop root has place h =
      let count = same_units ns work.lines in
      record {
        within = subst (IsSiteWithin ns) (sym h.site) h.stop.within;
        legally = record {
          within = omega (arith, count, few);
          legal = record { point = x; lead = lead; few = asked.goes_on.few };
          leaves = h.stop.leaves;
          due = subst (λ (s : sites.Site). IsDue q (noted_list ns work).lines (search_after ns work) x (site_of ns s)) (sym h.site) tt;
          at = subst (λ (s : sites.Site). IsOperationAt q (search_after ns work) x (site_of ns s) (operation_of place.wide)) (sym h.site)
              (record {
                listed = asked.goes_on.listed (term_in ns h.term) (listed_part ns levels assumed root has (term_in ns h.term) h.stop.part);
                of = inl (subst (λ (number : Numbering). Contains (term_operations number (term_in ns h.term)) (operation_of place.wide)) (sym asked.goes_on.numbering) h.stop.of);
              });
        };
      }

  pub root_stop : (e : Stop) → IsRootStop ns (asserted_numbers (added_by_level levels) ++ terms_named assumed) e → OnWide e (IsStop ns q work)
  root_stop (Wide place) h = term_stop h.0 h.1 place h.2
  root_stop Spent h = tt
  root_stop Memory h = tt

-- a search that ended with no answer, where each unit was used
pub spent_of : (ns : List Node) (levels : List Level) (assumed : List TermLit) (q : Task) (before work : WorkList Note) (e : Stop) → MayCheck ns levels assumed q before
    → IsPlain q (search_after ns before) (search_after ns work) → EndsWith ns q work e → OnSpent e (IsSpent work) → OnSpent e ((search_after ns work).under ≡ map (literal_of ns) assumed)
    → OnSpent e (IsSpentLegally q (noted_list ns work))
spent_of ns levels assumed q before work (Wide place) asked plain h spent under = tt
spent_of ns levels assumed q before work Spent asked plain h spent under = spent_at ns levels assumed q before work asked plain h spent under
spent_of ns levels assumed q before work Memory asked plain h spent under = tt

pub root_unspent : (ns : List Node) (roots : List ℕ) (e : Stop) (P : Type 0) → IsRootStop ns roots e → OnSpent e P
root_unspent ns roots (Wide place) P h = tt
root_unspent ns roots Spent P h = absurd h
root_unspent ns roots Memory P h = tt

-- what stops the clauses of one of some terms
pub root_of : (ns : List Node) (roots : List ℕ) (root : ℕ) (e : Stop) → Contains roots root → IsTermStop ns (term_in ns root) e → IsRootStop ns roots e
root_of ns roots root (Wide place) has h = (root, has, h)
root_of ns roots root Spent has h = h
root_of ns roots root Memory has h = tt

pub root_more : (ns : List Node) (xs ys : List ℕ) (e : Stop) → ((r : ℕ) → Contains xs r → Contains ys r) → IsRootStop ns xs e → IsRootStop ns ys e
root_more ns xs ys (Wide place) more h = (h.0, more h.0 h.1, h.2)
root_more ns xs ys Spent more h = h
root_more ns xs ys Memory more h = tt

-- ---- What is said of a stop

pub stop_within : (ns : List Node) (q : Task) (work : WorkList Note) (e : Stop) → OnWide e (IsStop ns q work) → OnWide e (λ p. IsSiteWithin ns p.site)
stop_within ns q work (Wide place) h = h.within
stop_within ns q work Spent h = tt
stop_within ns q work Memory h = tt

-- the same of an unspent stop
pub none_spent : (e : Stop) (P : Type 0) → (e ≡ Spent → ⊥) → OnSpent e P
none_spent (Wide place) P h = tt
none_spent Spent P h = absurd (h refl)
none_spent Memory P h = tt

-- ---- An error that is handed on

pub same_error : {T E : Type 0} (r : Result T E) (e : E) → IsErrAnd r (λ (y : E). y ≡ e) → Err e ≡ r
same_error (Ok x) e h = absurd h
same_error (Err y) e h = ap Err (sym h)
