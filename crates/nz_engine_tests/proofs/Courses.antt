-- Lists of work with which an engine goes on from check to check.
use Rattle.std.proofs.Common.{◌≡◌, ℕ, suc, ◌+◌, List, [], ◌∷◌, ◌++◌, length, map, replicate, inl, refl, sym, ap, subst, arith, false}
use Rattle.std.specs.Prelude.{Contains, flat_map, pos}
use Rattle.std.specs.List.{AllByRecursion}
use Rattle.std.proofs.lemmas.List.{length-replicate}
use Rattle.std.proofs.lemmas.List.Elements.{All-contains_itself, Contains-append_left, Contains-append_right}
use Rattle.nz_fractions.specs.Fraction.{whole}
use Rattle.nz_spec.specs.clauses.Goals.{Goal}
use Rattle.nz_spec.specs.clauses.Literal.{Literal}
use Rattle.nz_spec.specs.search.Decide.{IsFrontOfTable, asserted_terms}
use Rattle.nz_spec.specs.search.Legal.{AreLegal}
use Rattle.nz_spec.specs.search.Search.{Task, at_first}
use Rattle.nz_spec.specs.search.Work.{WorkList}
use Rattle.nz_spec.specs.terms.Form.{constant_form}
use Rattle.nz_spec.specs.terms.FormOf.{number_in}
use Rattle.nz_spec.specs.terms.Order.{listing_order}
use Rattle.nz_spec.specs.terms.Table.{Node, term_in}
use Rattle.nz_spec.specs.terms.Term as spec
use Rattle.nz_term.specs.declared.term_lits.TermLit.{TermLit}
use Rattle.nz_term.specs.TermLits.{literal_of}
use Rattle.nz_search.specs.declared.note.Note.{Note}
use Rattle.nz_search.specs.Asked.{ChecksMayStart, IsAskedOf, IsOneMore, MayCheck}
use Rattle.nz_search.specs.Levels.{Level, added_by_level, asserted_by_level}
use Rattle.nz_search.specs.Notes.{noted_list}
use Rattle.nz_search.specs.Standing.{search_after}
use Rattle.nz_engine.specs.Engines.{EngineState}
use Rattle.nz_engine.specs.Lists.{StandsAt, starts_at}
use Rattle.nz_engine_tests.specs.Benches.{HasRoomFor, IsCourse, IsGoing, IsNew}

-- ---- A task that is asked under each list of literals

module _ (ns : List Node) (levels : List Level) where
  abbrev listed_for : List (List TermLit) → List spec.Term
  listed_for [] = []
  listed_for (a ∷ asks) = flat_map listing_order (asserted_terms ns (added_by_level levels) ++ map (λ (l : TermLit). term_in ns l.term) a) ++ listed_for asks

  abbrev assumed_for : List (List TermLit) → List Literal
  assumed_for [] = []
  assumed_for (a ∷ asks) = map (literal_of ns) a ++ assumed_for asks

  each_asked : (asks : List (List TermLit)) (q : Task) → q.asserted ≡ asserted_terms ns (asserted_by_level levels) → q.numbering ≡ number_in ns
      → ((t : spec.Term) → Contains (listed_for asks) t → Contains q.listed t) → ((l : Literal) → Contains (assumed_for asks) l → Contains q.assumed l) → (q.goals ≡ [] → ⊥)
      → AllByRecursion (λ (assumed : List TermLit). IsAskedOf ns levels assumed q) asks
  each_asked [] q asserted numbering listed assumed goals = tt
  each_asked (a ∷ asks) q asserted numbering listed assumed goals =
      let named = flat_map listing_order (asserted_terms ns (added_by_level levels) ++ map (λ (l : TermLit). term_in ns l.term) a) in
      let literals = map (literal_of ns) a in (
        record {
          asserted = asserted;
          numbering = numbering;
          listed = λ t has. listed t (Contains-append_left named (listed_for asks) t has);
          assumed_of = λ k d below. assumed _ (Contains-append_left literals (assumed_for asks) _ (All-contains_itself literals k d below));
          no_others = λ none. absurd (goals none);
        },
        each_asked asks q asserted numbering (λ t has. listed t (Contains-append_right named (listed_for asks) t has)) (λ l has. assumed l (Contains-append_right literals (assumed_for asks) l has)) goals,
      )

  abbrev some_goal : Goal
  some_goal = record { form = constant_form (whole (pos 0)); up = false }

  abbrev task_for : List (List TermLit) → ℕ → Task
  task_for asks more = record {
    asserted = asserted_terms ns (asserted_by_level levels);
    assumed = assumed_for asks;
    goals = some_goal ∷ replicate more some_goal;
    groups = [];
    listed = listed_for asks;
    numbering = number_in ns;
    earlier = [];
    earlier_goals = [];
  }

  for_all : (asks : List (List TermLit)) (more : ℕ) → AllByRecursion (λ (assumed : List TermLit). IsAskedOf ns levels assumed (task_for asks more)) asks
  for_all asks more = each_asked asks (task_for asks more) refl refl (λ t has. has) (λ l has. has) (λ none. cc)

-- ---- The beginning

pub going_at_start : (ns : List Node) (engine : EngineState) (work : WorkList Note) → ChecksMayStart → IsNew ns engine → work.lines ≡ [] → IsGoing ns engine work
going_at_start ns engine work start new none =
    let first : search_after ns work ≡ at_first = λ i. search_after ns (record work { lines = none i }) in
    record {
      ready = new.ready;
      course = λ asks more. (let q = task_for ns engine.levels ([] ∷ asks) more in
          let each = for_all ns engine.levels ([] ∷ asks) more in
          record {
            task = q;
            asked = each.1;
            few = (start.asked ns engine.levels [] q work each.0 none).goes_on.few;
            room = subst (HasRoomFor more q) (sym first) (let goals : length q.goals ≡ suc more = ap suc (length-replicate more (some_goal ns engine.levels)) in omega (arith, goals));
            stands = starts_at engine ns q work (new.begins []) none;
          });
    }

-- ---- A check more

pub may_check : (ns : List Node) (engine : EngineState) (work : WorkList Note) (assumed : List TermLit) (asks : List (List TermLit)) (more : ℕ) (k : IsCourse ns engine work (assumed ∷ asks) (suc more))
    → MayCheck ns engine.levels assumed k.task work
may_check ns engine work assumed asks more k =
    record {
      goes_on = record {
        asserted = k.asked.0.asserted;
        numbering = k.asked.0.numbering;
        listed = k.asked.0.listed;
        few = k.few;
        room = let room = k.room in omega (arith, room);
      };
      under = λ x lead j d below. inl (k.asked.0.assumed_of j d below);
      no_others = k.asked.0.no_others;
    }

module _ (ns : List Node) (old new : EngineState) (work after : WorkList Note) (assumed : List TermLit) (going : IsGoing ns old work) (levels : new.levels ≡ old.levels) where
  module _ (legal : (q : Task) → MayCheck ns old.levels assumed q work → StandsAt old ns q work → AreLegal q (noted_list ns after).lines)
      (stands : (q : Task) → MayCheck ns old.levels assumed q work → StandsAt old ns q work → StandsAt new ns q after)
      (one : IsOneMore (search_after ns work) (search_after ns after)) where
    course_after : (asks : List (List TermLit)) (more : ℕ) → IsCourse ns new after asks more
    course_after asks more =
        let k = going.course (assumed ∷ asks) (suc more) in
        let may = may_check ns old work assumed asks more k in
        let found = ap length one.found in
        let begun = one.begun in
        let room = k.room in
        record {
          task = k.task;
          asked = subst (λ (ls : List Level). AllByRecursion (λ (a : List TermLit). IsAskedOf ns ls a k.task) asks) (sym levels) k.asked.1;
          few = (legal k.task may k.stands).few;
          room = omega (arith, found, begun, room);
          stands = stands k.task may k.stands;
        }

    pub going_after : IsFrontOfTable new.table ns → IsGoing ns new after
    going_after front =
        record {
          ready = record { added = subst (AllByRecursion _) (sym levels) going.ready.added; front = front };
          course = course_after;
        }
