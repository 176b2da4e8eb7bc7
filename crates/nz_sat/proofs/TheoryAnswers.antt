-- What a search knows after the theory was asked.
use Rattle.std.proofs.Common.{◌≡◌, ℕ, ◌<◌, ◌≤◌, Bool, List, length, map, min, inl, inr, Option, None, Some, refl, sym, ap, subst, ◌∙◌, arith, All, Contains, IfOk, IfSome, Result, Ok, Err}
use Rattle.std.proofs.lemmas.Result.{IfOk-weaker}
use Rattle.nz_spec.specs.search.Search as legal
use Rattle.nz_spec.specs.search.Work.{WorkList}
use Rattle.nz_log.specs.declared.lits.Lit.{Lit}
use Rattle.nz_search.specs.declared.note.Note.{Note}
use Rattle.nz_search.specs.declared.stop.Stop.{Stop}
use Rattle.nz_search.specs.declared.stop.Stop.TheVariants.{Memory}
use Rattle.nz_log.specs.Logs.{LogState, literals_at}
use Rattle.nz_search.specs.Theories.{IsClash}
use Rattle.nz_log.specs.Growth.{Grows}
use Rattle.nz_sat.specs.declared.clauses.Held.{Held}
use Rattle.nz_sat.specs.declared.consult.Bounds.{Bounds}
use Rattle.nz_sat.specs.declared.propagation.Propagation.{Propagation}
use Rattle.nz_sat.specs.declared.search.Search.{Search}
use Rattle.nz_sat.specs.declared.trail.Assigned.{Assigned}
use Rattle.nz_sat.specs.Conflicts.{GoesBackTo, HasLast, IsFalsifiedUnder, StaysSound}
use Rattle.nz_sat.specs.Numbers.{numbered}
use Rattle.nz_sat.specs.Searching.{Advances, AreFirst, Carries, ComesTo, Follows, IsConflict, IsNoted, IsSearch, Learns, PropagatedOrConflict, PropagatedOrFalsified, Settles, StaysInOrder, Steps, Turns, TurnsOn, WasNoted}
use Rattle.nz_sat.specs.Theories.{AddsLines, Consults, EndsLegally, IsMet, IsOfTheory, IsTrailOn, TellsTrail, TheoryState, told_lits}
use Rattle.nz_sat.specs.Trails.{GoesOn, IsTrueOn, below, depth, literals_on, IsFalseOn, IsFrontOf, level_on}
use Rattle.nz_sat.proofs.AssumedLiterals.{assumed_carried, assumed_goes}
use Rattle.nz_sat.proofs.SearchSteps.{Reaches, advances_same, ends_memory, log_reaches, reaches_step, reaches_then, stands_legal, steps_behind}
use Rattle.nz_sat.proofs.Propagations.{carries_far, goes_first, goes_tells, goes_told}
use Rattle.nz_sat.proofs.LogGrowth.{atoms_stay, grows_far, grows_none, held_on, holds_none, on_kept, order_over}
use Rattle.nz_sat.proofs.TrailGrowth.{goes_assumed, held_live, learned_grown}
use Rattle.nz_sat.proofs.Levels.{below_twice, below_depth, below_false, below_front, found_below}
use Rattle.nz_sat.proofs.SearchLines.{adds_keep, adds_units, adds_wider, learned_kept}
use Rattle.nz_sat.proofs.ToldTrails.{clash_falsified, stands_so}
use Rattle.std.proofs.lemmas.Bool.{cases_lt}
use Rattle.std.proofs.lemmas.List.Elements.{All-contains, Contains-append_left}
use Rattle.nz_sat.specs.Clauses.{HasReasonOf, IsAssumed, IsFalsified}
use Rattle.nz_sat.proofs.LearnedClauses.{all_from, false_level}
use Rattle.nz_sat.proofs.Marks.{false_entry, level_found}
use Rattle.nz_sat.specs.Sats.{HoldsLearned, ids}
use Rattle.nz_sat.specs.Watched.{HoldsAs, watch_state}
use Rattle.nz_sat.proofs.WatchedTrails.{cut_watched, first_cut, first_grown, grown_watched}
use Rattle.nz_sat.proofs.AtomTrails.{literals_kept, trail_cut, trail_grown}

-- ---- What a search keeps where it goes back, and where the log or the work list grows

-- ---- The log grows

module _ (log log' : LogState) (g : Grows log log') (held : List Held) (s : Search) (h : IsSearch log held s) where
  same_literals : (i : ℕ) → Contains (ids held) i → literals_at log' i ≡ literals_at log i
  same_literals i has = literals_kept log log' g i (held_live log held h.are_held i has)

  -- what holds of the literals of each clause that is held
  each_kept : (P : List Lit → Type 0) → All (λ (i : ℕ). P (literals_at log i)) (ids held) → All (λ (i : ℕ). P (literals_at log' i)) (ids held)
  each_kept P each =
      all_from (λ (i : ℕ). P (literals_at log' i)) (ids held)
      (λ i has. subst P (sym (same_literals i has)) (All-contains (λ (j : ℕ). P (literals_at log j)) (ids held) i each has))

  pub grown_search : IsSearch log' held s
  grown_search =
      record {
        are_held = held_on log log' held g h.are_held;
        covered = h.covered;
        only = h.only;
        named = each_kept (λ c. All (λ (l : Lit). Contains s.atoms l.atom) c) h.named;
        within = h.within;
        watched = grown_watched log log' (watch_state s.propagation s.trail) g h.watched;
        marks = h.marks;
        unmarked = h.unmarked;
        on = trail_grown log s.atoms s.bounds s.trail h.on log' g;
        reasons = h.reasons;
      }

-- ---- The trail is cut

-- what holds of each entry holds of those of a front
front_each : (P : Assigned → Type 0) (es es' : List Assigned) → IsFrontOf es' es → All P es → All P es'
front_each P es es' f each =
    all_from P es'
    (λ x has. All-contains P es x each (subst (λ (xs : List Assigned). Contains xs x) (sym f.joined) (Contains-append_left es' f.more x has)))

pub cut_search : (log : LogState) (held : List Held) (s s' : Search) → IsSearch log held s → s' ≡ record s { trail = s'.trail; propagation = s'.propagation; order = s'.order; bounds = s'.bounds }
    → s'.trail.size ≡ s.trail.size → (k : ℕ) → s'.trail.entries ≡ below k s.trail.entries
    → s'.propagation ≡ record s.propagation { head = min s.propagation.head (length s'.trail.entries) } → s'.bounds ≡ record s.bounds { told = min s.bounds.told (length s'.trail.entries) }
    → IsSearch log held s'
cut_search log held s s' h rest size k cut looked bounds =
    let es = s.trail.entries in
    let es' = s'.trail.entries in
    let f = subst (λ (xs : List Assigned). IsFrontOf xs es) (sym cut) (below_front s.trail.size es h.on.order k) in
    subst (IsSearch log held) (sym rest)
    (record {
      are_held = h.are_held;
      covered = λ g has. subst (λ (p : Propagation). HoldsAs p g) (sym looked) (h.covered g has);
      only = λ g has. h.only g (subst (λ (p : Propagation). HoldsAs p g) looked has);
      named = h.named;
      within = subst (λ (n : ℕ). All (λ (t : ℕ). t < n) s.atoms) (sym size) h.within;
      watched = cut_watched log s.propagation s'.propagation s.trail s'.trail k h.on.order cut size looked h.watched;
      marks = h.marks ∙ sym size;
      unmarked = h.unmarked;
      on = trail_cut log s.atoms s.bounds s.trail h.on k s'.bounds s'.trail size cut bounds;
      reasons = front_each (HasReasonOf (ids held)) es es' f h.reasons;
    })

module _ (log : LogState) (held : List Held) (s : Search) (h : IsSearch log held s) (id : ℕ) (c : IsConflict log held s.trail.entries id)
    (es' : List Assigned) (bottom : ℕ) (b : GoesBackTo (literals_at log id) s.trail.entries es' bottom) where
  abbrev es : List Assigned
  es = s.trail.entries

  abbrev lits : List Lit
  lits = literals_at log id

  pub cut_front : IsFrontOf es' es
  cut_front = subst (λ (xs : List Assigned). IsFrontOf xs es) (sym b.cut) (below_front s.trail.size es h.on.order bottom)

  level_inside : bottom ≤ depth es
  level_inside =
      elim (cases_lt 0 bottom) [
        | inl some ↦
            let w = b.greatest.reached some in
            let most = false_level s.trail.size es h.on.order w.0 (c.falsified w.0 w.1) in
            omega (arith, w.2, most)
        | inr none ↦ omega arith
      ]

  pub cut_depth : depth es' ≡ bottom
  cut_depth = ap depth b.cut ∙ below_depth s.trail.size es h.on.order bottom level_inside

  pub cut_falsified : IsFalsified es' lits
  cut_falsified l has = subst (λ (xs : List Assigned). IsFalseOn xs l) (sym b.cut) (below_false s.trail.size es h.on.order bottom l (c.falsified l has) (b.greatest.most l has))

  pub cut_conflict : IsConflict log held es' id
  cut_conflict = record { live = c.live; falsified = cut_falsified; kind = c.kind }

  pub cut_last : 0 < depth es' → HasLast es' lits
  cut_last above =
      let same = cut_depth in
      let w = b.greatest.reached (omega arith) in
      let e = false_entry es w.0 (c.falsified w.0 w.1) in
      let level = level_found es w.0.atom e.0 e.1 in
      let there = found_below bottom w.0.atom es e.0 e.1 (omega (arith, level, w.2)) in
      let now : level_on es' w.0.atom ≡ e.0.level = ap (λ (xs : List Assigned). level_on xs w.0.atom) b.cut ∙ level_found (below bottom es) w.0.atom e.0 there in
      record { literal = w.0; has = w.1; last = omega (arith, now, level, w.2, same) }

  pub cut_assumed : (assumed : List Lit) → All (IsAssumed assumed) es → All (IsAssumed assumed) es'
  cut_assumed assumed only = front_each (IsAssumed assumed) es es' cut_front only

-- ---- One look for a conflict

falsified_conflict : (log : LogState) (held : List Held) (s : Search) (told : Option ℕ) → IsSearch log held s → PropagatedOrFalsified log held s told → PropagatedOrConflict log held s told
falsified_conflict log held s None h all = all
falsified_conflict log held s (Some id) h falsified = record { live = held_live log held h.are_held id falsified.0; falsified = falsified.1; kind = inl falsified.0 }

-- a held clause is falsified, or all was propagated
pub comes_falsified : (log : LogState) (held : List Held) (s s' : Search) (told : Option ℕ) → Follows log held s s' told → ComesTo log held s s' told
comes_falsified log held s s' told f = record { may = f.may; goes_on = f.goes_on; told_so = falsified_conflict log held s' told f.may.search f.told_so }

-- what is known of the trail where the theory was told more of it
search_told : (log log' : LogState) → Grows log log' → (held : List Held) (s : Search) → IsSearch log held s → (b : Bounds) → IsTrailOn log' s.atoms b s.trail
    → IsSearch log' held (record s { bounds = b })
search_told log log' g held s h b on =
    let grown = grown_search log log' g held s h in
    record {
      are_held = grown.are_held;
      covered = grown.covered;
      only = grown.only;
      named = grown.named;
      within = grown.within;
      watched = grown.watched;
      marks = grown.marks;
      unmarked = grown.unmarked;
      on = on;
      reasons = grown.reasons;
    }

module _ (log log' : LogState) (held : List Held) (s s' : Search) (f : Follows log held s s' None) (g : Grows log log') (b : Bounds) (on : IsTrailOn log' s'.atoms b s'.trail) where
  clash_conflict : (o : Option ℕ) → IfSome o (IsClash log' (literals_on s'.trail.entries)) → PropagatedOrConflict log' held (record s' { bounds = b }) o
  clash_conflict None c = f.told_so
  clash_conflict (Some id) c =
      record { live = c.live; falsified = clash_falsified s'.trail.size s'.trail.entries f.may.search.on.order log' id c; kind = inr c.once }

  comes_so : (o : Option ℕ) → IfSome o (IsClash log' (literals_on s'.trail.entries)) → ComesTo log' held s (record s' { bounds = b }) o
  comes_so o c =
      record {
        may = record { search = search_told log log' g held s' f.may.search b on; first = first_grown log log' s' g f.may.search.watched f.may.first };
        goes_on = f.goes_on;
        told_so = clash_conflict o c;
      }

  -- the theory is asked where all was propagated
  pub comes_told : {E : Type 0} → (r : Result (Option ℕ) E) → IfOk r (λ o. IfSome o (IsClash log' (literals_on s'.trail.entries)))
      → IfOk r (ComesTo log' held s (record s' { bounds = b }))
  comes_told r c =
      IfOk-weaker r (λ (o : Option ℕ). IfSome o (IsClash log' (literals_on s'.trail.entries))) (ComesTo log' held s (record s' { bounds = b })) comes_so c

-- the trail went on, and the list tells it
module _ (log : LogState) (s s' : Search) (rest : s' ≡ record s { trail = s'.trail; propagation = s'.propagation }) (g : GoesOn s.trail.entries s'.trail.entries) (inside : s.bounds.told ≤ length s.trail.entries) where
  same_atoms : s'.atoms ≡ s.atoms
  same_atoms = ap (λ (r : Search). r.atoms) rest

  same_bounds : s'.bounds ≡ s.bounds
  same_bounds = ap (λ (r : Search). r.bounds) rest

  pub follow_told : told_lits s'.bounds s'.trail.entries ≡ told_lits s.bounds s.trail.entries
  follow_told =
      ap (λ (b : Bounds). told_lits b s'.trail.entries) same_bounds ∙ ap literals_on (goes_told s.bounds s.trail.entries s'.trail.entries inside g)

  pub follow_tells : (work : WorkList Note) → TellsTrail log s.atoms s.bounds s.trail.entries work → TellsTrail log s'.atoms s'.bounds s'.trail.entries work
  follow_tells work tells =
      subst (λ (us : List ℕ). TellsTrail log us s'.bounds s'.trail.entries work) (sym same_atoms)
      (subst (λ (b : Bounds). TellsTrail log s.atoms b s'.trail.entries work) (sym same_bounds) (goes_tells log s.atoms s.bounds s.trail.entries s'.trail.entries work inside g tells))

-- nothing is told where a clause is falsified
pub falsified_advances : (m : TheoryState) (log : LogState) (held : List Held) (s : Search) (work : WorkList Note) → IsSearch log held s → TellsTrail log s.atoms s.bounds s.trail.entries work
    → (found : Option ℕ) → Advances m m s s.trail.entries log log held held work work (Ok found)
falsified_advances m log held s work h tells found =
    log_reaches m s s.trail.entries log log held work h.are_held (grows_none log) (λ ns levels known within order. order) (Ok found)
    (λ ns levels assumed q known on asked st. stands_so ns log s.atoms s.bounds s.trail.entries work tells (m.at ns) q st)

-- nor where memory is wanted
pub without_advances : {A : Type 0} → (m : TheoryState) (log : LogState) (held : List Held) (s : Search) (es : List Assigned) (work : WorkList Note) → IsSearch log held s → (result : Result A Stop)
    → Err Memory ≡ result → Advances m m s es log log held held work work result
without_advances {A} m log held s es work h result is =
    advances_same is
    (log_reaches m s es log log held work h.are_held (grows_none log) (λ ns levels known within order. order) (Err Memory)
    (ends_memory A m m log held s.atoms (told_lits s.bounds s.trail.entries) es work))

-- lines of a theory tell of no clause that is learned
learned_added : (log : LogState) (atoms : List ℕ) (held : List Held) (work work' : WorkList Note) → AddsLines IsOfTheory work work' → HoldsLearned log atoms held work
    → HoldsLearned log atoms held work'
learned_added log atoms held work work' adds learned ns =
    subst (All (λ (c : List (ℕ × Bool)). (i : ℕ) × Contains (ids held) i × (map (numbered atoms) (literals_at log i) ≡ c)))
    (sym (adds_keep work work' adds (λ (r : legal.Search). r.learned) ns (λ r line kind. learned_kept ns r line kind))) (learned ns)

pub consult_advances : (m m' : TheoryState) (log log' : LogState) (held : List Held) (s s' : Search) (b : Bounds) (work work' : WorkList Note) (result : Result (Option ℕ) Stop) → IsSearch log held s
    → IsSearch log held s' → s' ≡ record s { trail = s'.trail; propagation = s'.propagation } → GoesOn s.trail.entries s'.trail.entries → Consults m m' log log' s'.atoms s'.bounds b s'.trail work work' result
    → Advances m m' s s.trail.entries log log' held held work work' result
consult_advances m m' log log' held s s' b work work' result h h' rest g c =
    let atoms = ap (λ (r : Search). r.atoms) rest in
    let told = follow_told log s s' rest g h.on.inside in
    let ends : EndsLegally m m' log held s.atoms (told_lits s.bounds s.trail.entries) s'.trail.entries work work' result =
    subst (λ (us : List ℕ). EndsLegally m m' log held us (told_lits s.bounds s.trail.entries) s'.trail.entries work work' result) atoms
    (subst (λ (ls : List Lit). EndsLegally m m' log held s'.atoms ls s'.trail.entries work work' result) told (c.ends held)) in
    record {
      keeps = c.keeps;
      grows = c.grows;
      sound = subst (λ (us : List ℕ). StaysInOrder m.over us log log') atoms (order_over m.over s'.atoms s'.trail.entries h'.on.on_trail log log' c.sound);
      holds_more = holds_none log' held (held_on log log' held c.grows h.are_held);
      named = on_kept log log' s.atoms held c.grows h.are_held;
      learned = λ before. learned_added log' s.atoms held work work' c.adds (learned_grown log log' s.atoms held c.grows h.are_held work before);
      adds = adds_wider work work' c.adds;
      ends = λ ns levels assumed q known on asked st. ends ns levels assumed q known (assumed_goes s.trail.entries s'.trail.entries assumed g on) asked st;
    }

-- ---- One turn

-- a look for a conflict
pub turns_on : {start mid new : Search} → {log log' : LogState} → {held : List Held} → {work work₁ work₂ : WorkList Note} → IsSearch log held mid → IsNoted log held mid work₁
    → Carries start mid work work₁ → Grows log log' → AddsLines IsOfTheory work₁ work₂ → new.atoms ≡ mid.atoms → TellsTrail log' new.atoms new.bounds new.trail.entries work₂ → (told : Option ℕ)
    → ComesTo log' held mid new told → Turns log' held start new work work₂ told
turns_on {start} {mid} {new} {log} {log'} {held} {work} {work₁} {work₂} h noted carries grows units same tells told c =
    let more = adds_units work₁ work₂ units in
    let before = carries.units in
    record {
      may = c.may;
      told_so = c.told_so;
      noted = record {
        trail = tells;
        learned = subst (λ (us : List ℕ). HoldsLearned log' us held work₂) (sym same)
            (learned_added log' mid.atoms held work₁ work₂ units (learned_grown log log' mid.atoms held grows h.are_held work₁ noted.learned));
      };
      carries = record {
        atoms = same ∙ carries.atoms;
        first = λ l h. goes_first mid.trail.entries new.trail.entries c.goes_on l (carries.first l h);
        assumed_only = λ assumed h. goes_assumed mid.trail.entries new.trail.entries assumed c.goes_on (carries.assumed_only assumed h);
        units = omega (arith, more, before);
      };
    }

-- a clause was learned, and the search looks for the next conflict
pub learned_advances : {A B : Type 0} → {m m₁ m₂ : TheoryState} → {s mid : Search} → {log log₁ log₂ : LogState} → {held held₁ held₂ : List Held} → {work work₁ work₂ : WorkList Note} → {x : B}
    → {result : Result A Stop} → Learns log₁ held₁ s mid work work₁ → Advances m m₁ s s.trail.entries log log₁ held held₁ work work₁ (Ok x)
    → Advances m₁ m₂ mid mid.trail.entries log₁ log₂ held₁ held₂ work₁ work₂ result → Advances m m₂ s s.trail.entries log log₂ held held₂ work work₂ result
learned_advances l first step = reaches_then (reaches_step first l.noted.trail) l.carries.atoms (assumed_carried l.carries) step

pub turns_learned : {log log' : LogState} → {held : List Held} → {s mid : Search} → (new : Search) → {work work₁ work₂ : WorkList Note}
    → Learns log held s mid work work₁ → work₁.limit ≡ work.limit → Grows log log' → AddsLines IsOfTheory work₁ work₂ → new.atoms ≡ mid.atoms
    → {E : Type 0} → (r : Result (Option ℕ) E) → IfOk r (λ (told : Option ℕ). TellsTrail log' new.atoms new.bounds new.trail.entries work₂) → IfOk r (ComesTo log' held mid new)
    → IfOk r (TurnsOn log' held s new work work₂)
turns_learned {log} {log'} {held} {s} {mid} new {work} {work₁} {work₂} l limit grows units same (Ok told) tells h =
    let more = adds_units work₁ work₂ units in
    let unit = l.unit in
    let within = l.within in
    record {
      turns = turns_on l.may.search l.noted l.carries grows units same tells told h;
      more = omega (arith, more, unit);
      free = omega (arith, unit, within, limit);
    }
turns_learned new l limit grows units same (Err e) tells h = tt

-- ---- All turns

carries_none : (s : Search) (work : WorkList Note) → Carries s s work work
carries_none s work = record { atoms = refl; first = λ l h. h; assumed_only = λ assumed h. h; units = omega arith }

-- What a search knows between two turns: all was propagated, and the theory meets the trail, or there is a conflict.
pub record IsSettling (theory theory' : TheoryState) (start s : Search) (log log' : LogState) (held held' : List Held) (work work' : WorkList Note) (conflict : Option ℕ) : Type 0 where
  pub advances : Advances theory theory' start start.trail.entries log log' held held' work work' (Ok conflict)
  pub turns : Turns log' held' start s work work' conflict
  pub told : theory'.has_told (told_lits s.bounds s.trail.entries)
  pub met : conflict ≡ None → IsMet theory' s.bounds s.trail.entries

pub settles_first : {m m' : TheoryState} → {s new : Search} → {log log' : LogState} → {held : List Held} → {work work' : WorkList Note} → {told : Option ℕ} → IsSearch log held s
    → IsNoted log held s work → Advances m m' s s.trail.entries log log' held held work work' (Ok told) → AddsLines IsOfTheory work work' → new.atoms ≡ s.atoms
    → TellsTrail log' new.atoms new.bounds new.trail.entries work' → ComesTo log' held s new told → m'.has_told (told_lits new.bounds new.trail.entries)
    → (told ≡ None → IsMet m' new.bounds new.trail.entries) → IsSettling m m' s new log log' held held work work' told
settles_first {s = s} {work = work} {told = told} h noted advances units same tells comes is_told met =
    record {
      advances = advances;
      turns = turns_on h noted (carries_none s work) advances.grows units same tells told comes;
      told = is_told;
      met = met;
    }

module _ {m m' : TheoryState} {start old : Search} {log log' : LogState} {held held' : List Held} {work work' : WorkList Note} {conflict : Option ℕ}
    (t : IsSettling m m' start old log log' held held' work work' conflict) where
  -- there is a conflict
  pub conflict_of : {falsified : ℕ} → conflict ≡ Some falsified → IsConflict log' held' old.trail.entries falsified
  conflict_of is = subst (PropagatedOrConflict log' held' old) is t.turns.told_so

  -- there is none
  pub settles_open : conflict ≡ None → Settles log' held' start old work work'
  settles_open none =
      record {
        search = t.turns.may.search;
        ready = record { first = t.turns.may.first; all = subst (PropagatedOrConflict log' held' old) none t.turns.told_so };
        noted = t.turns.noted;
        carries = t.turns.carries;
      }

  -- the search goes on from here
  pub settling_reaches : Reaches m m' start start.trail.entries old log log' held held' work work'
  settling_reaches = reaches_step t.advances t.turns.noted.trail

-- ---- Back from a conflict

-- A search that went back to the last level of which a conflict has a literal.
pub record IsBack (start cut : Search) (log : LogState) (held : List Held) (work work' : WorkList Note) (falsified level : ℕ) : Type 0 where
  pub search : IsSearch log held cut
  pub conflict : IsConflict log held cut.trail.entries falsified
  pub first : AreFirst log cut
  pub depth_is : depth cut.trail.entries ≡ level
  pub last : 0 < depth cut.trail.entries → HasLast cut.trail.entries (literals_at log falsified)
  pub noted : WasNoted log held cut work'
  pub carries : Carries start cut work work'

module _ (log : LogState) (held : List Held) (start old cut : Search) (work work' : WorkList Note) (falsified level : ℕ) (search : IsSearch log held old)
    (conflict : IsConflict log held old.trail.entries falsified) (carries : Carries start old work work') (same : cut.atoms ≡ old.atoms)
    (b : GoesBackTo (literals_at log falsified) old.trail.entries cut.trail.entries level) where
  back_carries : Carries start cut work work'
  back_carries = record {
    atoms = same ∙ carries.atoms;
    first = λ l h.
        subst (λ (xs : List Assigned). IsTrueOn xs l) (sym (ap (below 0) b.cut ∙ below_twice 0 level (omega arith) old.trail.entries)) (carries.first l h);
    assumed_only = λ assumed only.
        cut_assumed log held old search falsified conflict cut.trail.entries level b assumed (carries.assumed_only assumed only);
    units = carries.units;
  }

pub goes_back : {m m' : TheoryState} → {start old cut : Search} → {log log' : LogState} → {held held' : List Held} → {work work' : WorkList Note} → {conflict : Option ℕ} → {falsified level : ℕ}
    → IsSettling m m' start old log log' held held' work work' conflict → conflict ≡ Some falsified
    → cut ≡ record old { trail = cut.trail; propagation = cut.propagation; order = cut.order; bounds = cut.bounds } → cut.trail.size ≡ old.trail.size
    → GoesBackTo (literals_at log' falsified) old.trail.entries cut.trail.entries level → cut.propagation ≡ record old.propagation { head = min old.propagation.head (length cut.trail.entries) }
    → cut.bounds ≡ record old.bounds { told = min old.bounds.told (length cut.trail.entries) }
    → IsBack start cut log' held' work work' falsified level
goes_back {start = start} {old = old} {cut = cut} {log' = log'} {held' = held'} {work = work} {work' = work'} {falsified = falsified} {level = level} t is rest size b looked bounds =
    let c = conflict_of t is in
    let search = t.turns.may.search in
    let same : cut.atoms ≡ old.atoms = ap (λ (r : Search). r.atoms) rest in
    record {
      search = cut_search log' held' old cut search rest size level b.cut looked bounds;
      conflict = cut_conflict log' held' old search falsified c cut.trail.entries level b;
      first = first_cut log' old cut level b.cut (ap (λ (p : Propagation). p.lone) looked) t.turns.may.first;
      depth_is = cut_depth log' held' old search falsified c cut.trail.entries level b;
      last = cut_last log' held' old search falsified c cut.trail.entries level b;
      noted = record {
        before = old;
        search = search;
        noted = t.turns.noted;
        level = level;
        cut = b.cut;
        atoms = same;
        marks = ap (λ (x : Bounds). x.marks) bounds;
      };
      carries = back_carries log' held' start old cut work work' falsified level search c t.turns.carries same b;
    }

-- the log grows by a refutation, and the theory stays where it was
pub back_refuted : {A : Type 0} → {m m' : TheoryState} → {start old cut : Search} → {log log' new : LogState} → {held held' : List Held} → {work work' : WorkList Note} → {conflict : Option ℕ}
    → {falsified level : ℕ} → IsSettling m m' start old log log' held held' work work' conflict → IsBack start cut log' held' work work' falsified level → Grows log' new
    → StaysSound cut.trail.entries log' new → (result : Result A Stop)
    → (EndsLegally m m' log held start.atoms (told_lits start.bounds start.trail.entries) start.trail.entries work work' (Ok conflict)
    → EndsLegally m m' log held start.atoms (told_lits start.bounds start.trail.entries) start.trail.entries work work' result)
    → Advances m m' start start.trail.entries log new held held' work work' result
back_refuted {m = m} {m' = m'} {start = start} {cut = cut} {log = log} {log' = log'} {new = new} {held' = held'} {work' = work'} t b grows sound result ends =
    let p = t.advances in
    let more = subst (λ (us : List ℕ). StaysInOrder m'.over us log' new) b.carries.atoms
    (order_over m'.over cut.atoms cut.trail.entries b.search.on.on_trail log' new (λ ns levels known. sound ns levels)) in
    record {
      keeps = p.keeps;
      grows = grows_far log log' new p.grows grows;
      sound = λ ns levels known within order.
          more ns levels (p.keeps.over ns known) (atoms_stay log.atoms log'.atoms p.grows.atoms ns start.atoms within) (p.sound ns levels known within order);
      holds_more = record { learned = p.holds_more.learned; joined = p.holds_more.joined; never_needed = p.holds_more.never_needed; held = held_on log' new held' grows p.holds_more.held };
      named = λ on. on_kept log' new start.atoms held' grows p.holds_more.held (p.named on);
      learned = λ before. learned_grown log' new start.atoms held' grows p.holds_more.held work' (p.learned before);
      adds = p.adds;
      ends = ends p.ends;
    }

-- where memory is wanted the list is legal
pub ends_without : (A B : Type 0) (x : A) (m m' : TheoryState) (log : LogState) (held : List Held) (atoms : List ℕ) (told : List Lit) (es : List Assigned) (work work' : WorkList Note)
    → EndsLegally {A = A} m m' log held atoms told es work work' (Ok x) → EndsLegally {A = B} m m' log held atoms told es work work' (Err Memory)
ends_without A B x m m' log held atoms told es work work' ends ns levels assumed q known on asked st = stands_legal (ends ns levels assumed q known on asked st)

module _ {start cut : Search} {log' : LogState} {held' : List Held} {work work' : WorkList Note} {falsified level : ℕ} (b : IsBack start cut log' held' work work' falsified level) where
  pub back_falsified : (assumed : List Lit) → IsFalsifiedUnder assumed cut.trail.entries (literals_at log' falsified)
  back_falsified assumed l has = inl (b.conflict.falsified l has)

  -- it is learned from
  pub settles_on : {m m' m'' : TheoryState} → {new : Search} → {log log₁ : LogState} → {held held₁ : List Held} → {work₁ : WorkList Note} → {told : Option ℕ}
      → Reaches m m' start start.trail.entries cut log log' held held' work work'
      → Steps m' m'' cut cut.trail.entries new log' log₁ held' held₁ work' work₁ (Ok told)
      → m''.has_told (told_lits new.bounds new.trail.entries) → TurnsOn log₁ held₁ cut new work' work₁ told → IsSettling m m'' start new log log₁ held held₁ work work₁ told
  settles_on {new = new} {work₁ = work₁} reaches step is_told on =
      let t = on.turns in
      record {
        advances = reaches_then reaches b.carries.atoms (assumed_carried b.carries) step.advances;
        turns = record {
          may = t.may;
          told_so = t.told_so;
          noted = t.noted;
          carries = carries_far start cut new work work' work₁ b.carries t.carries;
        };
        told = is_told;
        met = step.met;
      }

  pub steps_on : {m m' m'' : TheoryState} → {new : Search} → {log log₁ : LogState} → {held held₁ : List Held} → {work₁ : WorkList Note} → {answer : Result (Option ℕ) Stop}
      → Reaches m m' start start.trail.entries cut log log' held held' work work' → Steps m' m'' cut cut.trail.entries new log' log₁ held' held₁ work' work₁ answer
      → Steps m m'' start start.trail.entries new log log₁ held held₁ work work₁ answer
  steps_on reaches step = steps_behind (reaches_then reaches b.carries.atoms (assumed_carried b.carries) step.advances) step
