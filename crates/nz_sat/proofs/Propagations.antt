-- What a search that follows its clauses carries on, and one that puts an assumed literal on its trail.
use Rattle.std.proofs.Common.{◌≡◌, ◌≢◌, ℕ, ◌+◌, ◌<◌, ◌≤◌, Bool, true, false, not, if◌then◌else◌, List, [], ◌∷◌, ◌++◌, length, take, drop, map, get_or, Option, Some, None, Result, Ok, Err, ◌⊎◌, inl, inr, refl, sym, ap, subst, ◌∙◌, arith, All, IsSome, filter}
use Rattle.std.specs.Prelude.{Contains, IfOk, IfSome, option_map, slice_get}
use Rattle.std.proofs.lemmas.List.{append-nil, take-append-drop, take-append-le}
use Rattle.std.proofs.lemmas.List.Elements.{All-append, All-contains, All-head, All-push, All-tail, All-weaker, filter-append}
use Rattle.std.proofs.lemmas.List.Sums.{sum_by_push}
use Rattle.std.proofs.lemmas.Option.{IfSome_then, slice_get-get_or}
use Rattle.nz_lists.proofs.Members.{has_found}
use Rattle.nz_spec.specs.search.Work.{WorkList}
use Rattle.nz_log.specs.declared.lits.Lit.{Lit}
use Rattle.nz_log.specs.Atoms.{TellsLits}
use Rattle.nz_log.specs.Lits.{are_same_lit, negated_lit}
use Rattle.nz_log.specs.Logs.{LogState, literals_at}
use Rattle.nz_search.specs.declared.note.Note.{Note}
use Rattle.nz_sat.specs.declared.clauses.Held.{Held}
use Rattle.nz_sat.specs.declared.consult.Bounds.{Bounds}
use Rattle.nz_sat.specs.declared.propagation.Propagation.{Propagation}
use Rattle.nz_sat.specs.declared.search.Search.{Search}
use Rattle.nz_sat.specs.declared.trail.Assigned.{Assigned}
use Rattle.nz_sat.specs.Trails.{GoesOn, IsFalseOn, IsTrueOn, TrailState, assigned, below, depth, is_decision, with_entry}
use Rattle.nz_sat.specs.Clauses.{HasReasonOf, HasTrue, IsAssumed, IsFalsified, IsReason, IsReasonOf, IsReasonOneOf, Visits}
use Rattle.nz_sat.specs.Conflicts.{IsFalsifiedUnder}
use Rattle.nz_sat.specs.Numbers.{numbered}
use Rattle.nz_sat.specs.Sats.{ids}
use Rattle.nz_sat.specs.Searching.{AreFirst, Assumes, Carries, Follows, IsSearch, KeepsFirst, MayAssume, MayFollow, PropagatedOrFalsified}
use Rattle.nz_sat.specs.Theories.{TellsTrail, bounds_on, told_literal, told_on}
use Rattle.nz_sat.specs.Watched.{AreWatched, HasClause, KeepsClauses, lone_ids, watch_state}
use Rattle.nz_sat.proofs.HeldNumbers.{ids_only}
use Rattle.nz_sat.proofs.AtomTrails.{trail_goes, trail_push}
use Rattle.nz_sat.proofs.Clausal.{either_sign, other_lit, sign_again, slice_get_behind, truth_found}
use Rattle.nz_sat.proofs.Levels.{below_join}
use Rattle.nz_sat.proofs.TrailEntries.{assigned_missing, assigned_one, assigned_place}
use Rattle.nz_sat.proofs.TrailGrowth.{goes_assumed, goes_true, held_live, lowest_level}
use Rattle.nz_sat.proofs.VisitedClauses.{goes_depth, no_decision}
use Rattle.nz_sat.proofs.WatchedTrails.{first_entry_watched, first_on, had_as, kept_as, true_more}

-- ---- The trail goes on

no_decisions : (more : List Assigned) → All (λ (e : Assigned). IsSome e.reason) more → filter is_decision more ≡ []
no_decisions [] h = refl
no_decisions (e ∷ es) h =
    let P : Assigned → Type 0 = λ x. IsSome x.reason in
    ap (λ (b : Bool). if b then e ∷ filter is_decision es else filter is_decision es) (no_decision e (All-head P e es h)) ∙ no_decisions es (All-tail P e es h)

pub goes_decisions : (es es' : List Assigned) → GoesOn es es' → filter is_decision es' ≡ filter is_decision es
goes_decisions es es' g =
    ap (filter is_decision) g.joined ∙ filter-append is_decision es g.more ∙ ap (λ (xs : List Assigned). filter is_decision es ++ xs) (no_decisions g.more g.implied)
    ∙ append-nil (filter is_decision es)

-- what was told stays so
pub goes_told : (b : Bounds) (es es' : List Assigned) → b.told ≤ length es → GoesOn es es' → told_on b es' ≡ told_on b es
goes_told b es es' inside g =
    ap (λ (xs : List Assigned). told_on b xs) g.joined ∙ ap (bounds_on b.marks.items) (take-append-le b.told es g.more inside)

pub goes_tells : (log : LogState) (atoms : List ℕ) (b : Bounds) (es es' : List Assigned) (work : WorkList Note) → b.told ≤ length es → GoesOn es es' → TellsTrail log atoms b es work
    → TellsTrail log atoms b es' work
goes_tells log atoms b es es' work inside g h =
    record {
      named = h.named;
      decided = λ ns. h.decided ns ∙ ap (map (λ (e : Assigned). numbered atoms e.literal)) (sym (goes_decisions es es' g));
      told = λ ns. h.told ns ∙ ap (map (told_literal ns log.atoms)) (sym (goes_told b es es' inside g));
    }

pub goes_first : (es es' : List Assigned) → GoesOn es es' → KeepsFirst es es'
goes_first es es' g l h =
    subst (λ (xs : List Assigned). IsTrueOn xs l) (sym (ap (below 0) g.joined ∙ below_join 0 es g.more)) (truth_found (below 0 es) (below 0 g.more) l.atom l.sign h)

pub carries_far : (r s t : Search) (u v w : WorkList Note) → Carries r s u v → Carries s t v w → Carries r t u w
carries_far r s t u v w c d =
    let a = c.units in
    let b = d.units in
    record {
      atoms = d.atoms ∙ c.atoms;
      first = λ l h. d.first l (c.first l h);
      assumed_only = λ assumed h. d.assumed_only assumed (c.assumed_only assumed h);
      units = omega arith;
    }

-- ---- The search goes on

-- what follows by a clause that is held is an atom
reason_named : (log : LogState) (before : List Assigned) (us atoms : List ℕ) (l : Lit) (o : Option ℕ)
    → All (λ (i : ℕ). All (λ (m : Lit). Contains atoms m.atom) (literals_at log i)) us → IsSome o → IsReasonOf log before l o → IsReasonOneOf us o → Contains atoms l.atom
reason_named log before us atoms l None named some reason one = cc
reason_named log before us atoms l (Some c) named some reason one =
    All-contains (λ (m : Lit). Contains atoms m.atom) (literals_at log c) l
    (All-contains (λ (i : ℕ). All (λ (m : Lit). Contains atoms m.atom) (literals_at log i)) us c named one) reason.has

pub goes_search : (log : LogState) (held : List Held) (s : Search) (t : TrailState) (p : Propagation) → IsSearch log held s → {among : List ℕ → Type 0} → Visits log among s.trail t → among (ids held)
    → KeepsClauses s.propagation p → AreWatched log (watch_state p t) → IsSearch log held (record s { trail = t; propagation = p })
goes_search log held s t p h v all keeps watched =
    let es = s.trail.entries in
    let size = v.size in
    let g = v.goes_on in
    let implied = v.implied h.on.implied in
    let reasons = v.reasons (ids held) all h.reasons in
    let N : Assigned → Type 0 = λ e. Contains s.atoms e.literal.atom in
    let place : (k : ℕ) (d : Assigned) → k < length g.more → slice_get t.entries (length es + k) ≡ Some (get_or g.more k d) =
    λ k d inside.
    subst (λ (xs : List Assigned). slice_get xs (length es + k) ≡ Some (get_or g.more k d)) (sym g.joined)
    (slice_get_behind es g.more k (get_or g.more k d) (slice_get-get_or g.more k d inside)) in
    let more_named : All N g.more =
    λ k d inside.
    let e = get_or g.more k d in
    reason_named log (take (length es + k) t.entries) (ids held) s.atoms e.literal e.reason h.named (g.implied k d inside) (implied (length es + k) e (place k d inside))
    (All-contains (HasReasonOf (ids held)) t.entries e reasons
    (has_found t.entries (length es + k) e (place k d inside))) in
    record {
      are_held = h.are_held;
      covered = λ g has. kept_as s.propagation p g keeps (h.covered g has);
      only = λ g has. h.only g (had_as s.propagation p g keeps has);
      named = h.named;
      within = subst (λ (n : ℕ). All (λ (u : ℕ). u < n) s.atoms) (sym size) h.within;
      watched = watched;
      marks = h.marks ∙ sym size;
      unmarked = h.unmarked;
      on = trail_goes log s.atoms s.bounds s.trail h.on t (v.order h.on.order) g implied (subst (All N) (sym g.joined) (All-append N es g.more h.on.on_trail more_named));
      reasons = reasons;
    }

-- what propagation answers
module _ (log : LogState) (held : List Held) (s : Search) (t : TrailState) (p : Propagation) (may : MayFollow log held s)
    (v : Visits log (λ (us : List ℕ). (i : ℕ) → HasClause s.propagation i → Contains us i) s.trail t) (keeps : KeepsClauses s.propagation p) (watched : AreWatched log (watch_state p t)) where
  abbrev followed : Search
  followed = record s { trail = t; propagation = p }

  follows_one : (told : Option ℕ) → (told ≡ None → p.head ≡ length t.entries) → IfSome told (λ id. HasClause p id × IsFalsified t.entries (literals_at log id)) → Follows log held s followed told
  follows_one told all falsified =
      let search = goes_search log held s t p may.search v (ids_only held s.propagation may.search.only) keeps watched in
      let so : (o : Option ℕ) → (o ≡ None → p.head ≡ length t.entries) → IfSome o (λ id. HasClause p id × IsFalsified t.entries (literals_at log id)) → PropagatedOrFalsified log held followed o =
      λ o. elim o as (λ x. (x ≡ None → p.head ≡ length t.entries) → IfSome x (λ id. HasClause p id × IsFalsified t.entries (literals_at log id)) → PropagatedOrFalsified log held followed x) [
        | None ↦ λ a f. a refl
        | Some id ↦ λ a f. (ids_only held p search.only id f.0, f.1)
      ] in
      record {
        may = record { search = search; first = first_on log s followed v.goes_on keeps.lone may.first };
        goes_on = v.goes_on;
        told_so = so told all falsified;
      }

  pub follows_so : {E : Type 0} → (r : Result (Option ℕ) E) → IfOk r (λ o. o ≡ None → p.head ≡ length t.entries)
      → IfOk r (λ o. IfSome o (λ id. HasClause p id × IsFalsified t.entries (literals_at log id))) → IfOk r (Follows log held s (record s { trail = t; propagation = p }))
  follows_so (Ok told) all falsified = follows_one told all falsified
  follows_so (Err e) all falsified = tt

-- ---- An assumed literal

module _ (log : LogState) (held : List Held) (assumed : List Lit) (l : Lit) (s : Search) (may : MayAssume log held assumed l s) (undecided : depth s.trail.entries ≡ 0) where
  opposite : (e : Assigned) → assigned s.trail.entries l.atom ≡ Some e → e.literal ≢ l → e.literal ≡ negated_lit l
  opposite e at other =
      let term : e.literal.atom ≡ l.atom = (assigned_place s.trail.entries l.atom e at).0 in
      elim (either_sign e.literal.sign l.sign) [
        | inl same ↦ absurd (other (λ i. record { atom = term i; sign = same i }))
        | inr turned ↦ λ i. record { atom = term i; sign = turned i }
      ]

  false_later : (i : ℕ) (m : Lit) → IsFalseOn (take i s.trail.entries) m → IsFalseOn s.trail.entries m
  false_later i m h =
      subst (λ (xs : List Assigned). IsFalseOn xs m) (take-append-drop i s.trail.entries)
      (truth_found (take i s.trail.entries) (drop i s.trail.entries) m.atom (not m.sign) h)

  reason_falsified : TellsLits → (i : ℕ) (e : Assigned) (c : ℕ) → e.literal ≡ negated_lit l → IsReason log (take i s.trail.entries) e.literal c
      → IsFalsifiedUnder assumed s.trail.entries (literals_at log c)
  reason_falsified tells i e c turned reason m has =
      elim (are_same_lit m e.literal) as (λ b. are_same_lit m e.literal ≡ b → IsFalseOn s.trail.entries m ⊎ Contains assumed (negated_lit m)) [
        | true ↦ λ same.
            let back : negated_lit m ≡ l =
            ap negated_lit (tells.same m e.literal same ∙ turned) ∙ (λ i. record { atom = l.atom; sign = sign_again l.sign i }) in
            inr (subst (Contains assumed) (sym back) may.among)
        | false ↦ λ differ. inl (false_later i m (reason.others m has (other_lit tells m e.literal differ)))
      ] refl

  pub assume_fails : TellsLits → (e : Assigned) → assigned s.trail.entries l.atom ≡ Some e → e.literal ≢ l → Assumes log held assumed l s.trail.entries s e.reason
  assume_fails tells e at other =
      let es = s.trail.entries in
      let turned = opposite e at other in
      let place = (assigned_place es l.atom e at).1 in
      let caused : IsReasonOf log (take place.0 es) e.literal e.reason = may.search.on.implied place.0 e place.1 in
      elim e.reason as (λ o. e.reason ≡ o → IsReasonOf log (take place.0 es) e.literal o → Assumes log held assumed l es s o) [
        | None ↦ λ none reason.
            let low = lowest_level es undecided place.0 e place.1 none in
            let there : Contains assumed e.literal = All-contains (IsAssumed assumed) es e may.assumed_only (has_found es place.0 e place.1) none low in
            absurd (All-contains (λ (m : Lit). Contains assumed (negated_lit m) → ⊥) assumed l may.consistent may.among (subst (Contains assumed) turned there))
        | Some c ↦ λ some reason.
            record {
              search = may.search;
              assumed_only = may.assumed_only;
              undecided = undecided;
              kept = λ m h. h;
              holds = λ told. cc;
              ready = λ told. cc;
              falsified = (reason.live, reason_falsified tells place.0 e c turned reason);
            }
      ] refl caused

  -- ---- It is put on the trail

  abbrev pub entry : Assigned
  entry = record { literal = l; level = 0; reason = None }

  module _ (free : assigned s.trail.entries l.atom ≡ None) (t : TrailState) (p : Propagation) (among : List ℕ → Type 0) (v : Visits log among (with_entry s.trail entry) t)
      (keeps : KeepsClauses s.propagation p) (watched : AreWatched log (watch_state p t)) where
    put_depth : depth (s.trail.entries ++ entry ∷ []) ≡ 0
    put_depth = let one : depth (s.trail.entries ++ entry ∷ []) ≡ depth s.trail.entries + 0 = sum_by_push (λ (x : Assigned). if is_decision x then 1 else 0) s.trail.entries entry in omega arith

    put_search : IsSearch log held (record s { trail = with_entry s.trail entry })
    put_search =
        let h = may.search in
        record {
          are_held = h.are_held;
          covered = h.covered;
          only = h.only;
          named = h.named;
          within = h.within;
          watched = first_entry_watched log s.propagation s.trail entry put_depth h.watched;
          marks = h.marks;
          unmarked = h.unmarked;
          on = trail_push log s.atoms s.bounds s.trail h.on entry free (All-contains (λ (u : ℕ). u < s.trail.size) s.atoms l.atom h.within may.atom) may.atom tt (sym put_depth)
              (inl (put_depth ∙ sym undecided));
          reasons = All-push (HasReasonOf (ids held)) s.trail.entries entry h.reasons tt;
        }

    put_true : IsTrueOn (s.trail.entries ++ entry ∷ []) l
    put_true = ap (option_map (λ (x : Assigned). x.literal.sign)) (assigned_missing s.trail.entries (entry ∷ []) l.atom free ∙ assigned_one entry l.atom refl)

    put_first : AreFirst log (record s { trail = with_entry s.trail entry })
    put_first =
        All-weaker (λ (i : ℕ). HasTrue (below 0 s.trail.entries) (literals_at log i)) (λ (i : ℕ). HasTrue (below 0 (s.trail.entries ++ entry ∷ [])) (literals_at log i))
        (λ i h. subst (λ (xs : List Assigned). HasTrue xs (literals_at log i)) (sym (below_join 0 s.trail.entries (entry ∷ [])))
        (true_more (below 0 s.trail.entries) (below 0 (entry ∷ [])) (literals_at log i) h)) (lone_ids s.propagation) may.ready.first

    pub assume_goes : (told : Option ℕ) → among (ids held) → (told ≡ None → p.head ≡ length t.entries)
        → IfSome told (λ id. HasClause p id × IsFalsified t.entries (literals_at log id))
        → Assumes log held assumed l s.trail.entries (record s { trail = t; propagation = p }) told
    assume_goes told all looked falsified =
        let put : Search = record s { trail = with_entry s.trail entry } in
        let search = goes_search log held put t p put_search v all keeps watched in
        record {
          search = search;
          assumed_only = goes_assumed (s.trail.entries ++ entry ∷ []) t.entries assumed v.goes_on
              (All-push (IsAssumed assumed) s.trail.entries entry may.assumed_only (λ none level. may.among));
          undecided = goes_depth (s.trail.entries ++ entry ∷ []) t.entries v.goes_on ∙ put_depth;
          kept = λ m h. goes_true (s.trail.entries ++ entry ∷ []) t.entries v.goes_on m (truth_found s.trail.entries (entry ∷ []) m.atom m.sign h);
          holds = λ none. goes_true (s.trail.entries ++ entry ∷ []) t.entries v.goes_on l put_true;
          ready = λ none. record { first = first_on log put (record s { trail = t; propagation = p }) v.goes_on keeps.lone put_first; all = looked none };
          falsified = IfSome_then told falsified (λ id q. (held_live log held may.search.are_held id (ids_only held p search.only id q.0), λ m has. inl (q.1 m has)));
        }
