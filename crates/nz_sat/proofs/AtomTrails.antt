-- Trails over atoms of a log: what is so of them where they grow, where they are cut, and where the log grows.
use Rattle.std.proofs.Common.{◌≡◌, ℕ, ◌+◌, ◌^◌, ◌<◌, ◌≤◌, ◌⊎◌, Bool, true, false, List, [], ◌∷◌, ◌++◌, length, min, take, drop, map, not, get_or, Option, Some, None, inl, inr, refl, sym, ap, subst, ◌∙◌, arith, true≢false}
use Rattle.std.specs.Prelude.{All, Contains, IsSome, nat_le, slice_get, slice_index_or}
use Rattle.std.specs.List.{AllByRecursion}
use Rattle.std.proofs.lemmas.Bool.Decides.{leb_tells}
use Rattle.std.proofs.Math.Nat.{min-eq_left, min-eq_right, min-le_left, min-le_right}
use Rattle.std.proofs.lemmas.List.{append-nil, drop-append-le, drop_all, length-append, length-take, length_push, take-append-drop}
use Rattle.std.proofs.lemmas.List.Elements.{All-append, All-cons, All-contains, All-filter, All-nil, All-push, All-weaker}
use Rattle.std.proofs.lemmas.List.Filters.{length-filter_both}
use Rattle.std.proofs.lemmas.Option.{slice_get-get_or, slice_get_within}
use Rattle.nz_lists.proofs.Members.{map_has}
use Rattle.nz_log.specs.declared.atoms.Atom.{Atom}
use Rattle.nz_log.specs.declared.atoms.Atom.TheVariants.{Term, AtMost}
use Rattle.nz_log.specs.declared.lits.Lit.{Lit}
use Rattle.nz_log.specs.Atoms.{AreAtoms, terms_of}
use Rattle.nz_log.specs.Leveled.{AreTold, AreToldAtoms, Names}
use Rattle.nz_log.specs.Logs.{Entry, LogState, IsLive, literals_at, told_of}
use Rattle.nz_search.specs.Theories.{IsBoundIn}
use Rattle.nz_log.specs.Growth.{Grows}
use Rattle.nz_sat.specs.declared.consult.Bounds.{Bounds}
use Rattle.nz_sat.specs.declared.trail.Assigned.{Assigned}
use Rattle.nz_sat.specs.Clauses.{IsImplied, IsReasonOf}
use Rattle.nz_sat.specs.Conflicts.{is_marked}
use Rattle.nz_sat.specs.Theories.{AreLast, IsTrailOn, is_bound, is_bound_at, told_on}
use Rattle.nz_sat.specs.Trails.{DropsLast, EachBehind, GoesOn, IsNext, IsTrail, TrailState, assigned, below, depth, with_entry}
use Rattle.nz_sat.proofs.LearnedClauses.{all_from}
use Rattle.nz_sat.proofs.Levels.{below_all, below_front, below_join, below_none}
use Rattle.nz_sat.proofs.LogGrowth.{same_at}
use Rattle.nz_sat.proofs.TrailEntries.{each_front, each_push, each_weaker, level_within, order_put}
use Rattle.nz_sat.proofs.VisitedClauses.{goes_depth}

-- ---- Clauses and reasons

-- a clause keeps its literals
pub literals_kept : (log log' : LogState) → Grows log log' → (i : ℕ) → IsLive log i → literals_at log' i ≡ literals_at log i
literals_kept log log' g i live = ap (λ (o : Option Entry). elim o [ None ↦ [] | Some e ↦ e.literals ]) (g.kept i live)

-- a reason stays one
pub reason_kept : (log log' : LogState) → Grows log log' → (before : List Assigned) (m : Lit) (o : Option ℕ) → IsReasonOf log before m o → IsReasonOf log' before m o
reason_kept log log' g before m None r = tt
reason_kept log log' g before m (Some c) r =
    let same = literals_kept log log' g c r.live in
    record {
      live = g.live c r.live;
      has = subst (λ (d : List Lit). Contains d m) (sym same) r.has;
      others = λ n has other. r.others n (subst (λ (d : List Lit). Contains d n) same has) other;
    }

-- ---- Atoms of which a level was told

abbrev HasToldLevel : LogState → ℕ → Type 0
HasToldLevel log t = IsSome (told_of log t)

-- the positive literal on an atom
abbrev on : ℕ → Lit
on i = record { atom = i; sign = true }

pub names_at : (log : LogState) (ids : List ℕ) → AreToldAtoms log ids → (l : Lit) → Contains ids l.atom → Names (HasToldLevel log) log.atoms l
names_at log ids there l has =
    let n = All-contains (Names (HasToldLevel log) log.atoms) (map on ids) (on l.atom) there (map_has on ids l.atom has) in
    record { atom = n.atom; at = n.at; terms = n.terms }

pub names_told : (log : LogState) (ids : List ℕ) → AreToldAtoms log ids → (ls : List Lit) → ((l : Lit) → Contains ls l → Contains ids l.atom) → AreTold log ls
names_told log ids there ls among = all_from (Names (HasToldLevel log) log.atoms) ls (λ l has. names_at log ids there l (among l has))

pub names_some : (log : LogState) (ids : List ℕ) → AreToldAtoms log ids → All (λ (i : ℕ). IsSome (slice_get log.atoms i)) ids
names_some log ids there =
    all_from (λ (i : ℕ). IsSome (slice_get log.atoms i)) ids
    (λ i has. let n = names_at log ids there (on i) has in subst IsSome (sym n.at) refl)

pub names_small : (log : LogState) (ids : List ℕ) → AreToldAtoms log ids → AreAtoms log.atoms → (i : ℕ) → Contains ids i → i < 2 ^ 31
names_small log ids there are i has =
    let n = names_at log ids there (on i) has in
    let within : i < length log.atoms = slice_get_within log.atoms i n.atom n.at in
    omega (arith, within, are.few)

names_grown : (log log' : LogState) → Grows log log' → (l : Lit) → Names (HasToldLevel log) log.atoms l → Names (HasToldLevel log') log'.atoms l
names_grown log log' g l n =
    record {
      atom = n.atom;
      at = g.atoms l.atom n.atom n.at;
      terms = subst (λ (told : List (Option ℕ)). AllByRecursion (λ t. IsSome (slice_index_or told t None)) (terms_of n.atom)) (sym g.told) n.terms;
    }

pub there_grown : (log log' : LogState) → Grows log log' → (ids : List ℕ) → AreToldAtoms log ids → AreToldAtoms log' ids
there_grown log log' g ids there = All-weaker (Names (HasToldLevel log) log.atoms) (Names (HasToldLevel log') log'.atoms) (names_grown log log' g) (map on ids) there

-- ---- Atoms that are bounds

bound_found : (o : Option Atom) (all : List Atom) (i : ℕ) (sign : Bool) → slice_get all i ≡ o → elim o [ None ↦ false | Some a ↦ is_bound a ] ≡ true
    → (log : LogState) → log.atoms ≡ all → IsBoundIn log (record { atom = i; sign = sign })
bound_found None all i sign at is log same = absurd (true≢false (sym is))
bound_found (Some (Term t)) all i sign at is log same = absurd (true≢false (sym is))
bound_found (Some (AtMost b)) all i sign at is log same = (b, ap (λ (us : List Atom). slice_get us i) same ∙ at)

pub marked_bound : (log : LogState) (ids : List ℕ) (marks : List Bool) → All (λ (t : ℕ). is_marked marks t ≡ is_bound_at log.atoms t) ids → (l : Lit) → Contains ids l.atom
    → is_marked marks l.atom ≡ true → IsBoundIn log l
marked_bound log ids marks marked l has is =
    let tells = All-contains (λ (t : ℕ). is_marked marks t ≡ is_bound_at log.atoms t) ids l.atom marked has in
    bound_found (slice_get log.atoms l.atom) log.atoms l.atom l.sign refl (sym tells ∙ is) log refl

pub bound_marked : (log : LogState) (ids : List ℕ) (marks : List Bool) → All (λ (t : ℕ). is_marked marks t ≡ is_bound_at log.atoms t) ids → (l : Lit) → Contains ids l.atom
    → IsBoundIn log l → is_marked marks l.atom ≡ true
bound_marked log ids marks marked l has b =
    All-contains (λ (t : ℕ). is_marked marks t ≡ is_bound_at log.atoms t) ids l.atom marked has
    ∙ ap (λ (o : Option Atom). elim o [ None ↦ false | Some a ↦ is_bound a ]) b.1

-- ---- The last level

pub last_goes : (n : ℕ) (es es' : List Assigned) → n ≤ length es → GoesOn es es' → AreLast n es → AreLast n es'
last_goes n es es' inside g last =
    let P : Assigned → Type 0 = λ e. e.level ≡ depth es in
    let parts : drop n es' ≡ drop n es ++ g.more = ap (drop n) g.joined ∙ drop-append-le n es g.more inside in
    subst (λ (m : ℕ). All (λ (e : Assigned). e.level ≡ m) (drop n es')) (sym (goes_depth es es' g)) (subst (All P) (sym parts) (All-append P (drop n es) g.more last g.last))

-- one entry more at the same level, or the first of a new one where all was told
pub last_push : (n : ℕ) (es : List Assigned) (e : Assigned) → n ≤ length es → e.level ≡ depth (es ++ e ∷ []) → (depth (es ++ e ∷ []) ≡ depth es) ⊎ (n ≡ length es) → AreLast n es
    → AreLast n (es ++ e ∷ [])
last_push n es e inside level (inl same) last =
    let P : Assigned → Type 0 = λ x. x.level ≡ depth (es ++ e ∷ []) in
    let old : All P (drop n es) = subst (λ (m : ℕ). All (λ (x : Assigned). x.level ≡ m) (drop n es)) (sym same) last in
    subst (All P) (sym (drop-append-le n es (e ∷ []) inside)) (All-push P (drop n es) e old level)
last_push n es e inside level (inr all) last =
    let P : Assigned → Type 0 = λ x. x.level ≡ depth (es ++ e ∷ []) in
    let none : drop n es ≡ [] = drop_all n es (omega (arith, all)) in
    let parts : drop n (es ++ e ∷ []) ≡ e ∷ [] = drop-append-le n es (e ∷ []) inside ∙ ap (λ (xs : List Assigned). xs ++ e ∷ []) none in
    subst (All P) (sym parts) (All-cons P e [] level (All-nil P))

-- what wasn't told goes first: where the trail is cut, what was told is cut too, or nothing is
pub cut_told : (n k : ℕ) (es : List Assigned) → AreLast n es → k < depth es → below k (take n es) ≡ below k es
cut_told n k es last less =
    let high : All (λ (e : Assigned). k < e.level) (drop n es) =
    All-weaker (λ (e : Assigned). e.level ≡ depth es) (λ (e : Assigned). k < e.level) (λ e same. omega (arith, same, less)) (drop n es) last in
    sym
    (ap (below k) (sym (take-append-drop n es)) ∙ below_join k (take n es) (drop n es)
    ∙ ap (λ (xs : List Assigned). below k (take n es) ++ xs) (below_none k (drop n es) high) ∙ append-nil (below k (take n es)))

pub cut_short : (n k : ℕ) (es : List Assigned) → AreLast n es → k < depth es → length (below k es) ≤ n
cut_short n k es last less =
    let same = ap length (cut_told n k es last less) in
    let p : Assigned → Bool = λ e. nat_le e.level k in
    let parts = length-filter_both p (λ e. not (p e)) (λ e. refl) (take n es) in
    let most = length-take n es in
    let least = min-le_left n (length es) in
    omega (arith, same, parts, most, least)

-- ---- Trails

module _ (log : LogState) (atoms : List ℕ) (b : Bounds) (t : TrailState) (h : IsTrailOn log atoms b t) where
  abbrev es : List Assigned
  es = t.entries

  -- the log grows
  pub trail_grown : (log' : LogState) → Grows log log' → IsTrailOn log' atoms b t
  trail_grown log' g =
      record {
        there = there_grown log log' g atoms h.there;
        marked = all_from (λ (i : ℕ). is_marked b.marks.items i ≡ is_bound_at log'.atoms i) atoms
            (λ i has.
            All-contains (λ (j : ℕ). is_marked b.marks.items j ≡ is_bound_at log.atoms j) atoms i h.marked has
            ∙ sym (ap (λ (o : Option Atom). elim o [ None ↦ false | Some a ↦ is_bound a ])
            (same_at log.atoms log'.atoms g.atoms i (All-contains (λ (j : ℕ). IsSome (slice_get log.atoms j)) atoms i (names_some log atoms h.there) has))));
        on_trail = h.on_trail;
        order = h.order;
        implied = each_weaker (IsImplied log) (IsImplied log') (λ before e r. reason_kept log log' g before e.literal e.reason r) es h.implied;
        inside = h.inside;
        untold_last = h.untold_last;
      }

  -- the trail goes on
  pub trail_goes : (t' : TrailState) → IsTrail t' → GoesOn es t'.entries → EachBehind (IsImplied log) t'.entries → All (λ (e : Assigned). Contains atoms e.literal.atom) t'.entries
      → IsTrailOn log atoms b t'
  trail_goes t' order g implied on_trail =
      let long = ap length g.joined ∙ length-append es g.more in
      let inside = h.inside in
      record {
        there = h.there;
        marked = h.marked;
        on_trail = on_trail;
        order = order;
        implied = implied;
        inside = omega (arith, long, inside);
        untold_last = last_goes b.told es t'.entries h.inside g h.untold_last;
      }

  -- by one entry
  pub trail_push : (e : Assigned) → assigned es e.literal.atom ≡ None → e.literal.atom < t.size → Contains atoms e.literal.atom → IsImplied log es e → e.level ≡ depth (es ++ e ∷ [])
      → (depth (es ++ e ∷ []) ≡ depth es) ⊎ (b.told ≡ length es) → IsTrailOn log atoms b (with_entry t e)
  trail_push e free within atom implied level kind =
      let long = length_push es e in
      let inside = h.inside in
      record {
        there = h.there;
        marked = h.marked;
        on_trail = All-push (λ (x : Assigned). Contains atoms x.literal.atom) es e h.on_trail atom;
        order = order_put t.size es e h.order free within level;
        implied = each_push (IsImplied log) es e h.implied implied;
        inside = omega (arith, long, inside);
        untold_last = last_push b.told es e h.inside level kind h.untold_last;
      }

  up_to_depth : (k : ℕ) → depth es ≤ k → below k es ≡ es
  up_to_depth k high =
      below_all k es
      (λ i d inside. let level = level_within t.size es h.order i (get_or es i d) (slice_get-get_or es i d inside) in omega (arith, level, high))

  -- the trail is cut
  pub trail_cut : (k : ℕ) (b' : Bounds) (t' : TrailState) → t'.size ≡ t.size → t'.entries ≡ below k es → b' ≡ record b { told = min b.told (length t'.entries) } → IsTrailOn log atoms b' t'
  trail_cut k b' t' size cut same =
      let front = below_front t.size es h.order k in
      let es' = below k es in
      let n = min b.told (length es') in
      let made : IsTrailOn log atoms (record b { told = n }) (record { entries = es'; size = t'.size }) =
      record {
        there = h.there;
        marked = h.marked;
        on_trail = All-filter (λ (e : Assigned). nat_le e.level k) (λ (e : Assigned). Contains atoms e.literal.atom) es h.on_trail;
        order = subst (λ (m : ℕ). EachBehind (IsNext m) es') (sym size) (each_front (IsNext t.size) es' front.more (subst (EachBehind (IsNext t.size)) front.joined h.order));
        implied = each_front (IsImplied log) es' front.more (subst (EachBehind (IsImplied log)) front.joined h.implied);
        inside = min-le_right b.told (length es');
        untold_last = last k;
      } in
      let whole : t' ≡ record { entries = es'; size = t'.size } = λ i. record { entries = cut i; size = t'.size } in
      subst (λ (x : Bounds). IsTrailOn log atoms x t') (sym (same ∙ ap (λ (xs : List Assigned). record b { told = min b.told (length xs) }) cut))
      (subst (IsTrailOn log atoms (record b { told = n })) (sym whole) made) where
        last : (j : ℕ) → AreLast (min b.told (length (below j es))) (below j es)
        last j =
            elim (leb_tells (depth es) j) [
              | inl p ↦
                  let all = up_to_depth j p.1 in
                  let least : min b.told (length es) ≡ b.told = min-eq_left h.inside in
                  subst (λ (xs : List Assigned). AreLast (min b.told (length xs)) xs) (sym all) (subst (λ (m : ℕ). AreLast m es) (sym least) h.untold_last)
              | inr p ↦
                  let short = cut_short b.told j es h.untold_last p.1 in
                  let least : min b.told (length (below j es)) ≡ length (below j es) = min-eq_right short in
                  let none : drop (min b.told (length (below j es))) (below j es) ≡ [] = drop_all (min b.told (length (below j es))) (below j es) (omega (arith, least)) in
                  let P : Assigned → Type 0 = λ e. e.level ≡ depth (below j es) in
                  subst (All P) (sym none) (All-nil P)
            ]

-- no more was told than how many places there are
pub told_few : (b : Bounds) (es : List Assigned) → length (told_on b es) ≤ b.told
told_few b es =
    let p : Assigned → Bool = λ e. is_marked b.marks.items e.literal.atom in
    let parts = length-filter_both p (λ e. not (p e)) (λ e. refl) (take b.told es) in
    let most = length-take b.told es in
    let least = min-le_left b.told (length es) in
    omega (arith, parts, most, least)

-- an entry that is taken off was counted
pub count_more : (b : Bounds) (old new : List Assigned) (k : ℕ) {l : Lit} → (d : DropsLast k old new l) → (n : ℕ) → length (told_on b (new ++ d.last ∷ [])) ≡ length (told_on b new) + n
    → length (told_on b old) ≡ length (told_on b new) + n
count_more b old new k d n more = ap (λ (xs : List Assigned). length (told_on b xs)) d.joined ∙ more

pub nothing_last : (n : ℕ) → AreLast n []
nothing_last n = subst (All (λ (e : Assigned). e.level ≡ depth [])) (sym (drop_all n [] (omega arith))) (All-nil (λ (e : Assigned). e.level ≡ depth []))
