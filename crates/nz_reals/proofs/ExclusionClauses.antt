-- Clauses that bounds of one form exclude each other: what the log has then.
use Rattle.std.proofs.Common.{◌≡◌, ℕ, ◌+◌, ◌-◌, ◌<◌, ◌≤◌, Bool, inl, inr, List, [], ◌∷◌, ◌++◌, get_or, length, map, Option, Some, None, refl, sym, ap, ◌∙◌, subst, arith, true}
use Rattle.std.specs.Prelude.{All, Contains, IsSome, slice_get, slice_index_or}
use Rattle.std.specs.List.{AllAdjacentBelow}
use Rattle.std.proofs.lemmas.List.Elements.{All-contains, All-from_recursion, All-push, All-weaker, Contains-append_cases, Contains-append_left, Contains-append_right}
use Rattle.std.proofs.lemmas.Option.{get_or_from_slice_get}
use Rattle.std.proofs.lemmas.List.Sorted.{all_adjacent_more}
use Rattle.nz_lists.proofs.Members.{has_first, has_more, map_has}
use Rattle.nz_spec.specs.clauses.Literal.{StandOnce}
use Rattle.nz_spec.specs.terms.Table.{Node}
use Rattle.nz_log.specs.declared.atoms.Atom.{Atom}
use Rattle.nz_log.specs.declared.lits.Lit.{Lit}
use Rattle.nz_log.specs.declared.multiples.LitMultiple.{LitMultiple}
use Rattle.nz_log.specs.Atoms.{IsLitIn}
use Rattle.nz_log.specs.Axioms.{AreMultiplesIn}
use Rattle.nz_log.specs.Leveled.{AreTold, AreToldAtoms, Names}
use Rattle.nz_log.specs.Lits.{negated_lit}
use Rattle.nz_log.specs.Logs.{Entry, IsLive, LogState, literals_at, told_of}
use Rattle.nz_log.specs.Sound.{IsLog}
use Rattle.nz_search.specs.Theories.{IsClash}
use Rattle.nz_log.specs.Growth.{Grows}
use Rattle.nz_reals.specs.declared.neighbours.Lower as code
use Rattle.nz_reals.specs.Exclusions.{AddsOn, AreAtomsOver, AreExcluded, AreJoined, AreLowers, HasNeighbours, HasNone, IsExclusion, IsFresh, Joins, Keeps, lits_of}
use Rattle.nz_reals.specs.Stands.{IsOf}
use Rattle.nz_reals.specs.State.{Theory}
use Rattle.nz_reals.specs.Tells.{both, literals_of}
use Rattle.nz_lists.proofs.Once.{two_once}
use Rattle.nz_reals.proofs.LowerBounds.{adjacent_map, opposed}
use Rattle.nz_reals.proofs.RefutationClauses.{lit_back}

-- ---- What the log keeps

pub keeps_same : (log : LogState) → Keeps log log
keeps_same log = record { live = λ i h. h; kept = λ i h. refl; told = refl; atoms = refl }

keeps_more : (old mid new : LogState) → Keeps old mid → Keeps mid new → Keeps old new
keeps_more old mid new k l = record {
  live = λ i h. l.live i (k.live i h);
  kept = λ i h. l.kept i (k.live i h) ∙ k.kept i h;
  told = l.told ∙ k.told;
  atoms = l.atoms ∙ k.atoms;
}

grows_more : (old mid new : LogState) → Grows old mid → Grows mid new → Grows old new
grows_more old mid new g h = record {
  live = λ i live. h.live i (g.live i live);
  kept = λ i live. h.kept i (g.live i live) ∙ g.kept i live;
  told = h.told ∙ g.told;
  atoms = λ i a at. h.atoms i a (g.atoms i a at);
  rows = λ i e at row. let live = h.rows i e at row in g.rows i e (sym (h.kept i live) ∙ at) row;
  leveled = λ is. h.leveled (g.leveled is);
}

told_kept : (old new : LogState) (ls : List Lit) → Keeps old new → AreTold old ls → AreTold new ls
told_kept old new ls keeps told =
    subst (λ (levels : List (Option ℕ)). All (Names (λ t. IsSome (slice_index_or levels t None)) new.atoms) ls) (sym keeps.told)
    (subst (λ (atoms : List Atom). All (Names (λ t. IsSome (told_of old t)) atoms) ls) (sym keeps.atoms) told)

-- ---- What is added

pub adds_more : (ids : List ℕ) (old mid new : LogState) → AddsOn ids old mid → AddsOn ids mid new → AddsOn ids old new
adds_more ids old mid new a b = record {
  keeps = keeps_more old mid new a.keeps b.keeps;
  grows = λ told. grows_more old mid new (a.grows told) (b.grows (told_kept old mid (map (λ (i : ℕ). record { atom = i; sign = true }) ids) a.keeps told));
  sound = λ ns levels over is. b.sound ns levels (subst (λ (atoms : List Atom). AreAtomsOver ns atoms ids) (sym a.keeps.atoms) over) (a.sound ns levels over is);
}

module _ (ids : List ℕ) (l other : Lit) (on : Contains ids l.atom) (other_on : Contains ids other.atom) where
  -- what is asked of a literal, of its atom
  named : (log : LogState) → AreToldAtoms log ids → (m : Lit) → Contains ids m.atom → Names (λ t. IsSome (told_of log t)) log.atoms m
  named log told m has =
      let yes : ℕ → Lit = λ i. record { atom = i; sign = true } in
      let n = All-contains (Names (λ t. IsSome (told_of log t)) log.atoms) (map yes ids) (yes m.atom) told (map_has yes ids m.atom has) in
      record { atom = n.atom; at = n.at; terms = n.terms }

  both_names : (log : LogState) → AreToldAtoms log ids → AreTold log (literals_of (both l other))
  both_names log told = All-from_recursion (Names (λ t. IsSome (told_of log t)) log.atoms) (literals_of (both l other)) (named log told l on, (named log told other other_on, tt))

  over : (ns : List Node) (atoms : List Atom) → AreAtomsOver ns atoms ids → (m : Lit) → Contains ids m.atom → IsLitIn ns atoms m
  over ns atoms are m has =
      let n = All-contains (λ (i : ℕ). IsLitIn ns atoms (record { atom = i; sign = true })) ids m.atom are has in
      record { atom = n.atom; at = n.at; within = n.within }

  -- the two literals were refuted
  pub adds_refuted : (old new : LogState) (ms : List LitMultiple) → ms ≡ both l other → Keeps old new → (AreTold old (literals_of ms) → Grows old new)
      → ((ns : List Node) (levels : List (List ℕ)) → AreMultiplesIn ns old.atoms ms → IsLog ns levels old → IsLog ns levels new) → AddsOn ids old new
  adds_refuted old new ms is keeps grows sound = record {
    keeps = keeps;
    grows = λ told. grows (subst (λ (xs : List LitMultiple). AreTold old (literals_of xs)) (sym is) (both_names old told));
    sound = λ ns levels are.
        sound ns levels (subst (AreMultiplesIn ns old.atoms) (sym is) (over ns old.atoms are l on, (over ns old.atoms are other other_on, tt)));
  }

-- ---- Clauses that stay

clash_kept : (old new : LogState) (ls : List Lit) (id : ℕ) → Keeps old new → IsClash old ls id → IsClash new ls id
clash_kept old new ls id keeps c =
    let same : literals_at new id ≡ literals_at old id = ap (λ (o : Option Entry). elim o [ None ↦ [] | Some e ↦ e.literals ]) (keeps.kept id c.live) in
    record {
      live = keeps.live id c.live;
      once = subst StandOnce (sym same) c.once;
      negations = λ l has. c.negations l (subst (λ (ms : List Lit). Contains ms l) same has);
    }

pub exclusions_kept : (old new : LogState) (ids : List ℕ) (cs : List ℕ) → Keeps old new → All (IsExclusion old ids) cs → All (IsExclusion new ids) cs
exclusions_kept old new ids cs keeps all =
    All-weaker (IsExclusion old ids) (IsExclusion new ids)
    (λ id x. record { first = x.first; second = x.second; first_on = x.first_on; second_on = x.second_on; clash = clash_kept old new (x.first ∷ x.second ∷ []) id keeps x.clash }) cs all

-- one clause more
pub exclusions_more : (old new : LogState) (ids cs : List ℕ) (l other : Lit) (id : ℕ) → Contains ids l.atom → Contains ids other.atom → AddsOn ids old new → All (IsExclusion old ids) cs
    → IsClash new (l ∷ other ∷ []) id → All (IsExclusion new ids) (cs ++ id ∷ [])
exclusions_more old new ids cs l other id on other_on adds all clash =
    All-push (IsExclusion new ids) cs id (exclusions_kept old new ids cs adds.keeps all) (record { first = l; second = other; first_on = on; second_on = other_on; clash = clash })

pub fresh_kept : (start old new : LogState) (held cs : List ℕ) → Keeps old new → All (IsFresh start old held) cs → All (IsFresh start new held) cs
fresh_kept start old new held cs keeps all =
    All-weaker (IsFresh start old held) (IsFresh start new held)
    (λ id x. record { first = x.first; second = x.second; clash = clash_kept old new (x.first ∷ x.second ∷ []) id keeps x.clash; none = x.none }) cs all

pub fresh_more : (start old new : LogState) (held cs : List ℕ) (l other : Lit) (id : ℕ) → Keeps old new → HasNone start held l other → All (IsFresh start old held) cs → IsClash new (l ∷ other ∷ []) id
    → All (IsFresh start new held) (cs ++ id ∷ [])
fresh_more start old new held cs l other id keeps none all clash =
    All-push (IsFresh start new held) cs id (fresh_kept start old new held cs keeps all) (record { first = l; second = other; clash = clash; none = none })

-- ---- Neighbours

-- they have their clause still, where there are more
pub excluded_kept : (t : Theory) (old new : LogState) (cs ds : List ℕ) (l other : Lit) → Keeps old new → ((id : ℕ) → Contains cs id → Contains ds id)
    → AreExcluded t old cs l other → AreExcluded t new ds l other
excluded_kept t old new cs ds l other keeps more is = λ opposed.
    elim (is opposed) [ inl c ↦ inl (c.0, more c.0 c.1, clash_kept old new (l ∷ other ∷ []) c.0 keeps c.2) | inr none ↦ inr none ]

-- a clause of two literals whose negations are among those told
pair_clash : (log : LogState) (id : ℕ) → IsLive log id → (told : List Lit) (l m : Lit) → literals_at log id ≡ l ∷ m ∷ [] → (l ≡ m → ⊥) → Contains told (negated_lit l) → Contains told (negated_lit m)
    → IsClash log told id
pair_clash log id live told l m is two has_l has_m =
    let P : Lit → Type 0 = λ k. Contains told (negated_lit k) in
    record {
      live = live;
      once = subst StandOnce (sym is) (two_once l m two);
      negations = λ k has. All-contains P (l ∷ m ∷ []) k (All-from_recursion P (l ∷ m ∷ []) (has_l, (has_m, tt))) (subst (λ ks. Contains ks k) is has);
    }

-- the clause of a pair says that the bound and the negation of the one before it aren't both true
pub clash_of_pair : (log : LogState) (xs : List code.Lower) (i id : ℕ) → IsLive log id → Joins xs i (literals_at log id) → (d e : code.Lower)
    → IsClash log ((get_or xs i d).literal ∷ negated_lit (get_or xs (i - 1) e).literal ∷ []) id
clash_of_pair log xs i id live (l, m, pair, same) d e =
    let strong : get_or xs i d ≡ pair.stronger = get_or_from_slice_get xs i pair.stronger d pair.at in
    let weak : get_or xs (i - 1) e ≡ pair.before = get_or_from_slice_get xs (i - 1) pair.before e pair.at_before in
    let first : negated_lit l ≡ (get_or xs i d).literal = ap negated_lit pair.first ∙ lit_back pair.stronger.literal ∙ ap (λ (x : code.Lower). x.literal) (sym strong) in
    let second : negated_lit m ≡ negated_lit (get_or xs (i - 1) e).literal = ap negated_lit (pair.second ∙ ap (λ (x : code.Lower). x.literal) (sym weak)) in
    let told = (get_or xs i d).literal ∷ negated_lit (get_or xs (i - 1) e).literal ∷ [] in
    let told_first : Contains told (negated_lit l) = subst (Contains told) (sym first) (has_first (get_or xs i d).literal (negated_lit (get_or xs (i - 1) e).literal ∷ [])) in
    let told_second : Contains told (negated_lit m) = subst (Contains told) (sym second) (has_more (get_or xs i d).literal (negated_lit (get_or xs (i - 1) e).literal) (negated_lit (get_or xs (i - 1) e).literal ∷ []) (has_first (negated_lit (get_or xs (i - 1) e).literal) [])) in
    elim same [
      | inl is ↦ pair_clash log id live told l m is (λ e. pair.two (sym e)) told_first told_second
      | inr is ↦ pair_clash log id live told m l is pair.two told_second told_first
    ]

-- the clauses that are held, and those that are new
pub excluded_held : (t : Theory) (log new : LogState) (held cs : List ℕ) (xs : List code.Lower) (marks : List Bool) (i : ℕ) → Keeps log new → AreJoined log held xs marks → slice_get marks i ≡ Some true
    → (d e : code.Lower) → AreExcluded t new (held ++ cs) (get_or xs i d).literal (negated_lit (get_or xs (i - 1) e).literal)
excluded_held t log new held cs xs marks i keeps are at d e = λ opposed.
    let c = are i at in
    inl (c.0, Contains-append_left held cs c.0 c.1, clash_kept log new _ c.0 keeps (clash_of_pair log xs i c.0 c.2 c.3 d e))

-- each of the first bounds has its clause with the one before it
abbrev pub AreJoinedBelow : Theory → LogState → List ℕ → List code.Lower → ℕ → Type 0
AreJoinedBelow t log cs xs i = AllAdjacentBelow (λ (x y : code.Lower). AreExcluded t log cs y.literal (negated_lit x.literal)) xs i

pub joined_more : (t : Theory) (old new : LogState) (cs ds : List ℕ) (xs : List code.Lower) (i : ℕ) → 0 < i → Keeps old new → ((id : ℕ) → Contains cs id → Contains ds id)
    → AreJoinedBelow t old cs xs i → ((d : code.Lower) → AreExcluded t new ds (get_or xs i d).literal (negated_lit (get_or xs (i - 1) d).literal)) → AreJoinedBelow t new ds xs (i + 1)
joined_more t old new cs ds xs i first keeps more joined one =
    all_adjacent_more xs (λ (x y : code.Lower). AreExcluded t new ds y.literal (negated_lit x.literal)) i first
    (λ k d less. excluded_kept t old new cs ds (get_or xs (k + 1) d).literal (negated_lit (get_or xs k d).literal) keeps more (joined k d less)) one

-- where a loop over the bounds stands: what it put, and that each of the first bounds has its clause with the one before it
pub record IsExcluding (t : Theory) (start log : LogState) (atoms held cs : List ℕ) (xs : List code.Lower) (i : ℕ) : Type 0 where
  pub clauses : All (IsExclusion log atoms) cs
  pub adds : AddsOn atoms start log
  pub fresh : All (IsFresh start log held) cs
  pub joined : AreJoinedBelow t log (held ++ cs) xs i

module _ (t : Theory) (start log : LogState) (atoms held cs : List ℕ) (xs : List code.Lower) (i : ℕ) (first : 0 < i) (was : IsExcluding t start log atoms held cs xs i) where
  -- the clause was held
  pub excluding_held : (first_log : LogState) (marks : List Bool) → Keeps first_log log → AreJoined first_log held xs marks → slice_get marks i ≡ Some true
      → IsExcluding t start log atoms held cs xs (i + 1)
  excluding_held first_log marks keeps are at = record {
    clauses = was.clauses;
    adds = was.adds;
    fresh = was.fresh;
    joined = joined_more t log log (held ++ cs) (held ++ cs) xs i first (keeps_same log) (λ id has. has) was.joined (λ d. excluded_held t first_log log held cs xs marks i keeps are at d d);
  }

  -- it is put
  pub excluding_more : (new : LogState) (ds : List ℕ) → AddsOn atoms log new → ((id : ℕ) → Contains cs id → Contains ds id) → All (IsExclusion new atoms) ds → All (IsFresh start new held) ds
      → ((d : code.Lower) → AreExcluded t new ds (get_or xs i d).literal (negated_lit (get_or xs (i - 1) d).literal)) → IsExcluding t start new atoms held ds xs (i + 1)
  excluding_more new ds adds more all fresh here = record {
    clauses = all;
    adds = adds_more atoms start log new was.adds adds;
    fresh = fresh;
    joined = joined_more t log new (held ++ cs) (held ++ ds) xs i first adds.keeps
        (λ id has. elim (Contains-append_cases held cs id has) [ inl a ↦ Contains-append_left held ds id a | inr b ↦ Contains-append_right held ds id (more id b) ]) was.joined
        (λ d. excluded_kept t new new ds (held ++ ds) (get_or xs i d).literal (negated_lit (get_or xs (i - 1) d).literal) (keeps_same new) (λ id b. Contains-append_right held ds id b) (here d));
  }

pub neighbours_joined : (t : Theory) (atoms : List Atom) (some : List ℕ) → IsOf t atoms some → (log : LogState) (ids : List ℕ) (cs : List ℕ) (xs : List code.Lower) (i : ℕ) → length xs ≤ i
    → AreLowers t ids (lits_of xs) → AreJoinedBelow t log cs xs i → HasNeighbours t log ids cs
neighbours_joined t atoms some of log ids cs xs i all are joined =
    let ls = lits_of xs in
    let excluded : AllAdjacentBelow (λ (l m : Lit). AreExcluded t log cs m (negated_lit l)) ls (length ls) =
    adjacent_map (λ (x : code.Lower). x.literal) (λ (l m : Lit). AreExcluded t log cs m (negated_lit l)) xs (λ k d less. joined k d (omega (arith, less, all))) in
    record {
      lowers = ls;
      are = are;
      joined = λ k d less one.
          excluded k d less
          (opposed t atoms some of (get_or ls k d) (get_or ls (k + 1) d) (are.right k d (omega (arith, less))).1 (are.right (k + 1) d less).1 (are.weaker_first k d less) one);
    }
