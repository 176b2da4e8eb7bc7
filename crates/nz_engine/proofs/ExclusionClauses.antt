-- A search over what is prepared may begin where clauses for bounds that exclude each other are held too.
use Rattle.std.proofs.Common.{◌≡◌, ℕ, List, [], ◌∷◌, ◌++◌, append-nil, map, Option, Some, None, Result, Ok, Err, OnOk, get_or, refl, sym, ap, subst, ◌∙◌, arith}
use Rattle.std.specs.Prelude.{All, Contains, IsSome}
use Rattle.std.proofs.lemmas.List.{map-append}
use Rattle.std.proofs.lemmas.List.Elements.{All-append, All-contains, All-from_recursion, All-map, All-weaker, Contains-append_left, Contains-get_or}
use Rattle.nz_spec.specs.terms.Table.{Node}
use Rattle.nz_log.specs.declared.lits.Lit.{Lit}
use Rattle.nz_term.specs.declared.term_lits.TermLit.{TermLit}
use Rattle.nz_log.specs.Lits.{negated_lit}
use Rattle.nz_log.specs.Logs.{Entry, IsLive, LogState, level_at, literals_at}
use Rattle.nz_cform.specs.Forms.{FormState}
use Rattle.nz_cform.specs.Listings.{IsListing}
use Rattle.nz_reals.specs.Exclusions.{AddsOn, HasNeighbours, IsExclusion, IsLower, Keeps}
use Rattle.nz_reals.specs.Stands.{IsOver}
use Rattle.nz_reals.specs.State.{Theory, known_at}
use Rattle.nz_sat.specs.declared.clauses.Held.{Held}
use Rattle.nz_sat.specs.Sats.{AreHeld, AreOn, AreSameSince, SatState, held_of}
use Rattle.nz_search.specs.Levels.{Level, asserted_by_level}
use Rattle.nz_engine.specs.declared.prepared.Prepared.TheInside.{Inside}
use Rattle.nz_engine.specs.Checking.{IsPosed, IsReady}
use Rattle.nz_engine.specs.Preparing.{AreJust, Excludes, HoldsAlso, PreparedState, atoms_of, ids_held}
use Rattle.nz_engine.specs.SearchLaws.{SearchLaws}
use Rattle.nz_engine.proofs.SearchAtoms.{are_named, ids_told, ids_within, named_have, named_ids, named_just, named_lits, named_searched, posed_after}

-- what stands inside, as it is seen
abbrev pub prepared_in : Inside → PreparedState
prepared_in i = record { log = i.log; form = i.form; sat = i.sat; given = i.given; numbered = i.numbered; above = i.above; noted = i.noted.items }

-- the literals of such a clause are on the atoms
on_atoms : (log : LogState) (atoms : List ℕ) (id : ℕ) → IsExclusion log atoms id → All (λ (l : Lit). Contains atoms l.atom) (literals_at log id)
on_atoms log atoms id x k d below =
    let l = get_or (literals_at log id) k d in
    All-contains (λ (m : Lit). Contains atoms m.atom) (x.first ∷ x.second ∷ []) (negated_lit l)
    (All-from_recursion (λ (m : Lit). Contains atoms m.atom) (x.first ∷ x.second ∷ []) (x.first_on, (x.second_on, tt))) (x.clash.negations l (Contains-get_or (literals_at log id) k d below))

-- what is held keeps its literals and its level
module _ (old new : LogState) (keeps : Keeps old new) (held : List Held) (were : AreHeld old held) where
  still_on : (atoms : List ℕ) → AreOn old atoms held → AreOn new atoms held
  still_on atoms on k d below =
      let id = (get_or held k d).id in
      let same : literals_at new id ≡ literals_at old id = ap (λ (o : Option Entry). elim o [ None ↦ [] | Some e ↦ e.literals ]) (keeps.kept id (were k d below).0) in
      subst (All (λ (l : Lit). Contains atoms l.atom)) (sym same) (on k d below)

  still_held : AreHeld new held
  still_held k d below =
      let h = get_or held k d in
      let was = were k d below in
      let same : level_at new h.id ≡ level_at old h.id = ap (λ (o : Option Entry). elim o [ None ↦ 0 | Some e ↦ e.level ]) (keeps.kept h.id was.0) in
      (keeps.live h.id was.0, same ∙ was.1)

-- ---- What is held then

ids_of_held : (log : LogState) (ids : List ℕ) → ids_held (map (held_of log) ids) ≡ ids
ids_of_held log [] = refl
ids_of_held log (i ∷ ids) = λ k. i ∷ ids_of_held log ids k

-- the clauses that were held, and those that are put, by their numbers
pub held_with : (log : LogState) (held : List Held) (ids : List ℕ) → ids_held (held ++ map (held_of log) ids) ≡ ids_held held ++ ids
held_with log held ids = map-append (λ (h : Held). h.id) held (map (held_of log) ids) ∙ ap (λ (is : List ℕ). ids_held held ++ is) (ids_of_held log ids)

pub live_ids : (log : LogState) (held : List Held) → AreHeld log held → All (IsLive log) (ids_held held)
live_ids log held are = All-map (IsLive log) (λ (h : Held). h.id) held (λ k d below. (are k d below).0)

-- of two facts on a success comes a third
pub on_both : {T E P Q R : Type 0} (r : Result T E) → (P → Q → R) → OnOk r P → OnOk r Q → OnOk r R
on_both (Ok x) f p q = f p q
on_both (Err e) f p q = tt

-- The clauses that were put are held, and each two neighbouring bounds have theirs.
pub excludes_by : (log log' : LogState) (old new : SatState Theory) (atoms cs : List ℕ) → new.theory ≡ old.theory → AddsOn atoms log log' → All (IsExclusion log' atoms) cs
    → new.clauses ≡ old.clauses ++ map (held_of log') cs → AreSameSince new.seen log' new.clauses → HasNeighbours old.theory log' atoms (ids_held old.clauses ++ cs) → Excludes log old atoms log' new
excludes_by log log' old new atoms cs theory adds all joined seen neighbours = record {
  theory = theory;
  adds = adds;
  ids = cs;
  exclusions = all;
  joined = joined;
  seen = seen;
  neighbours = subst (λ (t : Theory). HasNeighbours t log' atoms (ids_held new.clauses)) (sym theory)
      (subst (HasNeighbours old.theory log' atoms) (sym (ap ids_held joined ∙ held_with log' old.clauses cs)) neighbours);
}

-- Where nothing is known of any atom, no two bounds are neighbours.
pub excludes_none : (log : LogState) (sat : SatState Theory) (atoms : List ℕ) → ((i : ℕ) → known_at sat.theory i ≡ None) → AreSameSince sat.seen log sat.clauses → Excludes log sat atoms log sat
excludes_none log sat atoms none seen =
    let unknown : (l : Lit) → IsLower sat.theory l → ⊥ = λ l low.
    let both : Some low.known ≡ None = sym low.knows ∙ none l.atom in
    absurd cc in
    record {
      theory = refl;
      adds = record {
        keeps = record { live = λ i live. live; kept = λ i live. refl; told = refl; atoms = refl };
        grows = λ told. record { live = λ i live. live; kept = λ i live. refl; told = refl; atoms = λ i a at. at; rows = λ i e at row. subst (λ (o : Option Entry). IsSome o) (sym at) refl; leveled = λ h. h };
        sound = λ ns levels within h. h;
      };
      ids = [];
      exclusions = λ k d below. absurd (omega (arith, below));
      joined = sym (append-nil sat.clauses);
      seen = seen;
      neighbours = record {
        lowers = [];
        are = record {
          right = λ k d below. absurd (omega (arith, below));
          all = λ l on low. absurd (unknown l low);
          weaker_first = λ k d below. absurd (omega (arith, below));
        };
        joined = λ k d below. absurd (omega (arith, below));
      };
    }

module _ (p : PreparedState) {atoms : List ℕ} (q : PreparedState) (x : Excludes p.log p.sat atoms q.log q.sat) (were : AreHeld p.log p.sat.clauses) where
  holds_exclusions : HoldsAlso q.log p.sat.clauses q.sat.clauses
  holds_exclusions =
      record {
        also = map (held_of q.log) x.ids;
        joined = x.joined;
        held = subst (AreHeld q.log) (sym x.joined)
            (All-append (λ (h : Held). IsLive q.log h.id × (level_at q.log h.id ≡ h.level)) p.sat.clauses (map (held_of q.log) x.ids) (still_held p.log q.log x.adds.keeps p.sat.clauses were)
            (All-map (λ (h : Held). IsLive q.log h.id × (level_at q.log h.id ≡ h.level)) (held_of q.log) x.ids
            (All-weaker (IsExclusion q.log atoms) (λ id. IsLive q.log id × (level_at q.log id ≡ level_at q.log id)) (λ id e. (e.clash.live, refl)) x.ids x.exclusions)));
      }

  exclusions_on : AreOn p.log atoms p.sat.clauses → AreOn q.log atoms q.sat.clauses
  exclusions_on on =
      let P = λ (h : Held). All (λ (l : Lit). Contains atoms l.atom) (literals_at q.log h.id) in
      subst (All P) (sym x.joined)
      (All-append P p.sat.clauses (map (held_of q.log) x.ids) (still_on p.log q.log x.adds.keeps p.sat.clauses were atoms on)
      (All-map P (held_of q.log) x.ids (All-weaker (IsExclusion q.log atoms) (λ id. All (λ (l : Lit). Contains atoms l.atom) (literals_at q.log id)) (on_atoms q.log atoms) x.ids x.exclusions)))

pub ready_excluded : SearchLaws → {ns : List Node} {assumed : List TermLit} {first : ℕ} {old p : PreparedState} {ids : List ℕ} {lits : List Lit} → IsReady ns assumed first old p ids lits → (q : PreparedState)
    → Excludes p.log p.sat ids q.log q.sat → q.form ≡ p.form → q.given ≡ p.given → q.numbered ≡ p.numbered → q.above ≡ p.above → q.noted ≡ p.noted → IsReady ns assumed first old q ids lits
ready_excluded laws {ns} {assumed} {first} {old} {p} {ids} {lits} r q x form given numbered above noted =
    let n = r.handed in
    let posed = r.some.1 in
    let grows = x.adds.grows (ids_told laws.rows laws.atoms posed n) in
    let were = posed.standing.raised.held in
    let after : (levels : List Level) → IsPosed ns levels assumed p → IsPosed ns levels assumed q = λ levels h.
    posed_after laws.atoms laws.covers r q form given numbered above levels grows (holds_exclusions p q x were) x.seen
    (named_searched laws.rows laws.atoms h n q grows form noted (exclusions_on p q x were (are_named laws.rows laws.atoms h n).clauses)) (x.adds.sound ns (asserted_by_level levels) (ids_within laws.rows laws.atoms h n))
    (subst (λ (t : Theory). IsOver t ns) (sym x.theory)) h in
    let ids_are = named_ids laws.rows laws.atoms posed n q grows form noted in
    record {
      handed = record {
        terms = subst (λ (f : FormState). IsListing f.terms) (sym form) n.terms;
        bounds = subst (λ (f : FormState). IsListing f.bounds) (sym form) n.bounds;
        noted = ids_are;
        numbers = subst (λ (is : List ℕ). AreJust (atoms_of ns q) is) (sym ids_are) (named_just laws.rows laws.atoms posed n q grows form noted);
        on_atoms = named_lits laws.rows laws.atoms posed n q grows form noted;
        there = named_have laws.rows laws.atoms posed n q grows form noted;
      };
      joined = r.joined;
      behind = r.behind;
      kept = record {
        clauses = λ i live. grows.kept i (subst (λ (o : Option Entry). IsSome o) (sym (r.kept.clauses i live)) live) ∙ r.kept.clauses i live;
        atoms = λ i a at. grows.atoms i a (r.kept.atoms i a at);
      };
      held = λ id has.
          subst (λ (hs : List Held). Contains (ids_held hs) id) (sym x.joined)
          (subst (λ (is : List ℕ). Contains is id) (sym (map-append (λ (h : Held). h.id) p.sat.clauses (map (held_of q.log) x.ids)))
          (Contains-append_left (ids_held p.sat.clauses) (ids_held (map (held_of q.log) x.ids)) id (r.held id has)));
      form = form ∙ r.form;
      posed = λ levels h. after levels (r.posed levels h);
      some = (r.some.0, after r.some.0 posed);
    }
