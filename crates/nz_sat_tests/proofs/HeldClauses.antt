-- Clauses of a log that a search holds, as log, search and atoms change.
use Rattle.std.proofs.Common.{◌≡◌, ◌≢◌, ℕ, ◌<◌, true, List, [], ◌∷◌, ◌++◌, map, inl, inr, Option, Some, None, Result, Ok, Err, OnOk, OnErr, refl, sym, ap, subst, ◌∙◌, arith}
use Rattle.std.specs.Prelude.{All, Contains, IsSome, slice_get, slice_index_or, unwrap_or}
use Rattle.std.proofs.lemmas.Bool.Decides.{eqb_tells}
use Rattle.std.proofs.lemmas.List.{map_push}
use Rattle.std.proofs.lemmas.List.Elements.{All-append, All-from_recursion, All-push, All-weaker, Contains-append_left, recursion_from_All}
use Rattle.nz_spec.specs.clauses.Literal.{StandOnce}
use Rattle.nz_log.specs.declared.atoms.Atom.{Atom}
use Rattle.nz_log.specs.declared.atoms.Atom.TheVariants.{Term}
use Rattle.nz_log.specs.declared.lits.Lit.{Lit}
use Rattle.nz_search.specs.declared.theory.NoNumbers.{NoNumbers}
use Rattle.nz_log.specs.Atoms.{HasTerm, Stay, term_place, terms_of}
use Rattle.nz_log.specs.Leveled.{AreToldAtoms, Names}
use Rattle.nz_log.specs.Logs.{LogState, Entry, JoinsAtoms, entry_at, IsLive, literals_at, level_at, told_of, Puts}
use Rattle.nz_log.specs.Growth.{Grows}
use Rattle.nz_sat.specs.declared.clauses.Held.{Held}
use Rattle.nz_sat.specs.Sats.{SatState, AreHeld, AreNamed, AreOn, AreSameSince, HoldsMore, IsSameIn, held_of}
use Rattle.nz_sat_tests.specs.Problems.{IsPosed}

-- ---- The log changes

-- a level was told of a term
abbrev HasToldLevel : LogState → ℕ → Type 0
HasToldLevel log t = IsSome (told_of log t)

-- the positive literal on an atom
abbrev on : ℕ → Lit
on i = record { atom = i; sign = true }

module _ (old new : LogState) (told : (t : ℕ) → HasToldLevel old t → HasToldLevel new t) (stay : Stay old.atoms new.atoms) where
  still_named : (l : Lit) → Names (HasToldLevel old) old.atoms l → Names (HasToldLevel new) new.atoms l
  still_named l n =
      let ts : List ℕ = terms_of n.atom in
      record {
        atom = n.atom;
        at = stay l.atom n.atom n.at;
        terms = recursion_from_All (HasToldLevel new) ts (All-weaker (HasToldLevel old) (HasToldLevel new) told ts (All-from_recursion (HasToldLevel old) ts n.terms));
      }

  still_told : (atoms : List ℕ) → AreToldAtoms old atoms → AreToldAtoms new atoms
  still_told atoms there = All-weaker (Names (HasToldLevel old) old.atoms) (Names (HasToldLevel new) new.atoms) still_named (map on atoms) there

module _ (old new : LogState) (kept : (i : ℕ) → IsLive old i → entry_at new i ≡ entry_at old i) (told : (t : ℕ) → HasToldLevel old t → HasToldLevel new t) (stay : Stay old.atoms new.atoms) where
  still_live : (i : ℕ) → IsLive old i → IsLive new i
  still_live i live = subst (λ (o : Option Entry). IsSome o) (sym (kept i live)) live

  same_literals : (i : ℕ) → IsLive old i → literals_at new i ≡ literals_at old i
  same_literals i live = ap (λ (o : Option Entry). elim o [ None ↦ [] | Some e ↦ e.literals ]) (kept i live)

  still_held : (held : List Held) → AreHeld old held → AreHeld new held
  still_held held h =
      All-weaker (λ (x : Held). IsLive old x.id × (level_at old x.id ≡ x.level)) (λ (x : Held). IsLive new x.id × (level_at new x.id ≡ x.level))
      (λ x k. (still_live x.id k.0, ap (λ (o : Option Entry). elim o [ None ↦ 0 | Some e ↦ e.level ]) (kept x.id k.0) ∙ k.1)) held h

  still_since : (seen : Option LogState) (held : List Held) → AreSameSince seen old held → AreSameSince seen new held
  still_since None held none = none
  still_since (Some s) held h = All-weaker (IsSameIn s old) (IsSameIn s new) (λ x k. (still_live x.id k.0, same_literals x.id k.0 ∙ k.1)) held h

  still_on : (atoms : List ℕ) (held : List Held) → AreHeld old held → AreOn old atoms held → AreOn new atoms held
  still_on atoms held h among k d inside = subst (λ ls. All (λ (l : Lit). Contains atoms l.atom) ls) (sym (same_literals _ (h k d inside).0)) (among k d inside)

  still_posed : (sat : SatState NoNumbers) (atoms : List ℕ) → IsPosed old sat atoms → IsPosed new sat atoms
  still_posed sat atoms h =
      record {
        held = still_held sat.clauses h.held;
        since = still_since sat.seen sat.clauses h.since;
        named = still_on atoms sat.clauses h.held h.named;
        told = still_told old new told stay atoms h.told;
      }

told_alike : (old new : LogState) → new.told ≡ old.told → (t : ℕ) → HasToldLevel old t → HasToldLevel new t
told_alike old new same t h = subst (λ ts. IsSome (slice_index_or ts t None)) (sym same) h

-- atoms join
pub joined_posed : (old new : LogState) (sat : SatState NoNumbers) (atoms : List ℕ) → JoinsAtoms old new → IsPosed old sat atoms → IsPosed new sat atoms
joined_posed old new sat atoms joins =
    still_posed old new (λ i live. ap (λ es. unwrap_or (slice_get es i) None) joins.entries) (told_alike old new joins.told) joins.atoms sat atoms

-- a clause is put
pub put_posed : (old new : LogState) (sat : SatState NoNumbers) (atoms : List ℕ) (id : ℕ) (e : Entry) → Puts old id e new → IsPosed old sat atoms → IsPosed new sat atoms
put_posed old new sat atoms id e puts =
    still_posed old new (λ i live. puts.kept i (λ same. let below : i < id = puts.above i live in absurd (omega (arith, below, same)))) (told_alike old new puts.told) puts.atoms
    sat atoms

-- ---- An atom more

-- on a term of which a level was told
named_posed : (log : LogState) (sat : SatState NoNumbers) (atoms : List ℕ) (a t : ℕ) → a ≡ term_place log.atoms t → HasTerm log.atoms t → HasToldLevel log t → IsPosed log sat atoms
    → IsPosed log sat (atoms ++ a ∷ [])
named_posed log sat atoms a t is there told h =
    record {
      held = h.held;
      since = h.since;
      named = All-weaker (λ (x : Held). All (λ (l : Lit). Contains atoms l.atom) (literals_at log x.id)) (λ (x : Held). All (λ (l : Lit). Contains (atoms ++ a ∷ []) l.atom) (literals_at log x.id))
          (λ x among. All-weaker (λ (l : Lit). Contains atoms l.atom) (λ (l : Lit). Contains (atoms ++ a ∷ []) l.atom) (λ l has. Contains-append_left atoms (a ∷ []) l.atom has) (literals_at log x.id) among)
          sat.clauses h.named;
      told = subst (All (Names (HasToldLevel log) log.atoms)) (sym (map_push on atoms a))
          (All-push (Names (HasToldLevel log) log.atoms) (map on atoms) (on a) h.told (record { atom = Term t; at = ap (slice_get log.atoms) is ∙ there; terms = (told, tt) }));
    }

-- a level is told of a term
module _ (old mid : LogState) (sat : SatState NoNumbers) (atoms : List ℕ) (t level : ℕ) (here : told_of mid t ≡ Some level) (others : (u : ℕ) → u ≢ t → told_of mid u ≡ told_of old u)
    (entries : mid.entries ≡ old.entries) (same : mid.atoms ≡ old.atoms) where
  told_here : HasToldLevel mid t
  told_here = subst (λ (o : Option ℕ). IsSome o) (sym here) refl

  placed_told : (u : ℕ) → HasToldLevel old u → HasToldLevel mid u
  placed_told u told =
      elim (eqb_tells u t) [
        | inl one ↦ subst (HasToldLevel mid) (sym one.1) told_here
        | inr other ↦ subst (λ (o : Option ℕ). IsSome o) (sym (others u other.1)) told
      ]

  placed_posed : IsPosed old sat atoms → IsPosed mid sat atoms
  placed_posed =
      still_posed old mid (λ i live. ap (λ es. unwrap_or (slice_get es i) None) entries) placed_told (λ i a at. ap (λ (xs : List Atom). slice_get xs i) same ∙ at) sat atoms

  -- and its atom joins
  pub joined_placed : (new : LogState) → JoinsAtoms mid new → IsPosed old sat atoms → IsPosed new sat atoms
  joined_placed new joins h = joined_posed mid new sat atoms joins (placed_posed h)

  pub named_placed : (new : LogState) → JoinsAtoms mid new → (a : ℕ) → a ≡ term_place new.atoms t → HasTerm new.atoms t → IsPosed old sat atoms → IsPosed new sat (atoms ++ a ∷ [])
  named_placed new joins a is there h = named_posed new sat atoms a t is there (told_alike mid new joins.told t told_here) (joined_placed new joins h)

-- ---- The log as the search saw it

-- where it has just seen it
seen_again : (log : LogState) (sat : SatState NoNumbers) → sat.seen ≡ Some log → AreHeld log sat.clauses → AreSameSince sat.seen log sat.clauses
seen_again log sat sees held =
    subst (λ (s : Option LogState). AreSameSince s log sat.clauses) (sym sees)
    (All-weaker (λ (x : Held). IsLive log x.id × (level_at log x.id ≡ x.level)) (IsSameIn log log) (λ x k. (k.0, refl)) sat.clauses held)

-- where it holds the same clauses, and saw the same log
pub since_same : (log : LogState) (old new : SatState NoNumbers) → new.clauses ≡ old.clauses → new.seen ≡ old.seen → AreSameSince old.seen log old.clauses
    → AreSameSince new.seen log new.clauses
since_same log old new clauses sees since =
    subst (λ (s : Option LogState). AreSameSince s log new.clauses) (sym sees) (subst (AreSameSince old.seen log) (sym clauses) since)

-- ---- The search holds a clause more

pub held_posed : (log : LogState) (old new : SatState NoNumbers) (atoms : List ℕ) (id : ℕ) → IsLive log id → All (λ (l : Lit). Contains atoms l.atom) (literals_at log id)
    → new.clauses ≡ old.clauses ++ held_of log id ∷ [] → new.seen ≡ Some log → IsPosed log old atoms → IsPosed log new atoms
held_posed log old new atoms id live among more sees h =
    let H : Held → Type 0 = λ x. IsLive log x.id × (level_at log x.id ≡ x.level) in
    let N : Held → Type 0 = λ x. All (λ (l : Lit). Contains atoms l.atom) (literals_at log x.id) in
    let held = subst (AreHeld log) (sym more) (All-append H old.clauses (held_of log id ∷ []) h.held (All-from_recursion H (held_of log id ∷ []) ((live, refl), tt))) in
    record {
      held = held;
      since = seen_again log new sees held;
      named = subst (AreOn log atoms) (sym more) (All-append N old.clauses (held_of log id ∷ []) h.named (All-from_recursion N (held_of log id ∷ []) (among, tt)));
      told = h.told;
    }

-- where there was memory for it
pub add_posed : {A E : Type 0} (log : LogState) (old new : SatState NoNumbers) (atoms : List ℕ) (id : ℕ) (r : Result A E) → IsLive log id
    → All (λ (l : Lit). Contains atoms l.atom) (literals_at log id) → OnOk r (new.clauses ≡ old.clauses ++ held_of log id ∷ []) → OnOk r (new.seen ≡ Some log) → OnErr r (new ≡ old)
    → IsPosed log old atoms → IsPosed log new atoms
add_posed log old new atoms id (Ok x) live among more sees same h = held_posed log old new atoms id live among more sees h
add_posed log old new atoms id (Err x) live among more sees same h = subst (λ s. IsPosed log s atoms) (sym same) h

-- ---- A search

pub searched_posed : (log log' : LogState) (old new : SatState NoNumbers) (atoms : List ℕ) → AreToldAtoms log atoms → Grows log log' → HoldsMore log' old.clauses new.clauses
    → new.seen ≡ Some log' → AreOn log' atoms new.clauses → IsPosed log' new atoms
searched_posed log log' old new atoms told grows more sees among =
    record {
      held = more.held;
      since = seen_again log' new sees more.held;
      named = among;
      told = still_told log log' (told_alike log log' grows.told) grows.atoms atoms told;
    }

-- what a search asks of its clauses and of what is assumed
pub posed_named : (log : LogState) (sat : SatState NoNumbers) (atoms : List ℕ) (assumed : List Lit) → IsPosed log sat atoms → All (λ (l : Lit). Contains atoms l.atom) assumed → StandOnce atoms
    → AreNamed log sat.clauses assumed atoms
posed_named log sat atoms assumed h among once = record { clauses = h.named; assumed_named = among; once = once }
