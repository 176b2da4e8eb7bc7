-- Which clauses one rests on: from the clause down to the first.
use Rattle.std.proofs.Common.{◌≡◌, ℕ, zero, suc, ◌<◌, ◌≤◌, Bool, true, ◌&&◌, ◌||◌, List, [], ◌∷◌, length, get_or, Option, Some, None, ◌⊎◌, inl, inr, sym, ap, subst, ◌∙◌, arith}
use Rattle.std.specs.Prelude.{All, is_some, nat_le, nat_lt}
use Rattle.std.specs.List.{AllByRecursion}
use Rattle.std.proofs.lemmas.Bool.{leb-true, le-leb, ltb-true, lt-ltb}
use Rattle.std.proofs.lemmas.Bool.{and_from, and_parts, or_cases, or_left, or_right}
use Rattle.nz_lists.proofs.Numbers.{same_or_other}
use Rattle.nz_log.specs.declared.origins.Link.{Link}
use Rattle.nz_log.specs.Logs.{IsPremise, RestsOn, Origin, assertion_of, gate_of, axiom_of, chain_of, Entry, LogState, entry_at, IsLive, level_at}
use Rattle.nz_log.specs.Spelling.{is_marked, IsMoreMarked, AreMarked, Pass, PassMarked, IsClosed, IsClosedAt}

-- the clauses from this number on are done
pub record IsDone (s : LogState) (id : ℕ) (marks : List Bool) (i : ℕ) : Type 0 where
  pub long : length marks ≡ length s.entries
  pub live : (j : ℕ) → is_marked marks j ≡ true → IsLive s j × (level_at s j ≤ level_at s id)
  pub itself : is_marked marks id ≡ true
  pub closed : (j : ℕ) → i ≤ j → is_marked marks j ≡ true → IsClosedAt s marks j

-- what is marked stays so when more is
still_all : (old new : List Bool) → IsMoreMarked old new → (ks : List Link) → All (λ (k : Link). is_marked old k.clause ≡ true) ks → All (λ (k : Link). is_marked new k.clause ≡ true) ks
still_all old new more ks h = λ k d below. more _ (h k d below)

still_marked : (old new : List Bool) → IsMoreMarked old new → (o : Origin) → AreMarked old o → AreMarked new o
still_marked old new more (assertion_of k) h = h
still_marked old new more (gate_of t j) h = h
still_marked old new more (axiom_of a) h = h
still_marked old new more (chain_of first ks) h = (more first h.0, still_all old new more ks h.1)

still_closed : (old new : List Bool) → IsMoreMarked old new → (o : Option Entry) → IsClosed old o → IsClosed new o
still_closed old new more None h = h
still_closed old new more (Some e) h = still_marked old new more e.origin h

-- a fact on each of a list, from the first and the rest
from_first : {X : Type 0} (P : X → Type 0) (x : X) (xs : List X) → P x → All P xs → (k : ℕ) (d : X) → k < length (x ∷ xs) → P (get_or (x ∷ xs) k d)
from_first P x xs p h zero d below = p
from_first P x xs p h (suc k) d below = h k d (omega arith)

first_or_rest : {X : Type 0} (P : X → Type 0) (x : X) (xs : List X) → P x → All P xs → All P (x ∷ xs)
first_or_rest P x xs p h = λ k. from_first P x xs p h k

-- what a clause rests on passes a test that all premises pass
all_pass : (s : LogState) (id level : ℕ) (test : ℕ → Bool) → ((i : ℕ) → IsPremise s id level i → test i ≡ true) → (ks : List Link)
    → AllByRecursion (λ (k : Link). IsPremise s id level k.clause) ks → All (λ (k : Link). test k.clause ≡ true) ks
all_pass s id level test h [] r = λ k d below. absurd (omega arith)
all_pass s id level test h (l ∷ ls) r = λ k d below. first_or_rest (λ (m : Link). test m.clause ≡ true) l ls (h l.clause r.0) (all_pass s id level test h ls r.1) k d below

premises_pass : (s : LogState) (id level : ℕ) (test : ℕ → Bool) → ((i : ℕ) → IsPremise s id level i → test i ≡ true) → (o : Origin) → RestsOn s id level o → Pass test o
premises_pass s id level test h (assertion_of k) r = r
premises_pass s id level test h (gate_of t j) r = r
premises_pass s id level test h (axiom_of a) r = r
premises_pass s id level test h (chain_of first ks) r = (h first r.0, all_pass s id level test h ks r.2)

-- a clause that is there, of no higher level
abbrev is_low : LogState → ℕ → ℕ → Bool
is_low s level i = is_some (entry_at s i) && nat_le (level_at s i) level

closed_at : (s : LogState) (id i : ℕ) (old new : List Bool) (e : Entry) → entry_at s i ≡ Some e → IsMoreMarked old new → AreMarked new e.origin
    → IsDone s id old (suc i) → (j : ℕ) → i ≤ j → (is_marked old j ≡ true) ⊎ (nat_lt j i ≡ true) → IsClosedAt s new j
closed_at s id i old new e at more marked done j le (inr less) = let h : j < i = ltb-true j i less in absurd (omega arith)
closed_at s id i old new e at more marked done j le (inl m) =
    elim (same_or_other j i) [
      | inl same ↦ let P : Option Entry → Type 0 = IsClosed new in subst P (sym (ap (entry_at s) same ∙ at)) marked
      | inr other ↦ still_closed old new more (entry_at s j) (done.closed j (omega (arith, other)) m)
    ]

pub done_step : (s : LogState) (id i : ℕ) (old new : List Bool) (e : Entry) → entry_at s i ≡ Some e → RestsOn s i e.level e.origin
    → is_marked old i ≡ true → length new ≡ length old → IsMoreMarked old new → AreMarked new e.origin
    → ((test : ℕ → Bool) → PassMarked test old → Pass test e.origin → PassMarked test new) → IsDone s id old (suc i) → IsDone s id new i
done_step s id i old new e at rests here long more marked only done =
    let level : level_at s i ≡ e.level = ap (λ o. elim o [ None ↦ 0 | Some f ↦ f.level ]) at in
    let low : PassMarked (is_low s (level_at s id)) new =
    only (is_low s (level_at s id))
    (λ j m. and_from (is_some (entry_at s j)) (nat_le (level_at s j) (level_at s id)) (done.live j m).0 (le-leb (level_at s j) (level_at s id) (done.live j m).1))
    (premises_pass s i e.level (is_low s (level_at s id))
    (λ j p. and_from (is_some (entry_at s j)) (nat_le (level_at s j) (level_at s id)) p.live (le-leb (level_at s j) (level_at s id) (omega (arith, p.level_within, level, (done.live i here).1))))
    e.origin rests) in
    let before : PassMarked (λ j. is_marked old j || nat_lt j i) new =
    only (λ j. is_marked old j || nat_lt j i) (λ j m. or_left (is_marked old j) (nat_lt j i) m)
    (premises_pass s i e.level (λ j. is_marked old j || nat_lt j i) (λ j p. or_right (is_marked old j) (nat_lt j i) (lt-ltb j i p.before)) e.origin rests) in
    record {
      long = long ∙ done.long;
      live = λ j m. (
        (and_parts (is_some (entry_at s j)) (nat_le (level_at s j) (level_at s id)) (low j m)).0,
        leb-true (level_at s j) (level_at s id) ((and_parts (is_some (entry_at s j)) (nat_le (level_at s j) (level_at s id)) (low j m)).1),
      );
      itself = more id done.itself;
      closed = λ j le m. closed_at s id i old new e at more marked done j le (or_cases (is_marked old j) (nat_lt j i) (before j m));
    }
