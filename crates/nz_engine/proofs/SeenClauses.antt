-- Clauses that are held are as the search saw them, where the log keeps each of them, and where it sees the log again.
use Rattle.std.proofs.Common.{◌≡◌, ℕ, ◌<◌, List, [], ◌∷◌, ◌++◌, Option, Some, None, refl, sym, subst, ◌∙◌, arith}
use Rattle.std.specs.Prelude.{All, IsSome}
use Rattle.std.proofs.lemmas.List.Elements.{All-append, All-from_recursion, All-weaker}
use Rattle.nz_log.specs.Logs.{Entry, IsLive, LogState, Puts, entry_at, level_at}
use Rattle.nz_reals.specs.State.{Theory}
use Rattle.nz_sat.specs.declared.clauses.Held.{Held}
use Rattle.nz_sat.specs.Sats.{AreHeld, AreSameSince, IsSameIn, SatState, held_of}
use Rattle.nz_engine.proofs.HeldClauses.{same_literals}

-- where the log keeps each clause that is held
pub still_seen : (seen : Option LogState) (old new : LogState) (hs : List Held) → ((i : ℕ) → IsLive old i → entry_at new i ≡ entry_at old i) → AreSameSince seen old hs → AreSameSince seen new hs
still_seen None old new hs kept none = none
still_seen (Some s) old new hs kept h =
    All-weaker (IsSameIn s old) (IsSameIn s new)
    (λ x k.
    let same = kept x.id k.0 in
    (subst (λ (o : Option Entry). IsSome o) (sym same) k.0, same_literals old new x.id same ∙ k.1)) hs h

-- where it holds the same, and saw the same
pub since_same : (log : LogState) (old new : SatState Theory) → new.clauses ≡ old.clauses → new.seen ≡ old.seen → AreSameSince old.seen log old.clauses → AreSameSince new.seen log new.clauses
since_same log old new clauses seen h = subst (λ (s : Option LogState). AreSameSince s log new.clauses) (sym seen) (subst (AreSameSince old.seen log) (sym clauses) h)

-- where a clause is put
pub seen_put : (seen : Option LogState) (old new : LogState) (hs : List Held) {id : ℕ} {e : Entry} → Puts old id e new → AreSameSince seen old hs → AreSameSince seen new hs
seen_put seen old new hs {id} {e} puts =
    still_seen seen old new hs (λ i live. puts.kept i (λ same. let below : i < id = puts.above i live in absurd (omega (arith, below, same))))

-- where it sees the log in which they are live
seen_now : (log : LogState) (hs : List Held) → All (λ (h : Held). IsLive log h.id) hs → AreSameSince (Some log) log hs
seen_now log hs live = All-weaker (λ (h : Held). IsLive log h.id) (IsSameIn log log) (λ h is. (is, refl)) hs live

pub seen_held : (log : LogState) (hs : List Held) → AreHeld log hs → AreSameSince (Some log) log hs
seen_held log hs held = seen_now log hs (All-weaker (λ (h : Held). IsLive log h.id × (level_at log h.id ≡ h.level)) (λ (h : Held). IsLive log h.id) (λ h k. k.0) hs held)

live_since : (seen : Option LogState) (log : LogState) (hs : List Held) → AreSameSince seen log hs → All (λ (h : Held). IsLive log h.id) hs
live_since None log hs none = subst (All (λ (h : Held). IsLive log h.id)) (sym none) (All-from_recursion (λ (h : Held). IsLive log h.id) [] tt)
live_since (Some s) log hs h = All-weaker (IsSameIn s log) (λ (h : Held). IsLive log h.id) (λ h k. k.0) hs h

-- where one more of it is held, and it sees the log again
pub seen_also : (seen saw : Option LogState) (log : LogState) (hs more : List Held) (id : ℕ) → AreSameSince seen log hs → IsLive log id → more ≡ hs ++ held_of log id ∷ [] → saw ≡ Some log → AreSameSince saw log more
seen_also seen saw log hs more id since live joined sees =
    let P = λ (h : Held). IsLive log h.id in
    let now = seen_now log (hs ++ held_of log id ∷ [])
    (All-append P hs (held_of log id ∷ []) (live_since seen log hs since) (All-from_recursion P (held_of log id ∷ []) (live, tt))) in
    subst (λ (s : Option LogState). AreSameSince s log more) (sym sees) (subst (AreSameSince (Some log) log) (sym joined) now)
