-- Atoms join, and then a clause is put.
use Rattle.std.proofs.Common.{◌≡◌, ℕ, List, None, Result, Ok, Err, refl, sym, ap, subst, ◌∙◌}
use Rattle.std.specs.Prelude.{slice_get, unwrap_or, IsSome, IfOk, OnErr}
use Rattle.nz_log.specs.declared.lits.Lit.{Lit}
use Rattle.nz_log.specs.Logs.{Entry, IsLive, JoinsAtoms, LogState, Origin, Puts, entry_at, made_entry}

pub nothing_joins : (s : LogState) → JoinsAtoms s s
nothing_joins s = record { entries = refl; told = refl; atoms = λ i a at. at }

pub joins_same : (old new : LogState) → new ≡ old → JoinsAtoms old new
joins_same old new same = subst (JoinsAtoms old) (sym same) (nothing_joins old)

pub joins_twice : (old mid new : LogState) → JoinsAtoms old mid → JoinsAtoms mid new → JoinsAtoms old new
joins_twice old mid new j k =
    record { entries = k.entries ∙ j.entries; told = k.told ∙ j.told; atoms = λ i a at. k.atoms i a (j.atoms i a at) }

-- a clause is put after them
pub puts_after : (old mid new : LogState) (id : ℕ) (e : Entry) → JoinsAtoms old mid → Puts mid id e new → Puts old id e new
puts_after old mid new id e j puts =
    let same : (i : ℕ) → entry_at mid i ≡ entry_at old i = λ i. ap (λ es. unwrap_or (slice_get es i) None) j.entries in
    let live : (i : ℕ) → IsLive old i → IsLive mid i = λ i h. subst (λ o. IsSome o) (sym (same i)) h in
    record {
      above = λ i h. puts.above i (live i h);
      live = puts.live;
      stay = λ i h. puts.stay i (live i h);
      made = puts.made;
      kept = λ i other. puts.kept i other ∙ same i;
      told = puts.told ∙ j.told;
      atoms = λ i a at. puts.atoms i a (j.atoms i a at);
    }

-- the level of the clause is the same beside what is there then
made_now : (mid new : LogState) (level : ℕ) (c : List Lit) (o : Origin) → new.told ≡ mid.told → new.atoms ≡ mid.atoms → made_entry new level c o ≡ made_entry mid level c o
made_now mid new level c o told atoms =
    λ i. made_entry (record { entries = mid.entries; told = told i; atoms = atoms i }) level c o

pub puts_made : {E : Type 0} (old mid new : LogState) (level : ℕ) (c d : List Lit) (o : Origin) (r : Result ℕ E) → JoinsAtoms old mid → new.atoms ≡ mid.atoms → c ≡ d
    → IfOk r (λ id. Puts mid id (made_entry mid level c o) new) → IfOk r (λ id. Puts old id (made_entry new level d o) new)
puts_made old mid new level c d o (Ok id) j atoms same puts =
    subst (λ (e : Entry). Puts old id e new) (sym (made_now mid new level c o puts.told atoms) ∙ ap (λ (f : List Lit). made_entry new level f o) same)
    (puts_after old mid new id (made_entry mid level c o) j puts)
puts_made old mid new level c d o (Err x) j atoms same puts = puts

pub err_joins : {X E : Type 0} (old mid new : LogState) (r : Result X E) → JoinsAtoms old mid → OnErr r (new ≡ mid) → OnErr r (JoinsAtoms old new)
err_joins old mid new (Ok x) j same = same
err_joins old mid new (Err x) j same = joins_twice old mid new j (joins_same mid new same)
