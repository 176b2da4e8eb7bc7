-- What is kept at or below a level, and the level at which a term is covered.
use Rattle.std.proofs.Common.{◌≡◌, ℕ, ◌≤◌, Option, Some, None, refl, ap, subst, arith, IsSomeAnd, nat_le, if◌then◌else◌, le-leb, leb-true}
use Rattle.nz_lists.proofs.Options.{kept_if}
use Rattle.nz_log.specs.Logs.{Entry, kept_below, told_below}

-- ---- What is kept

-- what is kept of a level was there, at or below
pub told_parts : (level : ℕ) (o : Option ℕ) (n : ℕ) → told_below level o ≡ Some n → (o ≡ Some n) × (n ≤ level)
told_parts level None n at = cc
told_parts level (Some m) n at =
    let k = kept_if (nat_le m level) m n at in
    (ap Some k.0, subst (λ i. i ≤ level) k.0 (leb-true m level k.1))

-- what is at or below the level is kept
pub told_low : (level n : ℕ) → n ≤ level → told_below level (Some n) ≡ Some n
told_low level n below = ap (λ b. if b then Some n else None) (le-leb n level below)

-- so it is of clauses
pub kept_parts : (level : ℕ) (o : Option Entry) (e : Entry) → kept_below level o ≡ Some e → (o ≡ Some e) × (e.level ≤ level)
kept_parts level None e at = cc
kept_parts level (Some f) e at =
    let k = kept_if (nat_le f.level level) f e at in
    (ap Some k.0, subst (λ (g : Entry). g.level ≤ level) k.0 (leb-true f.level level k.1))

-- also of clauses
pub kept_low : (level : ℕ) (e : Entry) → e.level ≤ level → kept_below level (Some e) ≡ Some e
kept_low level e below = ap (λ b. if b then Some e else None) (le-leb e.level level below)

-- ---- At which level a term is covered

-- covered at a level is covered within a higher one
pub covered_within : (o : Option ℕ) (m n : ℕ) → o ≡ Some m → m ≤ n → IsSomeAnd o (λ k. k ≤ n)
covered_within None m n e below = cc
covered_within (Some k) m n e below = let same : k ≡ m = cc in omega arith

-- within a level is at one that is no higher
pub level_of : (o : Option ℕ) (n : ℕ) → IsSomeAnd o (λ k. k ≤ n) → (m : ℕ) × (o ≡ Some m) × (m ≤ n)
level_of None n h = absurd h
level_of (Some m) n h = (m, refl, h)
