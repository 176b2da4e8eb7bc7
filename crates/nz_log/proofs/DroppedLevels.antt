-- What stays when a level is dropped is in order, and so is all when a level is told and when atoms join.
use Rattle.std.proofs.Common.{◌≡◌, ℕ, suc, ◌≤◌, Bool, true, false, List, take, Option, Some, None, refl, sym, ap, subst, ◌∙◌, arith}
use Rattle.std.specs.Prelude.{slice_get, nat_le, unwrap_or, IsSome, if◌then◌else◌}
use Rattle.std.proofs.lemmas.List.{take-take}
use Rattle.std.proofs.lemmas.Bool.{leb-true, le-leb}
use Rattle.nz_lists.proofs.Places.{slice_get-same}
use Rattle.nz_spec.specs.terms.Table.{Node}
use Rattle.nz_spec.specs.search.Decide.{asserted_numbers}
use Rattle.nz_log.specs.Atoms.{AreAtoms, Stay}
use Rattle.nz_log.specs.Logs.{Origin, assertion_of, gate_of, axiom_of, chain_of, Entry, LogState, entry_at, kept_below, Drops}
use Rattle.nz_log.specs.Sound.{live_at, IsMade, IsLog}
use Rattle.nz_log.proofs.Soundness.{Keeps, entry_stays}

-- what is kept was there, at or below the level
kept_test : (level : ℕ) (f e : Entry) (b : Bool) → nat_le f.level level ≡ b → (if b then Some f else None) ≡ Some e → (f ≡ e) × (e.level ≤ level)
kept_test level f e true t at =
    let same : f ≡ e = cc in
    (same, subst (λ (g : Entry). g.level ≤ level) same (leb-true f.level level t))
kept_test level f e false t at = cc

pub kept_is : (level : ℕ) (o : Option Entry) (e : Entry) → kept_below level o ≡ Some e → (o ≡ Some e) × (e.level ≤ level)
kept_is level None e at = cc
kept_is level (Some f) e at = let k = kept_test level f e (nat_le f.level level) refl at in (ap Some k.0, k.1)

-- and what was there, at or below the level, is kept
is_kept : (level : ℕ) (o : Option Entry) → IsSome o → elim o [ None ↦ 0 | Some e ↦ e.level ] ≤ level → kept_below level o ≡ o
is_kept level None live below = refl
is_kept level (Some e) live below = ap (λ b. if b then Some e else None) (le-leb e.level level below)

module _ (s r : LogState) (level : ℕ) (drops : Drops s level r) where
  pub keeps : Keeps level s r
  keeps i live below = drops.entries i ∙ is_kept level (entry_at s i) live below

  live_stays : (levels : List (List ℕ)) (n : ℕ) → n ≤ level → live_at (take (suc level) levels) n ≡ live_at levels n
  live_stays levels n below = ap asserted_numbers (take-take (suc n) (suc level) levels (omega arith))

  made_below : (ns : List Node) (levels : List (List ℕ)) (id : ℕ) (e : Entry) → e.level ≤ level → (o : Origin) → IsMade ns levels r id e o
      → IsMade ns (take (suc level) levels) r id e o
  made_below ns levels id e below (assertion_of k) m = (m.0, ap (λ l. slice_get l k) (live_stays levels e.level below) ∙ m.1, m.2, m.3)
  made_below ns levels id e below (gate_of t j) m = m
  made_below ns levels id e below (axiom_of a) m = m
  made_below ns levels id e below (chain_of first ks) m = m

  pub drops_in_order : (ns : List Node) (levels : List (List ℕ)) → IsLog ns levels s → IsLog ns (take (suc level) levels) r
  drops_in_order ns levels order =
      record {
        atoms = subst AreAtoms (sym drops.atoms) order.atoms;
        clauses = λ i e at.
            let was = kept_is level (entry_at s i) e (sym (drops.entries i) ∙ at) in
            let there = entry_stays level s r keeps (slice_get-same s.atoms r.atoms drops.atoms) ns levels i e was.1 (order.clauses i e was.0) in
            record { within = there.within; made = made_below ns levels i e was.1 e.origin there.made };
      }

-- the same clauses are in order, whatever is told, and whatever atoms join
pub joined_in_order : (s r : LogState) → r.entries ≡ s.entries → Stay s.atoms r.atoms → AreAtoms r.atoms → (ns : List Node) (levels : List (List ℕ))
    → IsLog ns levels s → IsLog ns levels r
joined_in_order s r same stay atoms ns levels order =
    record {
      atoms = atoms;
      clauses = λ i e at.
          let entry : (j : ℕ) → entry_at r j ≡ entry_at s j = λ j. ap (λ es. unwrap_or (slice_get es j) None) same in
          entry_stays e.level s r (λ j live below. entry j) stay ns levels i e (omega arith) (order.clauses i e (sym (entry i) ∙ at));
    }

pub told_in_order : (s r : LogState) → r.entries ≡ s.entries → r.atoms ≡ s.atoms → (ns : List Node) (levels : List (List ℕ)) → IsLog ns levels s → IsLog ns levels r
told_in_order s r same atoms ns levels order =
    joined_in_order s r same (slice_get-same s.atoms r.atoms atoms) (subst AreAtoms (sym atoms) order.atoms) ns levels order
