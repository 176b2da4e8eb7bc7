-- Clauses rest on earlier ones of no higher level: how that stays so.
use Rattle.std.proofs.Common.{◌≡◌, ℕ, ◌<◌, ◌≤◌, max, List, [], ◌∷◌, length, Option, Some, inl, inr, refl, sym, ap, subst, ◌∙◌, arith}
use Rattle.std.specs.Prelude.{All}
use Rattle.std.specs.List.{AllByRecursion}
use Rattle.std.proofs.lemmas.List.Elements.{recursion_from_All}
use Rattle.nz_lists.proofs.Numbers.{same_or_other}
use Rattle.nz_log.specs.declared.atoms.Atom.{Atom}
use Rattle.nz_log.specs.declared.origins.Link.{Link}
use Rattle.nz_log.specs.Logs.{IsLeaf, IsPremise, RestsOn, IsOrdered, Origin, assertion_of, gate_of, axiom_of, chain_of, Entry, LogState, entry_at, IsLive, level_at, level_of_links, Puts, Drops}
use Rattle.nz_log.proofs.Soundness.{Keeps, premise_stays, puts_keeps, links_grow}
use Rattle.nz_log.proofs.DroppedLevels.{kept_is, keeps}
use Rattle.nz_log.specs.declared.origins.Stored.{Stored}
use Rattle.nz_log.specs.Stored.{log_of}

module _ (bound : ℕ) (s r : LogState) (keeps : Keeps bound s r) where
  premises_stay : (id level : ℕ) → level ≤ bound → (ks : List Link) → AllByRecursion (λ (k : Link). IsPremise s id level k.clause) ks
      → AllByRecursion (λ (k : Link). IsPremise r id level k.clause) ks
  premises_stay id level below [] h = tt
  premises_stay id level below (k ∷ ks) h = ((premise_stays bound s r keeps id level k.clause below h.0).1, premises_stay id level below ks h.1)

  rests_stay : (id level : ℕ) → level ≤ bound → (o : Origin) → RestsOn s id level o → RestsOn r id level o
  rests_stay id level below (assertion_of k) h = h
  rests_stay id level below (gate_of t j) h = h
  rests_stay id level below (axiom_of a) h = h
  rests_stay id level below (chain_of first ks) h =
      ((premise_stays bound s r keeps id level first below h.0).1, h.1, premises_stay id level below ks h.2)

pub puts_ordered : (s r : LogState) (id : ℕ) (e : Entry) → Puts s id e r → IsOrdered s → RestsOn s id e.level e.origin → IsOrdered r
puts_ordered s r id e puts order rests j f at =
    elim (same_or_other j id) [
      | inl same ↦
          let one : e ≡ f = let both : Some e ≡ Some f = sym puts.made ∙ ap (entry_at r) (sym same) ∙ at in cc in
          subst (λ (g : Entry). RestsOn r j g.level g.origin) one
          (subst (λ n. RestsOn r n e.level e.origin) (sym same) (rests_stay e.level s r (puts_keeps s r id e puts e.level) id e.level (omega arith) e.origin rests))
      | inr other ↦
          rests_stay f.level s r (puts_keeps s r id e puts f.level) j f.level (omega arith) f.origin (order j f (sym (puts.kept j other) ∙ at))
    ]

pub drops_ordered : (s r : LogState) (level : ℕ) → Drops s level r → IsOrdered s → IsOrdered r
drops_ordered s r level drops order i e at =
    let was = kept_is level (entry_at s i) e (sym (drops.entries i) ∙ at) in
    rests_stay level s r (keeps s r level drops) i e.level was.1 e.origin (order i e was.0)

-- what is told of terms doesn't matter, nor do atoms
pub told_ordered : (clauses : List (Option Stored)) (told told' : List (Option ℕ)) (atoms atoms' : List Atom) → IsOrdered (log_of clauses told atoms)
    → IsOrdered (log_of clauses told' atoms')
told_ordered clauses told told' atoms atoms' order i e at =
    rests_stay e.level (log_of clauses told atoms) (log_of clauses told' atoms') (λ j live below. refl) i e.level (omega arith) e.origin (order i e at)

-- the links of a chain are earlier, and of no higher level
links_rest : (s : LogState) (id n : ℕ) → ((i : ℕ) → IsLive s i → i < id) → (start : ℕ) (ks : List Link) → AllByRecursion (λ (k : Link). IsLive s k.clause) ks
    → level_of_links s start ks ≤ n → AllByRecursion (λ (k : Link). IsPremise s id n k.clause) ks
links_rest s id n above start [] live below = tt
links_rest s id n above start (k ∷ ks) live below =
    let grows = links_grow s (max start (level_at s k.clause)) ks in
    let least : level_at s k.clause ≤ n = omega (arith, grows, below) in (
      record { live = live.0; before = above k.clause live.0; level_within = least },
      links_rest s id n above (max start (level_at s k.clause)) ks live.1 below,
    )

pub chain_rests : (s : LogState) (id first : ℕ) (ks : List Link) → ((i : ℕ) → IsLive s i → i < id) → IsLive s first → All (λ (k : Link). IsLive s k.clause) ks
    → 0 < length ks → (n : ℕ) → level_of_links s (level_at s first) ks ≤ n → RestsOn s id n (chain_of first ks)
chain_rests s id first ks above live lives some n below =
    let from = links_grow s (level_at s first) ks in
    let low : level_at s first ≤ n = omega (arith, from, below) in (
      record { live = live; before = above first live; level_within = low },
      some,
      links_rest s id n above (level_at s first) ks (recursion_from_All (λ (k : Link). IsLive s k.clause) ks lives) below,
    )

-- what rests on nothing may stand anywhere
pub leaf_rests : (s : LogState) (id level : ℕ) (o : Origin) → IsLeaf o → RestsOn s id level o
leaf_rests s id level (assertion_of k) h = tt
leaf_rests s id level (gate_of t j) h = tt
leaf_rests s id level (axiom_of a) h = tt
leaf_rests s id level (chain_of first ks) h = absurd h
