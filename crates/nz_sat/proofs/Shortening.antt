-- A learned clause is made smaller: a redundant literal is resolved with the reason that makes it false.
use Rattle.std.proofs.Common.{◌≡◌, ◌≢◌, ℕ, ◌+◌, ◌<◌, ◌≤◌, Bool, true, false, inl, inr, List, [], ◌∷◌, ◌++◌, length, take, Some, sym, ap, subst, ◌∙◌, arith, Contains, slice_get}
use Rattle.std.specs.Prelude.{slice_set}
use Rattle.std.proofs.lemmas.List.{length_push}
use Rattle.nz_lists.proofs.Members.{has_found}
use Rattle.nz_log.specs.declared.lits.Lit.{Lit}
use Rattle.nz_log.specs.declared.origins.Link.{Link}
use Rattle.nz_log.specs.Atoms.{TellsLits}
use Rattle.nz_log.specs.Lits.{negated_lit}
use Rattle.nz_log.specs.Logs.{LogState, chained, literals_at}
use Rattle.nz_sat.specs.declared.analyze.Chain.{Chain}
use Rattle.nz_sat.specs.declared.trail.Assigned.{Assigned}
use Rattle.nz_sat.specs.Trails.{EachBehind, IsFalseOn, IsNext, depth, level_on}
use Rattle.nz_sat.specs.Clauses.{IsFalsified, IsImplied, IsReason}
use Rattle.nz_sat.specs.Conflicts.{AreLinks, AreMarked, IsChain, IsFalseBy, MarksFalse, is_marked}
use Rattle.nz_sat.proofs.Backward.{false_whole, front_place}
use Rattle.nz_sat.proofs.ConflictChains.{kept_longer, link_of, links_longer, longer_from, marked_longer, reason_is}
use Rattle.nz_sat.proofs.Marks.{false_entry, found_whole, level_found}
use Rattle.nz_sat.proofs.TrailEntries.{assigned_place, depth_front, level_is}

-- what is false before an entry is of no greater level
lower_before : (size : ℕ) (es : List Assigned) → EachBehind (IsNext size) es → (i : ℕ) (e : Assigned) → slice_get es i ≡ Some e → (m : Lit) → IsFalseOn (take i es) m
    → level_on es m.atom ≤ e.level
lower_before size es order i e at m before =
    let x = false_entry (take i es) m before in
    let p = assigned_place (take i es) m.atom x.0 x.1 in
    let place = front_place es i x.0 (has_found (take i es) p.1.0 x.0 p.1.1) in
    let level : level_on es m.atom ≡ x.0.level = level_found es m.atom x.0 (found_whole es i m.atom x.0 x.1) in
    let there = level_is size es order place.0 x.0 place.2 in
    let here = level_is size es order i e at in
    let less = depth_front (place.0 + 1) (i + 1) es (omega (arith, place.1)) in
    omega (arith, level, there, here, less)

module _ (s : LogState) (size : ℕ) (es : List Assigned) (order : EachBehind (IsNext size) es) (falsified : ℕ) (marks : List Bool) (c : Chain) (chain : IsChain s es falsified marks c)
    (atom clause : ℕ) (l : Lit) (by : IsFalseBy es marks c.literal atom clause l) (tells : TellsLits) (implied : EachBehind (IsImplied s) es) (new : List Bool)
    (made : MarksFalse es (literals_at s clause) (slice_set marks atom false) new) where
  abbrev e : Assigned
  e = by.entry

  abbrev ks : List Link
  ks = c.links.items

  abbrev so_far : List Lit
  so_far = chained s (literals_at s falsified) ks

  abbrev longer : List Link
  longer = ks ++ link_of e clause ∷ []

  of_atom : e.literal.atom ≡ atom
  of_atom = (assigned_place es atom e by.is).0

  abbrev i : ℕ
  i = (assigned_place es atom e by.is).1.0

  at : slice_get es i ≡ Some e
  at = (assigned_place es atom e by.is).1.1

  on : is_marked marks e.literal.atom ≡ true
  on = ap (is_marked marks) of_atom ∙ by.marked

  made_of : MarksFalse es (literals_at s clause) (slice_set marks e.literal.atom false) new
  made_of = subst (λ (t : ℕ). MarksFalse es (literals_at s clause) (slice_set marks t false) new) (sym of_atom) made

  why : IsReason s (take i es) e.literal clause
  why = reason_is s (take i es) e clause by.reason (implied i e at)

  -- the entry is below the last level: the clause has its negation, beside the literal
  below_last : e.level < depth es
  below_last =
      let w = chain.marked.only atom by.marked in
      let low = chain.others w.0 w.1 (λ same. by.other (sym w.2 ∙ ap (λ (k : Lit). k.atom) same)) in
      let level : level_on es w.0.atom ≡ e.level = ap (level_on es) w.2 ∙ level_found es atom e by.is in
      omega (arith, low, level)

  other_lit : c.literal ≢ negated_lit e.literal
  other_lit same = by.other (sym of_atom ∙ sym (ap (λ (k : Lit). k.atom) same))

  falsified_longer : IsFalsified es (chained s (literals_at s falsified) longer)
  falsified_longer m has =
      elim (longer_from tells s (literals_at s falsified) ks e clause m has) [
        | inl old ↦ chain.falsified_too m old.0
        | inr of_reason ↦ false_whole es i m (why.others m of_reason.0 of_reason.1)
      ]

  others_longer : (m : Lit) → Contains (chained s (literals_at s falsified) longer) m → m ≢ c.literal → level_on es m.atom < depth es
  others_longer m has other =
      elim (longer_from tells s (literals_at s falsified) ks e clause m has) [
        | inl old ↦ chain.others m old.0 other
        | inr of_reason ↦
            let low = lower_before size es order i e at m (why.others m of_reason.0 of_reason.1) in
            omega (arith, low, below_last)
      ]

  pub shorter : (d : Chain) → d.links.items ≡ ks ++ record { clause = clause; literal = l } ∷ [] → d.literal ≡ c.literal → IsChain s es falsified new d
  shorter d links literal =
      let is : longer ≡ d.links.items = sym (links ∙ ap (λ (k : Lit). ks ++ record { clause = clause; literal = k } ∷ []) by.literal) in
      let has : Contains (chained s (literals_at s falsified) longer) c.literal =
      kept_longer s size es order falsified i e at marks ks chain.falsified_too chain.marked on tells clause by.reason (implied i e at) new made_of c.literal chain.has other_lit in
      let marked = marked_longer s size es order falsified i e at marks ks chain.falsified_too chain.marked on tells clause by.reason (implied i e at) new made_of in
      record {
        links = subst (AreLinks s es) is (links_longer s es i e at ks clause why.live chain.links);
        some = subst (λ (k : List Link). 0 < length k) is (omega (arith, length_push ks (link_of e clause)));
        falsified_too = subst (λ (k : List Link). IsFalsified es (chained s (literals_at s falsified) k)) is falsified_longer;
        has = subst (λ (k : List Link). Contains (chained s (literals_at s falsified) k) d.literal) is
            (subst (Contains (chained s (literals_at s falsified) longer)) (sym literal) has);
        last = ap (λ (k : Lit). level_on es k.atom) literal ∙ chain.last;
        others = λ m there other.
            others_longer m (subst (λ (k : List Link). Contains (chained s (literals_at s falsified) k) m) (sym is) there) (λ same. other (same ∙ sym literal));
        marked = subst (λ (k : List Link). AreMarked (chained s (literals_at s falsified) k) new) is marked;
      }
