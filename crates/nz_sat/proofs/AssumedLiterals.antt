-- What is assumed stays so on trails that go on, and on the entries that assumed literals are.
use Rattle.std.proofs.Common.{◌≡◌, List, get_or, None, Some, inl, inr, refl, ap, subst, arith}
use Rattle.std.specs.Prelude.{All, Contains, nat_le, option_map}
use Rattle.std.proofs.lemmas.List.{get_or-map, length-map}
use Rattle.std.proofs.lemmas.List.Elements.{All-contains, All-contains_itself, All-map, All-weaker, Contains-get_or}
use Rattle.std.proofs.lemmas.Option.{same_Some}
use Rattle.nz_lists.proofs.Members.{has_found, map_has}
use Rattle.nz_spec.specs.search.Work.{WorkList}
use Rattle.nz_log.specs.declared.lits.Lit.{Lit}
use Rattle.nz_log.specs.Lits.{negated_lit}
use Rattle.nz_search.specs.declared.note.Note.{Note}
use Rattle.nz_sat.specs.declared.search.Search.{Search}
use Rattle.nz_sat.specs.declared.trail.Assigned.{Assigned}
use Rattle.nz_sat.specs.Clauses.{AreAssumedOn, IsAssumed}
use Rattle.nz_sat.specs.Sats.{AreConsistent}
use Rattle.nz_sat.specs.Searching.{Carries, KeepsFirst, assumed_entries}
use Rattle.nz_sat.specs.Trails.{GoesOn, IsTrueOn, assigned, below, literals_on}
use Rattle.nz_sat.proofs.Chains.{filter_from, filter_has, lit_is}
use Rattle.nz_sat.proofs.Clausal.{either_sign}
use Rattle.nz_sat.proofs.LearnedClauses.{all_from}
use Rattle.nz_sat.proofs.Propagations.{goes_first}
use Rattle.nz_sat.proofs.ToldTrails.{entry_from, missing}
use Rattle.nz_sat.proofs.TrailEntries.{assigned_place}
use Rattle.nz_sat.proofs.TrailGrowth.{goes_assumed}

-- a true literal is that of an entry
pub true_among : (es : List Assigned) (l : Lit) → IsTrueOn es l → Contains (literals_on es) l
true_among es l on =
    elim (assigned es l.atom) as (λ o. assigned es l.atom ≡ o → option_map (λ (x : Assigned). x.literal.sign) o ≡ Some l.sign → Contains (literals_on es) l) [
      | None ↦ λ none there. let clash : None ≡ Some l.sign = there in cc
      | Some x ↦ λ at there.
          let place = assigned_place es l.atom x at in
          let is : x.literal ≡ l = lit_is x.literal l place.0 (same_Some x.literal.sign l.sign there) in
          subst (Contains (literals_on es)) is (map_has (λ (e : Assigned). e.literal) es x (has_found es place.1.0 x place.1.1))
    ] refl on

-- ---- From one trail to another

assumed_then : (es es' : List Assigned) (assumed : List Lit) → KeepsFirst es es' → (All (IsAssumed assumed) es → All (IsAssumed assumed) es') → AreAssumedOn assumed es → AreAssumedOn assumed es'
assumed_then es es' assumed first only on =
    record {
      only = only on.only;
      hold = All-weaker (IsTrueOn (below 0 es)) (IsTrueOn (below 0 es')) first assumed on.hold;
    }

-- a trail that goes on
pub assumed_goes : (es es' : List Assigned) (assumed : List Lit) → GoesOn es es' → AreAssumedOn assumed es → AreAssumedOn assumed es'
assumed_goes es es' assumed g = assumed_then es es' assumed (goes_first es es' g) (goes_assumed es es' assumed g)

-- a search that goes on
pub assumed_carried : {s s' : Search} → {work work' : WorkList Note} → Carries s s' work work' → (assumed : List Lit) → AreAssumedOn assumed s.trail.entries → AreAssumedOn assumed s'.trail.entries
assumed_carried {s} {s'} c assumed = assumed_then s.trail.entries s'.trail.entries assumed c.first (c.assumed_only assumed)

-- ---- The entries that assumed literals are

abbrev entry_of : Lit → Assigned
entry_of l = record { literal = l; level = 0; reason = None }

-- what is assumed is among any literals that the entries of these are assumed by
wider : (assumed all : List Lit) → All (IsAssumed all) (assumed_entries assumed) → All (Contains all) assumed
wider assumed all h k d inside =
    let long = length-map assumed entry_of in
    let is : IsAssumed all (entry_of (get_or assumed k d)) =
    subst (IsAssumed all) (get_or-map entry_of assumed k d (entry_of d) inside) (h k (entry_of d) (omega arith)) in
    is refl refl

pub assumed_wider : (assumed all : List Lit) → All (IsAssumed all) (assumed_entries assumed) → (es : List Assigned) → All (IsAssumed assumed) es → All (IsAssumed all) es
assumed_wider assumed all h es only k d inside none level =
    All-contains (Contains all) assumed (get_or es k d).literal (wider assumed all h) (only k d inside none level)

-- each of these entries is on an assumed literal
on_assumed : (assumed : List Lit) (e : Assigned) → Contains (below 0 (assumed_entries assumed)) e → Contains assumed e.literal
on_assumed assumed e has =
    let P : Assigned → Type 0 = λ x. Contains assumed x.literal in
    All-contains P (assumed_entries assumed) e (All-map P entry_of assumed (All-contains_itself assumed)) (filter_from (λ (x : Assigned). nat_le x.level 0) (assumed_entries assumed) e has).0

-- what is true on them is assumed
narrower : (assumed : List Lit) (l : Lit) → IsTrueOn (below 0 (assumed_entries assumed)) l → Contains assumed l
narrower assumed l on =
    let front = below 0 (assumed_entries assumed) in
    let e = entry_from front l (true_among front l on) in
    subst (Contains assumed) e.3 (on_assumed assumed e.1 (has_found front e.0 e.1 e.2))

-- so a trail on which these are assumed is one for any literals that stand so on their entries
pub assumed_from : (assumed all : List Lit) (es : List Assigned) → AreAssumedOn assumed es → AreAssumedOn all (assumed_entries assumed) → AreAssumedOn all es
assumed_from assumed all es on first =
    record {
      only = assumed_wider assumed all first.only es on.only;
      hold = All-weaker (IsTrueOn (below 0 (assumed_entries assumed))) (IsTrueOn (below 0 es))
          (λ l true_first. All-contains (IsTrueOn (below 0 es)) assumed l on.hold (narrower assumed l true_first)) all first.hold;
    }

-- literals of which none is the negation of another are true on the entries that they are
pub assumed_first : (assumed : List Lit) → AreConsistent assumed → AreAssumedOn assumed (assumed_entries assumed)
assumed_first assumed consistent =
    record {
      only = All-map (IsAssumed assumed) entry_of assumed (λ k d inside none level. Contains-get_or assumed k d inside);
      hold = all_from (IsTrueOn (below 0 (assumed_entries assumed))) assumed holds_first;
    } where
      holds_first : (l : Lit) → Contains assumed l → IsTrueOn (below 0 (assumed_entries assumed)) l
      holds_first l has =
          let front = below 0 (assumed_entries assumed) in
          let there : Contains front (entry_of l) = filter_has (λ (x : Assigned). nat_le x.level 0) (assumed_entries assumed) (entry_of l) (map_has entry_of assumed l has) refl in
          elim (assigned front l.atom) as (λ o. assigned front l.atom ≡ o → option_map (λ (x : Assigned). x.literal.sign) o ≡ Some l.sign) [
            | None ↦ λ none. absurd (missing front (entry_of l) there none)
            | Some x ↦ λ at.
                let place = assigned_place front l.atom x at in
                let among = on_assumed assumed x (has_found front place.1.0 x place.1.1) in
                elim (either_sign x.literal.sign l.sign) [
                  | inl same ↦ ap Some same
                  | inr other ↦
                      absurd
                      (All-contains (λ (m : Lit). Contains assumed (negated_lit m) → ⊥) assumed l consistent has
                      (subst (Contains assumed) (lit_is x.literal (negated_lit l) place.0 other) among))
                ]
          ] refl
