-- Levels told before an assertion or an assumed literal is covered, and what is covered above all levels.
use Rattle.std.proofs.Common.{◌≡◌, ◌⊎◌, inl, inr, ℕ, suc, ◌<◌, ◌≤◌, Bool, true, true≢false, List, [], ◌∷◌, ◌++◌, length, map, Option, Some, None, refl, sym, ap, subst, ◌∙◌, arith}
use Rattle.std.specs.Prelude.{Contains, IsSome}
use Rattle.std.proofs.lemmas.List.{length-append, length-map, map-append, take-append-le}
use Rattle.std.proofs.lemmas.List.Elements.{All-contains, All-from_recursion, Contains-append_cases, Contains-append_left, Contains-append_right}
use Rattle.nz_lists.proofs.Members.{has_found}
use Rattle.nz_spec.specs.terms.Table.{Node, IsTable}
use Rattle.nz_spec.specs.search.Decide.{asserted_numbers}
use Rattle.nz_spec.specs.terms.Taken.{TakenTermsAreInOrder}
use Rattle.nz_log.specs.Atoms.{AtomsOfTerms}
use Rattle.nz_log.specs.Logs.{Entry, told_level}
use Rattle.nz_term.specs.declared.term_lits.TermLit.{TermLit}
use Rattle.nz_cform.specs.Forms.{covered_at}
use Rattle.nz_cform.specs.Listings.{listed_at}
use Rattle.nz_sat.specs.declared.clauses.Held.{Held}
use Rattle.nz_sat.specs.Sats.{held_of}
use Rattle.nz_engine.specs.Checking.{terms_named}
use Rattle.nz_log.specs.Sound.{live_at}
use Rattle.nz_cform.specs.Laws.{RowsNameCovered}
use Rattle.nz_search.specs.Levels.{Level, added_by_level, asserted_by_level, numbers_by_level}
use Rattle.nz_engine.specs.declared.levels.Kind.{Kind}
use Rattle.nz_engine.specs.declared.levels.Kind.TheVariants.{Asserted, Number}
use Rattle.nz_engine.specs.Levels.{by_level}
use Rattle.nz_engine.specs.Preparing.{PreparedState, CoversAlso, Extends, IsAssumable, IsMadeOf, IsNext, IsPrepared, IsStanding, done_of, ids_held}
use Rattle.nz_engine.proofs.AssertionPlaces.{count_within, live_above, lower_or_not, placed_above, placed_in_all}
use Rattle.nz_engine.proofs.LevelPreservation.{made_of_more, some_of}
use Rattle.nz_engine.proofs.ClausePreservation.{covered}
use Rattle.nz_engine.specs.SearchLaws.{RowLaws}

-- no level told is above that of the next term
pub told_before : (ns : List Node) (levels : List Level) (roots : List (List ℕ)) (p : PreparedState) (kind : Kind) (t n : ℕ) → IsPrepared ns levels roots p → IsNext levels p kind t n
    → (u : ℕ) → told_level p.log u ≤ n
told_before ns levels roots p Asserted t n h next u = placed_above (asserted_by_level levels) p.given t n next.placed (told_level p.log u) (h.lower u)
told_before ns levels roots p Number t n h next u = placed_above (numbers_by_level levels) p.numbered t n next.placed (told_level p.log u) (h.numbers_lower u)

-- the next term is one that was added
pub next_of : (levels : List Level) (p : PreparedState) (kind : Kind) (t n : ℕ) → IsNext levels p kind t n → Contains (asserted_numbers (by_level kind levels)) t
next_of levels p kind t n next =
    let of = by_level kind levels in
    has_found (asserted_numbers of) (done_of kind p) t (placed_in_all of (done_of kind p) t n next.placed)

-- the same change where the state before is told otherwise but for what stands above
pub also_from : (ns : List Node) (p q : PreparedState) (b : Bool) (t level : ℕ) → CoversAlso ns (record p { above = b }) t level q → CoversAlso ns p t level q
also_from ns p q b t level c =
    record {
      covers = c.covers;
      kept = c.kept;
      grown = c.grown;
      made = c.made;
      here = c.here;
      ids = c.ids;
      added = c.added;
      joined = c.joined;
      seen = c.seen;
      told = c.told;
      sound = c.sound;
      given = c.given;
      numbered = c.numbered;
    }

-- what is assumed is covered above all levels
pub term_assumed : (ns : List Node) (levels : List Level) (more : List ℕ) (p q : PreparedState) (t level : ℕ) → AtomsOfTerms → RowsNameCovered → TakenTermsAreInOrder → RowLaws → IsTable ns → t < length ns
    → CoversAlso ns p t level q → q.above ≡ true → IsAssumable ns levels more t level p → IsStanding ns levels more q
term_assumed ns levels more p q t level atoms named order laws table within also above a =
    let added = added_by_level levels in
    let size = length-map levels (λ (l : Level). l.asserted ++ l.numbers) in
    let same = a.last in
    let last : length added ≡ level = omega (arith, size, same) in
    let has : Contains (live_at (added ++ more ∷ []) level) t =
    subst (λ xs. Contains xs t) (sym (live_above added more level last)) (Contains-append_right (asserted_numbers added) more t a.named) in
    let long = length-append added (more ∷ []) in
    let few = count_within (asserted_by_level levels) level in
    let less = count_within (numbers_by_level levels) level in
    let given = a.all.given in
    let numbered = a.all.numbered in
    record {
      raised = covered ns levels (added ++ more ∷ []) p q t level also a.standing.raised atoms named order laws table within a.taken has (omega (arith, long, last)) (omega (arith, few, given))
          (omega (arith, less, numbered));
      plain = λ e. absurd (true≢false (sym above ∙ e));
    }

-- ---- What was assumed before may stay covered

live_more : (levels : List (List ℕ)) (before more : List ℕ) (n t : ℕ) → n < length (levels ++ before ∷ []) → ((u : ℕ) → Contains before u → Contains more u)
    → Contains (live_at (levels ++ before ∷ []) n) t → Contains (live_at (levels ++ more ∷ []) n) t
live_more levels before more n t below into has =
    elim (lower_or_not n (length levels)) [
      | inl low ↦
          let same = ap asserted_numbers (take-append-le (suc n) levels (before ∷ []) (omega (arith, low))) in
          let other = ap asserted_numbers (take-append-le (suc n) levels (more ∷ []) (omega (arith, low))) in
          subst (λ xs. Contains xs t) (sym other) (subst (λ xs. Contains xs t) same has)
      | inr past ↦
          let long = length-append levels (before ∷ []) in
          let last : length levels ≡ n = omega (arith, long, below, past) in
          let here : Contains (asserted_numbers levels ++ before) t = subst (λ xs. Contains xs t) (live_above levels before n last) has in
          subst (λ xs. Contains xs t) (sym (live_above levels more n last))
          (elim (Contains-append_cases (asserted_numbers levels) before t here) [
            | inl first ↦ Contains-append_left (asserted_numbers levels) more t first
            | inr second ↦ Contains-append_right (asserted_numbers levels) more t (into t second)
          ])
    ]

-- more may be covered above all levels
pub standing_more : (ns : List Node) (levels : List Level) (before more : List ℕ) (p : PreparedState) → ((t : ℕ) → Contains before t → Contains more t) → IsStanding ns levels before p
    → IsStanding ns levels more p
standing_more ns levels before more p into s =
    let h = s.raised in
    let added = added_by_level levels in
    let first = length-append added (before ∷ []) in
    let second = length-append added (more ∷ []) in
    record {
      raised = record {
        order = h.order;
        covers = h.covers;
        below = λ t n at. let low = h.below t n at in omega (arith, low, first, second);
        made = λ t n at.
            made_of_more ns (live_at (added ++ before ∷ []) n) (live_at (added ++ more ∷ []) n) t (λ r has. live_more added before more n r (h.below t n at) into has) (h.made t n at);
        taken = h.taken;
        leveled = h.leveled;
        held = h.held;
        seen = h.seen;
        searched = h.searched;
        rows = h.rows;
        units = h.units;
        numbers = h.numbers;
        within = h.within;
        numbers_within = h.numbers_within;
        lower = h.lower;
        numbers_lower = h.numbers_lower;
      };
      plain = s.plain;
    }

pub extends_itself : (p : PreparedState) → Extends p p
extends_itself p =
    record {
      noted = refl;
      theory = refl;
      given = refl;
      numbered = refl;
      kept = record { clauses = λ i live. refl; atoms = λ i a at. at };
      held = λ id has. has;
      covered = λ t some. some;
      bounds = λ i some. some;
    }

pub extends_both : (p q r : PreparedState) → Extends p q → Extends q r → Extends p r
extends_both p q r x y =
    record {
      noted = y.noted ∙ x.noted;
      theory = y.theory ∙ x.theory;
      given = y.given ∙ x.given;
      numbered = y.numbered ∙ x.numbered;
      kept = record {
        clauses = λ i live. y.kept.clauses i (subst (λ (o : Option Entry). IsSome o) (sym (x.kept.clauses i live)) live) ∙ x.kept.clauses i live;
        atoms = λ i a at. y.kept.atoms i a (x.kept.atoms i a at);
      };
      held = λ id has. y.held id (x.held id has);
      covered = λ t some. y.covered t (x.covered t some);
      bounds = λ i some. y.bounds i (x.bounds i some);
    }

-- what is covered for one of some literals is for them
pub made_then : (ns : List Node) (assumed : List TermLit) (root : ℕ) → Contains (terms_named assumed) root → (t : ℕ) (Was Is : Type 0) → (Is → Was ⊎ IsMadeOf ns (terms_named assumed) t)
    → Is ⊎ IsMadeOf ns (root ∷ []) t → Was ⊎ IsMadeOf ns (terms_named assumed) t
made_then ns assumed root has t Was Is before (inl is) = before is
made_then ns assumed root has t Was Is before (inr of) = inr (made_of_more ns (root ∷ []) (terms_named assumed) t (λ r c. subst (Contains (terms_named assumed)) (only_one root r c) has) of)
  where
    only_one : (x y : ℕ) → Contains (x ∷ []) y → x ≡ y
    only_one x y c = All-contains (λ z. x ≡ z) (x ∷ []) y (All-from_recursion (λ z. x ≡ z) (x ∷ []) (refl, tt)) c

-- what a term that was covered adds
pub also_extends : (ns : List Node) (p q : PreparedState) (t level : ℕ) → CoversAlso ns p t level q → q.noted ≡ p.noted → q.sat.theory ≡ p.sat.theory → Extends p q
also_extends ns p q t level c noted theory =
    record {
      noted = noted;
      theory = theory;
      given = c.given;
      numbered = c.numbered;
      kept = c.kept;
      held = λ id has.
          subst (λ (hs : List Held). Contains (ids_held hs) id) (sym c.joined)
          (subst (λ (is : List ℕ). Contains is id) (sym (map-append (λ (h : Held). h.id) p.sat.clauses (map (held_of q.log) c.ids)))
          (Contains-append_left (ids_held p.sat.clauses) (ids_held (map (held_of q.log) c.ids)) id has));
      covered = λ u some. let n = some_of (covered_at p.form u) some in subst (λ (o : Option ℕ). IsSome o) (sym (c.grown.terms.stays u n.0 n.1)) refl;
      bounds = λ i some. let n = some_of (listed_at p.form.bounds i) some in subst (λ (o : Option ℕ). IsSome o) (sym (c.grown.bounds.stays i n.0 n.1)) refl;
    }

pub also_made : (ns : List Node) (p q : PreparedState) (t level : ℕ) → t < length ns → CoversAlso ns p t level q → (u : ℕ) → IsSome (covered_at q.form u) → IsSome (covered_at p.form u) ⊎ IsMadeOf ns (t ∷ []) u
also_made ns p q t level within c u some = by_case (covered_at p.form u) refl
  where
    by_case : (o : Option ℕ) → covered_at p.form u ≡ o → IsSome (covered_at p.form u) ⊎ IsMadeOf ns (t ∷ []) u
    by_case (Some n) e = inl (subst (λ (o : Option ℕ). IsSome o) (sym e) refl)
    by_case None e = inr (record { root = t; has = (0, omega arith, refl); within = within; part = c.made u e some })
