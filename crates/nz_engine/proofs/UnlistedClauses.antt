-- Clauses of which some are taken out of a list, one after another from its end.
use Rattle.std.proofs.Common.{◌≡◌, ℕ, zero, suc, ◌<◌, ◌≤◌, inl, inr, Bool, true, false, true≢false, if◌then◌else◌, eqb-true, eq-eqb, List, [], ◌∷◌, length, get_or, refl, sym, ap, subst, ◌∙◌, arith}
use Rattle.std.specs.Prelude.{◌==◌, All, Contains, IsSome, filter, not}
use Rattle.std.proofs.lemmas.List.Elements.{All-contains, All-contains_itself, Contains-append_right, Contains-get_or}
use Rattle.nz_lists.proofs.Members.{has_cases, has_none}
use Rattle.nz_log.specs.Logs.{LogState}
use Rattle.nz_cform.specs.Listings.{ListingState, listed_at}
use Rattle.nz_sat.specs.declared.clauses.Held.{Held}
use Rattle.nz_sat.specs.Sats.{held_but}
use Rattle.nz_engine.specs.Preparing.{Forgets, HasListedBounds}
use Rattle.nz_engine.proofs.AssertionPlaces.{lower_or_not}

-- The element at a place of what a filter leaves stood there or behind it, and passes the test.
record StoodAt {X : Type 0} (test : X → Bool) (xs left : List X) (k : ℕ) (d : X) : Type 0 where
  place : ℕ
  behind : k ≤ place
  inside : place < length xs
  same : get_or left k d ≡ get_or xs place d
  passes : test (get_or xs place d) ≡ true

stood_at : {X : Type 0} (test : X → Bool) (xs : List X) (k : ℕ) (d : X) → k < length (filter test xs) → StoodAt test xs (filter test xs) k d
stood_at test [] k d less = absurd (omega (arith, less))
stood_at {X} test (x ∷ xs) k d less = step (test x) refl k less (λ i below. stood_at test xs i d below) where
  step : (b : Bool) → test x ≡ b → (k : ℕ) → k < length (if b then x ∷ filter test xs else filter test xs)
      → ((i : ℕ) → i < length (filter test xs) → StoodAt test xs (filter test xs) i d) → StoodAt test (x ∷ xs) (if b then x ∷ filter test xs else filter test xs) k d
  step true is zero less rest = record { place = 0; behind = omega arith; inside = omega arith; same = refl; passes = is }
  step true is (suc k) less rest =
      let was = rest k (omega (arith, less)) in
      let behind = was.behind in
      let inside = was.inside in
      record { place = suc was.place; behind = omega (arith, behind); inside = omega (arith, inside); same = was.same; passes = was.passes }
  step false is k less rest =
      let was = rest k less in
      let behind = was.behind in
      let inside = was.inside in
      record { place = suc was.place; behind = omega (arith, behind); inside = omega (arith, inside); same = was.same; passes = was.passes }

-- and one that passes the test is left
pub left_has : {X : Type 0} (test : X → Bool) (xs : List X) (x : X) → test x ≡ true → Contains xs x → Contains (filter test xs) x
left_has test [] x is has = absurd (has_none x has)
left_has {X} test (y ∷ xs) x is has =
    elim (has_cases y x xs has) [
      | inl same ↦ first (test y) (ap test same ∙ is) same
      | inr more ↦ later (test y) (left_has test xs x is more)
    ] where
      first : (b : Bool) → b ≡ true → y ≡ x → Contains (if b then y ∷ filter test xs else filter test xs) x
      first true is same = (0, omega arith, same)
      first false is same = absurd (true≢false (sym is))

      later : (b : Bool) → Contains (filter test xs) x → Contains (if b then y ∷ filter test xs else filter test xs) x
      later true more = Contains-append_right (y ∷ []) (filter test xs) x more
      later false more = more

-- what is left was there
pub left_from : {X : Type 0} (test : X → Bool) (xs : List X) → All (Contains xs) (filter test xs)
left_from {X} test xs k d less =
    let was = stood_at test xs k d less in
    subst (Contains xs) (sym was.same) (Contains-get_or xs was.place d was.inside)

-- From a place on, those that have a bound which isn't listed are taken out.
pub record IsForgotten (log : LogState) (bounds : ListingState) (old new : List Held) (place : ℕ) : Type 0 where
  pub only : All (Contains old) new
  pub stays : (h : Held) → Contains old h → HasListedBounds log bounds h.id → Contains new h
  pub listed : (k : ℕ) (d : Held) → place ≤ k → k < length new → HasListedBounds log bounds (get_or new k d).id

-- at first none is
pub none_forgotten : (log : LogState) (bounds : ListingState) (old : List Held) → IsForgotten log bounds old old (length old)
none_forgotten log bounds old = record { only = All-contains_itself old; stays = λ h has is. has; listed = λ k d past less. absurd (omega (arith, past, less)) }

-- what stands at the place, if anything does, is listed too
pub one_listed : (log : LogState) (bounds : ListingState) (old new : List Held) (place : ℕ) → ((d : Held) → place < length new → HasListedBounds log bounds (get_or new place d).id)
    → IsForgotten log bounds old new (suc place) → IsForgotten log bounds old new place
one_listed log bounds old new place at f =
    record {
      only = f.only;
      stays = f.stays;
      listed = λ k d past less.
          elim (lower_or_not place k) [
            | inl above ↦ f.listed k d (omega (arith, above)) less
            | inr most ↦
                let same : place ≡ k = omega (arith, past, most) in
                subst (λ (i : ℕ). HasListedBounds log bounds (get_or new i d).id) same (at d (subst (λ (i : ℕ). i < length new) (sym same) less))
          ];
    }

-- one more is taken out
pub one_forgotten : (log : LogState) (bounds : ListingState) (old new : List Held) (place id : ℕ) → ((d : Held) → place < length new → (get_or new place d).id ≡ id)
    → (HasListedBounds log bounds id → ⊥) → IsForgotten log bounds old new (suc place) → IsForgotten log bounds old (held_but id new) place
one_forgotten log bounds old new place id at not_listed f =
    let test : Held → Bool = λ h. not (h.id == id) in
    record {
      only = λ k d less. let was = stood_at test new k d less in subst (Contains old) (sym was.same) (f.only was.place d was.inside);
      stays = λ h has is. left_has test new h (other h.id (h.id == id) refl (λ same. not_listed (subst (HasListedBounds log bounds) same is))) (f.stays h has is);
      listed = λ k d past less.
          let was = stood_at test new k d less in
          let behind = was.behind in
          subst (λ (x : Held). HasListedBounds log bounds x.id) (sym was.same)
          (elim (lower_or_not place was.place) [
            | inl above ↦ f.listed was.place d (omega (arith, above)) was.inside
            | inr most ↦
                let same : place ≡ was.place = omega (arith, past, behind, most) in
                let own : (get_or new was.place d).id ≡ id = subst (λ (i : ℕ). (get_or new i d).id ≡ id) same (at d (subst (λ (i : ℕ). i < length new) (sym same) was.inside)) in
                absurd (gone (get_or new was.place d).id own was.passes)
          ]);
    } where
      other : (i : ℕ) (b : Bool) → (i == id) ≡ b → (i ≡ id → ⊥) → not b ≡ true
      other i true is apart = absurd (apart (eqb-true i id is))
      other i false is apart = refl

      gone : (i : ℕ) → i ≡ id → not (i == id) ≡ true → ⊥
      gone i same passes = true≢false (sym passes ∙ ap not (eq-eqb i id same))

-- where all were looked at
pub all_forgotten : (log : LogState) (bounds before : ListingState) (old new : List Held) → IsForgotten log bounds old new 0 → Forgets log before bounds old new
all_forgotten log bounds before old new f =
    record { only = f.only; stays = f.stays; listed = λ k d less. λ was. f.listed k d (omega arith) less }

-- where each bound is listed still, none need go
pub none_unlisted : (log : LogState) (before after : ListingState) (hs : List Held) → ((i : ℕ) → IsSome (listed_at before i) → IsSome (listed_at after i)) → Forgets log before after hs hs
none_unlisted log before after hs keeps =
    record { only = All-contains_itself hs; stays = λ h has is. has; listed = λ k d less were j e below b at. keeps _ (were j e below b at) }

-- of those that are left each is one that was
pub left_all : (P : Held → Type 0) (old new : List Held) → All (Contains old) new → All P old → All P new
left_all P old new only all k d less = All-contains P old (get_or new k d) all (only k d less)
