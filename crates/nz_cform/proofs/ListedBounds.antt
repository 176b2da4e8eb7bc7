-- The bounds of clauses are listed, one literal and one clause after another.
use Rattle.std.proofs.Common.{◌≡◌, ℕ, ◌+◌, ◌<◌, inl, inr, List, [], ◌∷◌, length, take, get_or, Some, None, refl, sym, ap, subst, arith, All, Contains, IsSome, slice_get}
use Rattle.std.proofs.lemmas.List.Elements.{All-contains, All-more, All-weaker, Contains-get_or, Contains-push_cases}
use Rattle.nz_lists.proofs.Members.{has_first}
use Rattle.nz_lin.specs.declared.bound.Bound.{Bound}
use Rattle.nz_log.specs.declared.atoms.Atom.{Atom}
use Rattle.nz_log.specs.declared.atoms.Atom.TheVariants.{AtMost}
use Rattle.nz_log.specs.declared.lits.Lit.{Lit}
use Rattle.nz_log.specs.Logs.{LogState, literals_at}
use Rattle.nz_cform.specs.Listings.{ListingState, Grows, listed_at}
use Rattle.nz_cform.specs.Covering.{AreBoundsListed, AreBoundsOf, HasBound, IsRowAt}
use Rattle.nz_cform.proofs.Listed.{grows_more, none_or_some, still_listed}

-- ---- The literals of a clause

-- the atom of the literal is listed, if it is a bound
abbrev pub IsAtomListed : List Atom → ListingState → Lit → Type 0
IsAtomListed atoms bounds l = (b : Bound) → slice_get atoms l.atom ≡ Some (AtMost b) → IsSome (listed_at bounds l.atom)

-- How far the listing of a clause has come.
pub record IsListingClause (log : LogState) (clause : ℕ) (lits : List Lit) (level : ℕ) (first now : ListingState) : Type 0 where
  pub listed : All (IsAtomListed log.atoms now) lits
  pub grown : Grows first level now
  pub only : (atom : ℕ) → listed_at first atom ≡ None → IsSome (listed_at now atom) → HasBound log clause atom

module _ (log : LogState) (clause t level : ℕ) (row : IsRowAt log clause t) (lits : List Lit) (i : ℕ) (d : Lit) (first mid now : ListingState) (inside : i < length lits)
    (own : lits ≡ literals_at log clause) (before : IsListingClause log clause (take i lits) level first mid) (listed : IsAtomListed log.atoms now (get_or lits i d))
    (grown : Grows mid level now)
    (only : (k : ℕ) → listed_at mid k ≡ None → IsSome (listed_at now k) → (k ≡ (get_or lits i d).atom) × (b : Bound) × (slice_get log.atoms k ≡ Some (AtMost b))) where
  all_more : All (IsAtomListed log.atoms now) (take (i + 1) lits)
  all_more =
      All-more (IsAtomListed log.atoms now) lits i d inside
      (All-weaker (IsAtomListed log.atoms mid) (IsAtomListed log.atoms now) (λ m h b at. still_listed mid now level grown m.atom (h b at)) (take i lits) before.listed)
      listed

  only_more : (atom : ℕ) → listed_at first atom ≡ None → IsSome (listed_at now atom) → HasBound log clause atom
  only_more atom none some =
      elim (none_or_some (listed_at mid atom)) [
        | inl gone ↦
            let found = only atom gone some in
            record {
              term = t;
              row = row;
              literal = get_or lits i d;
              has = subst (λ (c : List Lit). Contains c (get_or lits i d)) own (Contains-get_or lits i d inside);
              on = sym found.0;
              bound = found.1;
              is_bound = found.2;
            }
        | inr was ↦ before.only atom none (subst (λ o. IsSome o) (sym was.1) refl)
      ]

  pub one_of_clause : IsListingClause log clause (take (i + 1) lits) level first now
  one_of_clause = record { listed = all_more; grown = grows_more first mid now level before.grown grown; only = only_more }

module _ (log : LogState) (clause level : ℕ) (lits : List Lit) (first now : ListingState) (own : lits ≡ literals_at log clause) (all : IsListingClause log clause lits level first now) where
  pub clause_listed : AreBoundsListed log (clause ∷ []) now
  clause_listed k d inside atom h =
      let at : HasBound log clause atom = subst (λ c. HasBound log c atom) (alone k d inside) h in
      let listed = All-contains (IsAtomListed log.atoms now) lits at.literal all.listed (subst (λ (c : List Lit). Contains c at.literal) (sym own) at.has) in
      subst (λ a. IsSome (listed_at now a)) at.on (listed at.bound (subst (λ a. slice_get log.atoms a ≡ Some (AtMost at.bound)) (sym at.on) at.is_bound))
    where
      alone : (k d : ℕ) → k < 1 → get_or (clause ∷ []) k d ≡ clause
      alone k d below = let zero_ : k ≡ 0 = omega arith in ap (λ j. get_or (clause ∷ []) j d) zero_

-- ---- Clauses

-- How far the listing of clauses has come.
pub record IsListingAll (log : LogState) (ids done : List ℕ) (level : ℕ) (first now : ListingState) : Type 0 where
  pub listed : AreBoundsListed log done now
  pub grown : Grows first level now
  pub only : AreBoundsOf log ids first now

module _ (log : LogState) (ids : List ℕ) (level i clause : ℕ) (first mid now : ListingState) (inside : i < length ids) (read : clause ≡ get_or ids i 0)
    (before : IsListingAll log ids (take i ids) level first mid) (grown : Grows mid level now) where
  abbrev IsDone : ℕ → Type 0
  IsDone k = (atom : ℕ) → HasBound log k atom → IsSome (listed_at now atom)

  module _ (only : AreBoundsOf log (clause ∷ []) mid now) where
    only_of_all : AreBoundsOf log ids first now
    only_of_all atom none some =
        elim (none_or_some (listed_at mid atom)) [
          | inl gone ↦
              let found = only atom gone some in
              let same : found.0 ≡ clause = elim (Contains-push_cases [] clause found.0 found.1) [
                | inl before_it ↦ absurd (let below : before_it.0 < 0 = before_it.1 in omega arith)
                | inr is ↦ sym is
              ] in
              (clause, subst (Contains ids) (sym read) (Contains-get_or ids i 0 inside), subst (λ c. HasBound log c atom) same found.2)
          | inr was ↦ before.only atom none (subst (λ o. IsSome o) (sym was.1) refl)
        ]

    pub one_of_all : AreBoundsListed log (clause ∷ []) now → IsListingAll log ids (take (i + 1) ids) level first now
    one_of_all listed =
        record {
          listed = All-more IsDone ids i 0 inside
              (All-weaker (λ k. (atom : ℕ) → HasBound log k atom → IsSome (listed_at mid atom)) IsDone
              (λ k h atom has. still_listed mid now level grown atom (h atom has)) (take i ids) before.listed)
              (subst IsDone read (All-contains IsDone (clause ∷ []) clause listed (has_first clause [])));
          grown = grows_more first mid now level before.grown grown;
          only = only_of_all;
        }
