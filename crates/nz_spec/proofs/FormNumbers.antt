-- The number of a term in a table is the one by which it is found there, and places in a list tell apart what it has.
use Rattle.std.proofs.Common.{◌≡◌, inl, inr, ℕ, zero, suc, ◌+◌, ◌<◌, Bool, true, false, List, [], ◌∷◌, length, fold, refl, sym, subst, ◌∙◌, true≢false, arith, length-append}
use Rattle.std.specs.Prelude.{Contains, if◌then◌else◌}
use Rattle.nz_lists.proofs.Members.{has_cases, has_none}
use Rattle.nz_spec.specs.terms.Term.{Term, apply}
use Rattle.nz_spec.specs.terms.Same.{are_same_term}
use Rattle.nz_spec.specs.terms.Table.{Node, terms_at, listed_term, with_term, term_in}
use Rattle.nz_spec.specs.terms.FormOf.{place_of, number_in, TermHasItsNumber, PlacesTellApart}
use Rattle.nz_spec.proofs.Same.{same_term, one_term}
use Rattle.nz_spec.proofs.Tables.{one_number}

-- a term of the list is found in it
record IsPlace (us : List Term) (t : Term) (i : ℕ) : Type 0 where
  within : i < length us
  stands : listed_term us i ≡ t

place_by : (u : Term) (us : List Term) (t : Term) (i : ℕ) (b : Bool) → are_same_term u t ≡ b → listed_term (u ∷ us) i ≡ t → i < suc (length us)
    → ((j : ℕ) → j < length us → listed_term us j ≡ t → IsPlace us t (place_of us t)) → IsPlace (u ∷ us) t (if b then 0 else suc (place_of us t))
place_by u us t i true e at below rest = record { within = omega arith; stands = same_term u t e }
place_by u us t zero false e at below rest = absurd (true≢false (sym (subst (λ (v : Term). are_same_term u v ≡ true) at (one_term u)) ∙ e))
place_by u us t (suc j) false e at below rest =
    let found = rest j (omega (arith, below)) at in
    record { within = omega (arith, found.within); stands = found.stands }

is_place : (us : List Term) (t : Term) (i : ℕ) → i < length us → listed_term us i ≡ t → IsPlace us t (place_of us t)
is_place [] t i below at = absurd (omega (arith, below))
is_place (u ∷ us) t i below at = place_by u us t i (are_same_term u t) refl at below (is_place us t)

-- each node is one term more
length-fold : (ts : List Term) (ns : List Node) → length (fold with_term ts ns) ≡ length ts + length ns
length-fold ts [] = omega arith
length-fold ts (n ∷ ns) =
    let one = apply n.head (terms_at (listed_term ts) n.kids) in
    omega (arith, length-fold (with_term ts n) ns, length-append ts (one ∷ []))

pub term_has_its_number : TermHasItsNumber
unfolding number_in term_in
term_has_its_number ns table i below =
    let ts = fold with_term [] ns in
    let t = listed_term ts i in
    let place = is_place ts t i (omega (arith, length-fold [] ns, below)) refl in
    one_number ns table (place_of ts t) i (omega (arith, length-fold [] ns, place.within)) below place.stands

-- ---- Places in a list

-- a term that isn't the first one stands behind it
behind_first : (v : Term) (vs : List Term) (t : Term) → are_same_term v t ≡ false → Contains (v ∷ vs) t → Contains vs t
behind_first v vs t other has =
    elim (has_cases v t vs has) [
      | inl is ↦ absurd (true≢false (sym (subst (λ (w : Term). are_same_term v w ≡ true) is (one_term v)) ∙ other))
      | inr later ↦ later
    ]

pub places_tell_apart : PlacesTellApart
places_tell_apart [] t u has_t has_u e = absurd (has_none t has_t)
places_tell_apart (v ∷ vs) t u has_t has_u e = by_tests (are_same_term v t) (are_same_term v u) refl refl (places_tell_apart vs t u) e
  where
    by_tests : (a b : Bool) → are_same_term v t ≡ a → are_same_term v u ≡ b → (Contains vs t → Contains vs u → place_of vs t ≡ place_of vs u → t ≡ u)
        → (if a then 0 else suc (place_of vs t)) ≡ (if b then 0 else suc (place_of vs u)) → t ≡ u
    by_tests true true f g rest same = sym (same_term v t f) ∙ same_term v u g
    by_tests true false f g rest same = absurd (omega (arith, same))
    by_tests false true f g rest same = absurd (omega (arith, same))
    by_tests false false f g rest same = rest (behind_first v vs t f has_t) (behind_first v vs u g has_u) (omega (arith, same))
