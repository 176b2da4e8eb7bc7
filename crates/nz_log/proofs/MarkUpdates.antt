-- Marks that are set.
use Rattle.std.proofs.Common.{◌≡◌, ℕ, zero, suc, ◌<◌, ◌+◌, Bool, true, List, [], ◌∷◌, length, get_or, ◌⊎◌, inl, inr, refl, sym, ap, subst, ◌∙◌, true≢false, arith, below_more}
use Rattle.std.specs.Prelude.{slice_set}
use Rattle.nz_log.specs.declared.origins.Link.{Link}
use Rattle.nz_log.specs.Spelling.{is_marked, IsMoreMarked, PassMarked}

pub set_keeps : (marks : List Bool) (i : ℕ) → IsMoreMarked marks (slice_set marks i true)
set_keeps [] i j e = e
set_keeps (m ∷ ms) zero zero e = refl
set_keeps (m ∷ ms) zero (suc j) e = e
set_keeps (m ∷ ms) (suc i) zero e = e
set_keeps (m ∷ ms) (suc i) (suc j) e = set_keeps ms i j e

pub set_only : (marks : List Bool) (i j : ℕ) → is_marked (slice_set marks i true) j ≡ true → (j ≡ i) ⊎ (is_marked marks j ≡ true)
set_only [] i j e = inr e
set_only (m ∷ ms) zero zero e = inl refl
set_only (m ∷ ms) zero (suc j) e = inr e
set_only (m ∷ ms) (suc i) zero e = inr e
set_only (m ∷ ms) (suc i) (suc j) e = elim (set_only ms i j e) [ inl same ↦ inl (ap suc same) | inr k ↦ inr k ]

pub set_here : (marks : List Bool) (i : ℕ) → i < length marks → is_marked (slice_set marks i true) i ≡ true
set_here [] i h = absurd (omega arith)
set_here (m ∷ ms) zero h = refl
set_here (m ∷ ms) (suc i) h = set_here ms i (omega arith)

-- one more that passes a test
pub set_passes : (test : ℕ → Bool) (marks : List Bool) (i : ℕ) → test i ≡ true → PassMarked test marks → PassMarked test (slice_set marks i true)
set_passes test marks i t h j e = elim (set_only marks i j e) [ inl same ↦ ap test same ∙ t | inr k ↦ h j k ]

pub same_get : {X : Type 0} (xs : List X) (i : ℕ) (c d : X) → i < length xs → get_or xs i c ≡ get_or xs i d
same_get [] i c d h = absurd (omega arith)
same_get (x ∷ xs) zero c d h = refl
same_get (x ∷ xs) (suc i) c d h = same_get xs i c d (omega arith)

-- the clause of one more link
pub links_more : (ks : List Link) (marks : List Bool) (i : ℕ) (c : Link) → i < length ks → (get_or ks i c).clause < length marks
    → ((k : ℕ) (d : Link) → k < i → is_marked marks (get_or ks k d).clause ≡ true)
    → (k : ℕ) (d : Link) → k < i + 1 → is_marked (slice_set marks (get_or ks i c).clause true) (get_or ks k d).clause ≡ true
links_more ks marks i c within there behind k d below =
    below_more (λ n. (e : Link) → is_marked (slice_set marks (get_or ks i c).clause true) (get_or ks n e).clause ≡ true) i
    (λ n less e. set_keeps marks (get_or ks i c).clause (get_or ks n e).clause (behind n e less))
    (λ e. subst (λ (m : Link). is_marked (slice_set marks (get_or ks i c).clause true) m.clause ≡ true) (same_get ks i c e within)
    (set_here marks (get_or ks i c).clause there))
    k below d

-- only what is in a list is marked
pub marked_within : (marks : List Bool) (i : ℕ) → is_marked marks i ≡ true → i < length marks
marked_within [] i e = absurd (true≢false (sym e))
marked_within (m ∷ ms) zero e = omega arith
marked_within (m ∷ ms) (suc i) e = let h : i < length ms = marked_within ms i e in omega arith
