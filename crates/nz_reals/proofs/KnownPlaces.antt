-- What is known by entries and places, where an entry joins.
use Rattle.std.proofs.Common.{◌≡◌, ◌==◌, ◌<◌, ◌≤◌, ℕ, zero, suc, List, [], ◌∷◌, ◌++◌, Option, Some, None, Result, Ok, Err, ◌⊎◌, inl, inr, Bool, true, false, length, refl, sym, ap, ◌∙◌, subst, arith, if◌then◌else◌}
use Rattle.std.specs.Prelude.{OnOk, OnErr, slice_get, slice_index_or}
use Rattle.std.proofs.lemmas.Option.{get_or_from_slice_get, slice_get_past}
use Rattle.nz_lists.proofs.Numbers.{equal-number, same-number}
use Rattle.nz_reals.specs.declared.atoms.BoundedAtom.{BoundedAtom}
use Rattle.nz_reals.specs.declared.forms.Bounded.{Bounded}
use Rattle.nz_reals.specs.Known.{Known, known_of}
use Rattle.nz_reals.specs.State.{KnownAtom, known_among, known_list}
use Rattle.nz_reals.specs.Stored.{AreInPlace, known_by, known_from, known_in}
use Rattle.nz_reals.proofs.Tolds.{slice_get_last}

none_there : {X : Type 0} (xs : List X) (i : ℕ) (d : X) → slice_get xs i ≡ None → slice_index_or xs i d ≡ d
none_there [] i d e = refl
none_there (x ∷ xs) zero d e = absurd cc
none_there (x ∷ xs) (suc i) d e = none_there xs i d e

-- a place behind the entries serves where an atom has none
known_or : (es : List BoundedAtom) (ps : List ℕ) (i d : ℕ) → length es ≤ d → known_in es ps i ≡ known_by i (slice_get es (slice_index_or ps i d))
known_or es ps i d past = by_place (slice_get ps i) refl
  where
    by_place : (o : Option ℕ) → slice_get ps i ≡ o → known_from es i o ≡ known_by i (slice_get es (slice_index_or ps i d))
    by_place (Some p) e = ap (λ (q : ℕ). known_by i (slice_get es q)) (sym (get_or_from_slice_get ps i p d e))
    by_place None e = ap (known_by i) (sym (slice_get_past es d past)) ∙ ap (λ (q : ℕ). known_by i (slice_get es q)) (sym (none_there ps i d e))

module _ (es : List BoundedAtom) (old new : List ℕ) where
  -- where the places are the same, if one behind the entries is taken for those that aren't there
  pub same_known : (i : ℕ) → slice_index_or new i (length es) ≡ slice_index_or old i (length es) → known_in es new i ≡ known_in es old i
  same_known i same =
      let past : length es ≤ length es = omega arith in
      known_or es new i (length es) past ∙ ap (λ (q : ℕ). known_by i (slice_get es q)) same ∙ sym (known_or es old i (length es) past)

  -- an entry of another atom tells nothing of this one
  module _ (e : BoundedAtom) (i : ℕ) (other : (e.atom == i) ≡ false) where
    read : (p : ℕ) → known_by i (slice_get (es ++ e ∷ []) p) ≡ known_by i (slice_get es p)
    read p = go es p
      where
        go : (xs : List BoundedAtom) (p : ℕ) → known_by i (slice_get (xs ++ e ∷ []) p) ≡ known_by i (slice_get xs p)
        go [] zero = ap (λ (t : Bool). if t then Some (known_of e.bounded) else None) other
        go [] (suc p) = refl
        go (x ∷ xs) zero = refl
        go (x ∷ xs) (suc p) = go xs p

    from : (o : Option ℕ) → known_from (es ++ e ∷ []) i o ≡ known_from es i o
    from None = refl
    from (Some p) = read p

    pub other_known : slice_index_or new i (length es) ≡ slice_index_or old i (length es) → known_in (es ++ e ∷ []) new i ≡ known_in es old i
    other_known same = from (slice_get new i) ∙ same_known i same

-- its own entry does
pub own_known : (es : List BoundedAtom) (ps : List ℕ) (e : BoundedAtom) → slice_get ps e.atom ≡ Some (length es) → known_in (es ++ e ∷ []) ps e.atom ≡ Some (known_of e.bounded)
own_known es ps e there =
    ap (known_from (es ++ e ∷ []) e.atom) there ∙ ap (known_by e.atom) (slice_get_last es e) ∙ ap (λ (t : Bool). if t then Some (known_of e.bounded) else None) (equal-number e.atom e.atom refl)

pub all_known : (es : List BoundedAtom) (old new : List ℕ) (e : BoundedAtom) → slice_get new e.atom ≡ Some (length es)
    → ((i : ℕ) → slice_index_or new i (length es) ≡ (if i == e.atom then length es else slice_index_or old i (length es))) → (i : ℕ)
    → known_in (es ++ e ∷ []) new i ≡ (if i == e.atom then Some (known_of e.bounded) else known_in es old i)
all_known es old new e there put i = by_test (i == e.atom) refl
  where
    turned : (i == e.atom) ≡ false → (e.atom == i) ≡ false
    turned h = by_turned (e.atom == i) refl
      where
        by_turned : (t : Bool) → (e.atom == i) ≡ t → t ≡ false
        by_turned false k = refl
        by_turned true k = sym (equal-number i e.atom (sym (same-number e.atom i k))) ∙ h

    by_test : (t : Bool) → (i == e.atom) ≡ t → known_in (es ++ e ∷ []) new i ≡ (if t then Some (known_of e.bounded) else known_in es old i)
    by_test true h = let same = same-number i e.atom h in subst (λ (j : ℕ). known_in (es ++ e ∷ []) new j ≡ Some (known_of e.bounded)) (sym same) (own_known es new e there)
    by_test false h = other_known es old new e i (turned h) (put i ∙ ap (λ (t : Bool). if t then length es else slice_index_or old i (length es)) h)

-- the last entry comes first
pub among_more : (ks : List KnownAtom) (k : KnownAtom) (i : ℕ) → known_among (ks ++ k ∷ []) i ≡ (if k.atom == i then Some k.known else known_among ks i)
among_more [] k i = refl
among_more (x ∷ ks) k i = ap (λ o. elim o [ None ↦ if x.atom == i then Some x.known else None | Some y ↦ Some y ]) (among_more ks k i) ∙ by_test (k.atom == i)
  where
    by_test : (t : Bool) → (elim (if t then Some k.known else known_among ks i) [ None ↦ if x.atom == i then Some x.known else None | Some y ↦ Some y ]) ≡ (if t then Some k.known else known_among (x ∷ ks) i)
    by_test true = refl
    by_test false = refl

-- the test is the same both ways
both_ways : (n m : ℕ) → (n == m) ≡ (m == n)
both_ways n m = by_test (n == m) refl (m == n) refl
  where
    by_test : (t : Bool) → (n == m) ≡ t → (u : Bool) → (m == n) ≡ u → t ≡ u
    by_test true e true f = refl
    by_test false e false f = refl
    by_test true e false f = sym (equal-number m n (sym (same-number n m e))) ∙ f
    by_test false e true f = sym e ∙ equal-number n m (sym (same-number m n f))

pub among_last : (ks : List KnownAtom) (k : KnownAtom) (i : ℕ) → known_among (ks ++ k ∷ []) i ≡ (if i == k.atom then Some k.known else known_among ks i)
among_last ks k i = among_more ks k i ∙ ap (λ (t : Bool). if t then Some k.known else known_among ks i) (both_ways k.atom i)

list_more : (es : List BoundedAtom) (e : BoundedAtom) → known_list (es ++ e ∷ []) ≡ known_list es ++ record { atom = e.atom; known = known_of e.bounded } ∷ []
list_more [] e = refl
list_more (x ∷ es) e = ap (λ (ks : List KnownAtom). record { atom = x.atom; known = known_of x.bounded } ∷ ks) (list_more es e)

-- what is known where an entry has joined
pub list_last : (es : List BoundedAtom) (e : BoundedAtom) (i : ℕ) → known_among (known_list (es ++ e ∷ [])) i ≡ (if i == e.atom then Some (known_of e.bounded) else known_among (known_list es) i)
list_last es e i = ap (λ (ks : List KnownAtom). known_among ks i) (list_more es e) ∙ among_last (known_list es) (record { atom = e.atom; known = known_of e.bounded }) i

pub put_known : {E : Type 0} (es new : List BoundedAtom) (e : BoundedAtom) (ks : List KnownAtom) → known_list es ≡ ks → (r : Result (Unit {0}) E) → OnOk r (new ≡ es ++ e ∷ [])
    → OnOk r ((i : ℕ) → known_among (known_list new) i ≡ (if i == e.atom then Some (known_of e.bounded) else known_among ks i))
put_known es new e ks same (Ok x) put = λ i.
    ap (λ (xs : List BoundedAtom). known_among (known_list xs) i) put ∙ list_last es e i ∙ ap (λ (xs : List KnownAtom). if i == e.atom then Some (known_of e.bounded) else known_among xs i) same
put_known es new e ks same (Err x) put = put

pub in_place_more : (es : List BoundedAtom) (old new : List ℕ) (e : BoundedAtom) → slice_get new e.atom ≡ Some (length es)
    → ((i : ℕ) → slice_index_or new i (length es) ≡ (if i == e.atom then length es else slice_index_or old i (length es))) → AreInPlace es old → AreInPlace (es ++ e ∷ []) new
in_place_more es old new e there put are i =
    all_known es old new e there put i ∙ ap (λ o. if i == e.atom then Some (known_of e.bounded) else o) (are i) ∙ sym (list_last es e i)

-- no entry is at any place
pub none_in_place : (ps : List ℕ) → AreInPlace [] ps
none_in_place ps i = by_place (slice_get ps i)
  where
    by_place : (o : Option ℕ) → known_from [] i o ≡ None
    by_place None = refl
    by_place (Some p) = refl

pub known_cases : (id : ℕ) (b : Bounded) (old new : List KnownAtom) {E : Type 0} (n : ℕ) → b.var < n → (r : Result (Unit {0}) E)
    → OnOk r ((i : ℕ) → known_among new i ≡ (if i == id then Some (known_of b) else known_among old i)) → OnErr r (new ≡ old) → (i : ℕ) (k : Known) → known_among new i ≡ Some k
    → (known_among old i ≡ Some k) ⊎ (k.form < n)
known_cases id b old new n less (Ok x) put same i k knows = by_test (i == id) (sym (put i) ∙ knows)
  where
    by_test : (t : Bool) → (if t then Some (known_of b) else known_among old i) ≡ Some k → (known_among old i ≡ Some k) ⊎ (k.form < n)
    by_test true e = let equal : known_of b ≡ k = cc in inr (subst (λ (j : Known). j.form < n) equal less)
    by_test false e = inl e
known_cases id b old new n less (Err e) put same i k knows = inl (ap (λ (ks : List KnownAtom). known_among ks i) (sym same) ∙ knows)
