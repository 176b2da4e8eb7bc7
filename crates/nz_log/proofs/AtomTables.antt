-- Atoms by number, as one is looked up or put last.
use Rattle.std.proofs.Common.{◌≡◌, ℕ, zero, suc, ◌^◌, ◌<◌, ◌≤◌, arith, ◌||◌, Bool, true, false, List, [], ◌∷◌, ◌++◌, length, length-append, get_or, Option, Some, None, refl, sym, ap, subst, ◌∙◌, true≢false, eqb-true, eq-eqb, if◌then◌else◌}
use Rattle.std.specs.Prelude.{slice_get, is_some, position, IfSome}
use Rattle.std.specs.List.{AllByRecursion, IsDistinct, list_any}
use Rattle.std.proofs.lemmas.List.Quantifiers.{position-Some}
use Rattle.std.proofs.lemmas.Option.{slice_get-get_or, slice_get_within}
use Rattle.indexmap.specs.IndexSet.{insert_key}
use Rattle.nz_lists.proofs.Elements.{AllByRecursion-append}
use Rattle.nz_lists.proofs.Places.{slice_get_kept}
use Rattle.nz_log.specs.declared.atoms.Atom.{Atom}
use Rattle.nz_log.specs.declared.atoms.Atom.TheVariants.{Term, AtMost}
use Rattle.nz_log.specs.Atoms.{AreAtoms, HasTerm, IsFoundTerm, IsNormal, Stay, is_of_term, term_place}
use Rattle.nz_log.specs.Keys.{are_same_atom}
use Rattle.nz_log.specs.Same.{atom_decides}

same_atom : (a b : Atom) → are_same_atom a b ≡ true → a ≡ b
same_atom a b e = (atom_decides a b).0 e

atom_same : (a b : Atom) → a ≡ b → are_same_atom a b ≡ true
atom_same a b e = (atom_decides a b).1 e

-- ---- No atom stands twice

absent : (a : Atom) (list : List Atom) → AllByRecursion (λ b. are_same_atom a b ≡ false) list → (i : ℕ) → slice_get list i ≡ Some a → ⊥
absent a [] h i at = cc
absent a (b ∷ bs) h zero at = let same : a ≡ b = cc in true≢false (sym (atom_same a b same) ∙ h.0)
absent a (b ∷ bs) h (suc i) at = absent a bs h.1 i at

once : (list : List Atom) → IsDistinct are_same_atom list → (i j : ℕ) (a : Atom) → slice_get list i ≡ Some a → slice_get list j ≡ Some a → i ≡ j
unfolding IsDistinct
once [] h i j a at beside = cc
once (x ∷ xs) h zero zero a at beside = refl
once (x ∷ xs) h zero (suc j) a at beside = absurd (absent x xs h.0 j (beside ∙ sym at))
once (x ∷ xs) h (suc i) zero a at beside = absurd (absent x xs h.0 i (at ∙ sym beside))
once (x ∷ xs) h (suc i) (suc j) a at beside = ap suc (once xs h.1 i j a at beside)

-- ---- One is put

with_last : (b : Bool) (old : List Atom) (a : Atom) → Stay old (if b then old else old ++ a ∷ [])
with_last true old a i x at = at
with_last false old a i x at = slice_get_kept old (a ∷ []) i x at

normal_last : (b : Bool) (old : List Atom) (a : Atom) → IsNormal a → AllByRecursion IsNormal old → AllByRecursion IsNormal (if b then old else old ++ a ∷ [])
normal_last true old a n h = h
normal_last false old a n h = AllByRecursion-append IsNormal old (a ∷ []) h (n, tt)

few_last : (b : Bool) (old : List Atom) (a : Atom) → length old < 2 ^ 31 → length (if b then old else old ++ a ∷ []) ≤ 2 ^ 31
few_last true old a few = omega (arith, few)
few_last false old a few = omega (arith, few, length-append old (a ∷ []))

pub put_stays : (old new : List Atom) (a : Atom) → new ≡ insert_key are_same_atom old a → Stay old new
put_stays old new a e = subst (Stay old) (sym e) (with_last (list_any (are_same_atom a) old) old a)

pub put_atoms : (old new : List Atom) (a : Atom) → new ≡ insert_key are_same_atom old a → IsDistinct are_same_atom new → IsNormal a → length old < 2 ^ 31 → AreAtoms old
    → AreAtoms new
put_atoms old new a e distinct n few h =
    record {
      once = once new distinct;
      normal = subst (AllByRecursion IsNormal) (sym e) (normal_last (list_any (are_same_atom a) old) old a n h.normal);
      few = subst (λ (list : List Atom). length list ≤ 2 ^ 31) (sym e) (few_last (list_any (are_same_atom a) old) old a few);
    }

pub put_there : (new : List Atom) (a : Atom) (id : ℕ) → (k : Atom) × (slice_get new id ≡ Some k) × (are_same_atom a k ≡ true) → slice_get new id ≡ Some a
put_there new a id found = found.1 ∙ ap Some (sym (same_atom a found.0 found.2))

-- the number of an atom is small
pub small_number : (atoms : List Atom) (id : ℕ) (a : Atom) → AreAtoms atoms → slice_get atoms id ≡ Some a → id < 2 ^ 31
small_number atoms id a are at = let within : id < length atoms = slice_get_within atoms id a at in omega (arith, within, are.few)

pub small_found : (atoms : List Atom) (t : ℕ) (o : Option ℕ) → AreAtoms atoms → IsFoundTerm atoms t o → IfSome o (λ (i : ℕ). i < 2 ^ 31)
small_found atoms t None are found = tt
small_found atoms t (Some i) are found = small_number atoms i (Term t) are found.1

-- ---- Terms

here_or_later : (b : Bool) (x : Atom) (xs : List Atom) (t : ℕ) → (b ≡ true → x ≡ Term t) → HasTerm xs t
    → slice_get (x ∷ xs) (if b then 0 else suc (term_place xs t)) ≡ Some (Term t)
here_or_later true x xs t f h = ap Some (f refl)
here_or_later false x xs t f h = h

of_term : (t : ℕ) (a : Atom) → is_of_term t a ≡ true → a ≡ Term t
of_term t (Term u) e = ap Term (eqb-true u t e)
of_term t (AtMost b) e = absurd (true≢false (sym e))

term_of : (t : ℕ) → is_of_term t (Term t) ≡ true
term_of t = eq-eqb t t refl

pub place_there : (atoms : List Atom) (i t : ℕ) → slice_get atoms i ≡ Some (Term t) → HasTerm atoms t
place_there [] i t at = cc
place_there (x ∷ xs) zero t at =
    let same : x ≡ Term t = cc in
    let yes : is_of_term t x ≡ true = ap (is_of_term t) same ∙ term_of t in
    subst (λ (b : Bool). slice_get (x ∷ xs) (if b then 0 else suc (term_place xs t)) ≡ Some (Term t)) (sym yes) (ap Some same)
place_there (x ∷ xs) (suc i) t at = here_or_later (is_of_term t x) x xs t (of_term t x) (place_there xs i t at)

pub place_is : (atoms : List Atom) (i t : ℕ) → AreAtoms atoms → slice_get atoms i ≡ Some (Term t) → i ≡ term_place atoms t
place_is atoms i t h at = h.once i (term_place atoms t) (Term t) at (place_there atoms i t at)

any_there : (atoms : List Atom) (a : Atom) (i : ℕ) → slice_get atoms i ≡ Some a → list_any (are_same_atom a) atoms ≡ true
any_there [] a i at = cc
any_there (x ∷ xs) a zero at =
    let same : a ≡ x = cc in ap (λ (b : Bool). b || list_any (are_same_atom a) xs) (atom_same a x same)
any_there (x ∷ xs) a (suc i) at = ap (λ (b : Bool). are_same_atom a x || b) (any_there xs a i at) ∙ or_true (are_same_atom a x)
  where
    or_true : (b : Bool) → (b || true) ≡ true
    or_true true = refl
    or_true false = refl

pub found_term : (atoms : List Atom) (t : ℕ) (o : Option ℕ) → AreAtoms atoms → o ≡ position (are_same_atom (Term t)) atoms
    → is_some o ≡ list_any (are_same_atom (Term t)) atoms → IsFoundTerm atoms t o
found_term atoms t (Some i) h at any =
    let place = position-Some (are_same_atom (Term t)) atoms i (Term t) (sym at) in
    let there : slice_get atoms i ≡ Some (Term t) = put_there atoms (Term t) i (get_or atoms i (Term t), slice_get-get_or atoms i (Term t) place.0, place.1) in
    (place_is atoms i t h there, there)
found_term atoms t None h at any = λ i there. true≢false (sym (any_there atoms (Term t) i there) ∙ sym any)

-- the place of a term stays where atoms join
pub place_stays : (old new : List Atom) (t : ℕ) → Stay old new → AreAtoms new → HasTerm old t → (HasTerm new t) × (term_place new t ≡ term_place old t)
place_stays old new t stay h there =
    let at = stay (term_place old t) (Term t) there in
    (place_there new (term_place old t) t at, sym (place_is new (term_place old t) t h at))
