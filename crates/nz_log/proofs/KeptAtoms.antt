-- The atom of a term keeps its number where each atom does.
use Rattle.std.proofs.Common.{◌≡◌, ℕ, zero, suc, ◌+◌, ◌<◌, ◌≤◌, ◌++◌, Bool, true, false, List, [], ◌∷◌, length, take, get_or, map, Some, inl, inr, refl, sym, ap, subst, ◌∙◌, arith, true≢false, eqb-true, eq-eqb, if◌then◌else◌}
use Rattle.std.specs.Prelude.{slice_get}
use Rattle.std.specs.List.{AllByRecursion}
use Rattle.std.proofs.lemmas.Bool.{cases_lt}
use Rattle.std.proofs.lemmas.List.{map_push, take_more}
use Rattle.nz_lists.proofs.Elements.{AllByRecursion-append}
use Rattle.nz_log.specs.declared.atoms.Atom.{Atom}
use Rattle.nz_log.specs.declared.atoms.Atom.TheVariants.{Term, AtMost}
use Rattle.nz_log.specs.Atoms.{AtomsOfTerms, HasTerm, Stay, is_of_term, term_place}

-- an atom of a term is that one
of_term : (t : ℕ) (a : Atom) → is_of_term t a ≡ true → a ≡ Term t
of_term t (Term u) is = ap Term (eqb-true u t is)
of_term t (AtMost b) is = absurd (true≢false (sym is))

-- its own atom is one of the term
own_atom : (t : ℕ) (a : Atom) → Some a ≡ Some (Term t) → is_of_term t a ≡ true
own_atom t a at = let same : a ≡ Term t = cc in ap (is_of_term t) same ∙ eq-eqb t t refl

-- it is the first
place_least : (xs : List Atom) (t i : ℕ) → slice_get xs i ≡ Some (Term t) → term_place xs t ≤ i
place_least [] t i at = cc
place_least (a ∷ xs) t zero at =
    let here : term_place (a ∷ xs) t ≡ 0 = ap (λ (b : Bool). if b then 0 else suc (term_place xs t)) (own_atom t a at) in
    omega (arith, here)
place_least (a ∷ xs) t (suc i) at =
    let more = place_least xs t i at in
    elim (is_of_term t a) as (λ b. (if b then 0 else suc (term_place xs t)) ≤ suc i) [ true ↦ omega arith | false ↦ omega (arith, more) ]

-- and is found
place_found : (xs : List Atom) (t i : ℕ) → slice_get xs i ≡ Some (Term t) → slice_get xs (term_place xs t) ≡ Some (Term t)
place_found [] t i at = cc
place_found (a ∷ xs) t zero at =
    ap (slice_get (a ∷ xs)) (ap (λ (b : Bool). if b then 0 else suc (term_place xs t)) (own_atom t a at)) ∙ at
place_found (a ∷ xs) t (suc i) at =
    let more = place_found xs t i at in
    elim (is_of_term t a) as (λ b. is_of_term t a ≡ b → slice_get (a ∷ xs) (if b then 0 else suc (term_place xs t)) ≡ Some (Term t)) [
      | true ↦ λ here. ap Some (of_term t a here)
      | false ↦ λ other. more
    ] refl

-- a number below one that has an atom has one
some_before : (xs : List Atom) (i j : ℕ) (a : Atom) → slice_get xs j ≡ Some a → i < j → (b : Atom) × (slice_get xs i ≡ Some b)
some_before [] i j a at less = cc
some_before (x ∷ xs) zero j a at less = (x, refl)
some_before (x ∷ xs) (suc i) zero a at less = absurd (omega arith)
some_before (x ∷ xs) (suc i) (suc j) a at less = some_before xs i j a at (omega arith)

-- ---- A table that grows

module _ (old new : List Atom) (stay : Stay old new) (t : ℕ) (has : HasTerm old t) where
  there : HasTerm new t
  there = place_found new t (term_place old t) (stay (term_place old t) (Term t) has)

  same : term_place new t ≡ term_place old t
  same =
      let p = term_place old t in
      let q = term_place new t in
      let least : q ≤ p = place_least new t p (stay p (Term t) has) in
      elim (cases_lt q p) [
        | inr high ↦ omega arith
        | inl less ↦
            let before = some_before old q p (Term t) has less in
            let both : Some before.0 ≡ Some (Term t) = sym (stay q before.0 before.1) ∙ there in
            let is : before.0 ≡ Term t = cc in
            let again : p ≤ q = place_least old t q (before.1 ∙ ap Some is) in
            absurd (omega arith)
      ]

-- the numbers of some terms' atoms, and of one more
places_stay : (old new : List Atom) → Stay old new → (ts : List ℕ) → AllByRecursion (HasTerm old) ts
    → (map (term_place new) ts ≡ map (term_place old) ts) × AllByRecursion (HasTerm new) ts
places_stay old new stay [] h = (refl, tt)
places_stay old new stay (t ∷ ts) h =
    let rest = places_stay old new stay ts h.1 in
    (λ i. same old new stay t h.0 i ∷ rest.0 i, (there old new stay t h.0, rest.1))

pub places_more : (old new : List Atom) → Stay old new → (ts : List ℕ) (i d : ℕ) → i < length ts → AllByRecursion (HasTerm old) (take i ts) → HasTerm new (get_or ts i d)
    → (ids next : List ℕ) → ids ≡ map (term_place old) (take i ts) → next ≡ ids ++ term_place new (get_or ts i d) ∷ []
    → (next ≡ map (term_place new) (take (i + 1) ts)) × AllByRecursion (HasTerm new) (take (i + 1) ts)
places_more old new stay ts i d within has own ids next so_far is =
    let t = get_or ts i d in
    let kept = places_stay old new stay (take i ts) has in
    let longer : take (i + 1) ts ≡ take i ts ++ t ∷ [] = take_more ts i d within in (
      is ∙ ap (λ (ns : List ℕ). ns ++ term_place new t ∷ []) (so_far ∙ sym kept.0) ∙ sym (map_push (term_place new) (take i ts) t) ∙ ap (map (term_place new)) (sym longer),
      subst (AllByRecursion (HasTerm new)) (sym longer) (AllByRecursion-append (HasTerm new) (take i ts) (t ∷ []) kept.1 (own, tt)),
    )

-- ---- The law

-- what stands under a term's number is its atom
only_atom : (xs : List Atom) (t : ℕ) (a : Atom) → slice_get xs (term_place xs t) ≡ Some a → a ≡ Term t
only_atom [] t a at = cc
only_atom (x ∷ xs) t a at =
    elim (is_of_term t x) as (λ b. is_of_term t x ≡ b → slice_get (x ∷ xs) (if b then 0 else suc (term_place xs t)) ≡ Some a → a ≡ Term t) [
      | true ↦ λ here first. let same : x ≡ a = cc in sym same ∙ of_term t x here
      | false ↦ λ other later. only_atom xs t a later
    ] refl at

pub atoms_of_terms : AtomsOfTerms
atoms_of_terms =
    record {
      keep = λ old new stay t has. (there old new stay t has, same old new stay t has);
      there = λ atoms i t at. place_found atoms t i at;
      only = only_atom;
      one = λ atoms h i t at. h.once i (term_place atoms t) (Term t) at (place_found atoms t i at);
    }
