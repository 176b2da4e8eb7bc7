-- Atoms by their numbers, and the lines that name them.
use Rattle.std.proofs.Common.{◌≡◌, ◌≢◌, ℕ, zero, suc, ◌<◌, ◌==◌, Bool, true, false, if◌then◌else◌, List, [], ◌∷◌, ◌++◌, length, get_or, Option, Some, None, inl, inr, refl, sym, ap, ◌∙◌, arith, ne_eqb, true≢false}
use Rattle.std.specs.Prelude.{Contains, is_some, slice_get, slice_index_or, option_map}
use Rattle.std.proofs.lemmas.Bool.{cases_eq, eq-eqb}
use Rattle.std.proofs.lemmas.Bool.Decides.{eqb_tells}
use Rattle.std.proofs.lemmas.Option.{same_Some, slice_get-get_or}
use Rattle.std.specs.List.{AllByRecursion}
use Rattle.nz_lists.proofs.Members.{has_found}
use Rattle.nz_spec.specs.search.Work.{WorkLine, UnitLine, NoteLine}
use Rattle.nz_log.specs.declared.atoms.Atom as log
use Rattle.nz_search.specs.declared.note.Note.{Note}
use Rattle.nz_search.specs.declared.note.Note.TheVariants.{Start, Atom, Bound, Form, Under, Told}
use Rattle.nz_sat.specs.Numbers.{IsNumbered, noted_atoms, number_of, number_or}
use Rattle.nz_sat.specs.Theories.{IsOfSearch}

-- ---- Numbers

or_step : (b here : Bool) (o : Option ℕ) (n : ℕ) → (if b then Some 0 else option_map suc (number_or o here n)) ≡ number_or (if b then Some 0 else option_map suc o) here (suc n)
or_step true here o n = refl
or_step false here (Some k) n = refl
or_step false true None n = refl
or_step false false None n = refl

pub number_of-push : (us : List ℕ) (u t : ℕ) → number_of (us ++ u ∷ []) t ≡ number_or (number_of us t) (u == t) (length us)
number_of-push [] u t = first (u == t) where
  first : (b : Bool) → (if b then Some 0 else None) ≡ number_or None b 0
  first true = refl
  first false = refl
number_of-push (v ∷ us) u t =
    ap (λ (o : Option ℕ). if v == t then Some 0 else option_map suc o) (number_of-push us u t) ∙ or_step (v == t) (u == t) (number_of us t) (length us)

-- a number has its atom
pub number_place : (us : List ℕ) (t n : ℕ) → number_of us t ≡ Some n → slice_get us n ≡ Some t
number_place [] t n at = cc
number_place (u ∷ us) t n at =
    elim (eqb_tells u t) [
      | inl p ↦
          let first : Some 0 ≡ Some n = ap (λ (b : Bool). if b then Some 0 else option_map suc (number_of us t)) (sym p.0) ∙ at in
          ap (slice_get (u ∷ us)) (sym (same_Some 0 n first)) ∙ ap Some p.1
      | inr p ↦
          let rest : option_map suc (number_of us t) ≡ Some n = ap (λ (b : Bool). if b then Some 0 else option_map suc (number_of us t)) (sym p.0) ∙ at in
          elim (number_of us t) as (λ o. number_of us t ≡ o → option_map suc o ≡ Some n → slice_get (u ∷ us) n ≡ Some t) [
            | None ↦ λ e r. cc
            | Some k ↦ λ e r. ap (slice_get (u ∷ us)) (sym (same_Some (suc k) n r)) ∙ number_place us t k e
          ] refl rest
    ]

-- an atom has its number
pub number_found : (us : List ℕ) (t k : ℕ) → slice_get us k ≡ Some t → (n : ℕ) × (number_of us t ≡ Some n)
number_found [] t k at = cc
number_found (u ∷ us) t zero at =
    let same : u ≡ t = same_Some u t at in (0, ap (λ (b : Bool). if b then Some 0 else option_map suc (number_of us t)) (eq-eqb u t same))
number_found (u ∷ us) t (suc k) at =
    let rest = number_found us t k at in
    step (u == t) rest where
      step : (b : Bool) → ((n : ℕ) × (number_of us t ≡ Some n)) → (n : ℕ) × ((if b then Some 0 else option_map suc (number_of us t)) ≡ Some n)
      step true r = (0, refl)
      step false r = (suc r.0, ap (option_map suc) r.1)

-- only what is in a list is there
read_within : (xs : List (Option ℕ)) (t n : ℕ) → slice_index_or xs t None ≡ Some n → t < length xs
read_within [] t n at = cc
read_within (x ∷ xs) zero n at = omega arith
read_within (x ∷ xs) (suc t) n at = let rest : t < length xs = read_within xs t n at in omega arith

pub atom_within : (us : List ℕ) (numbers : List (Option ℕ)) → IsNumbered us numbers → (k d : ℕ) → k < length us → get_or us k d < length numbers
atom_within us numbers table k d inside =
    let t = get_or us k d in
    let found = number_found us t k (slice_get-get_or us k d inside) in
    read_within numbers t found.0 (table t ∙ found.1)

pub numbered_push : (us : List ℕ) (u : ℕ) (old new : List (Option ℕ)) → IsNumbered us old
    → slice_index_or new u None ≡ number_or (slice_index_or old u None) true (length us)
    → ((t : ℕ) → t ≢ u → slice_index_or new t None ≡ slice_index_or old t None) → IsNumbered (us ++ u ∷ []) new
numbered_push us u old new table here others t =
    elim (cases_eq t u) [
      | inl same ↦
          let this : (u == t) ≡ true = eq-eqb u t (sym same) in
          let new' : slice_index_or new t None ≡ number_or (number_of us t) true (length us) =
          ap (λ (n : ℕ). slice_index_or new n None) same ∙ here ∙ ap (λ (n : ℕ). number_or (slice_index_or old n None) true (length us)) (sym same)
          ∙ ap (λ (o : Option ℕ). number_or o true (length us)) (table t) in
          new' ∙ sym (number_of-push us u t ∙ ap (λ (b : Bool). number_or (number_of us t) b (length us)) this)
      | inr other ↦
          let differs : (u == t) ≡ false = ne_eqb u t (λ same. other (sym same)) in
          others t other ∙ table t ∙ sym (number_of-push us u t ∙ ap (λ (b : Bool). number_or (number_of us t) b (length us)) differs ∙ no_more (number_of us t))
    ] where
      no_more : (o : Option ℕ) → number_or o false (length us) ≡ o
      no_more None = refl
      no_more (Some n) = refl

-- ---- Lines

-- lines that name no atom
pub none_named : (lines : List (WorkLine Note)) → AllByRecursion IsOfSearch lines → noted_atoms lines ≡ []
none_named [] h = refl
none_named (UnitLine entry ∷ lines) h = none_named lines h.1
none_named (NoteLine (Start start) ∷ lines) h = absurd h.0
none_named (NoteLine (Atom t) ∷ lines) h = absurd h.0
none_named (NoteLine (Bound b) ∷ lines) h = absurd h.0
none_named (NoteLine (Form atom) ∷ lines) h = absurd h.0
none_named (NoteLine (Under literals) ∷ lines) h = absurd h.0
none_named (NoteLine (Told atom sign) ∷ lines) h = none_named lines h.1

pub noted-append : (xs ys : List (WorkLine Note)) → noted_atoms (xs ++ ys) ≡ noted_atoms xs ++ noted_atoms ys
noted-append [] ys = refl
noted-append (UnitLine entry ∷ xs) ys = noted-append xs ys
noted-append (NoteLine (Start start) ∷ xs) ys = noted-append xs ys
noted-append (NoteLine (Atom t) ∷ xs) ys = ap (λ (us : List log.Atom). log.TheVariants.Term t ∷ us) (noted-append xs ys)
noted-append (NoteLine (Bound b) ∷ xs) ys = ap (λ (us : List log.Atom). log.TheVariants.AtMost b ∷ us) (noted-append xs ys)
noted-append (NoteLine (Form atom) ∷ xs) ys = noted-append xs ys
noted-append (NoteLine (Under literals) ∷ xs) ys = noted-append xs ys
noted-append (NoteLine (Told atom sign) ∷ xs) ys = noted-append xs ys

-- an atom is found under its number
pub unnamed : (us : List ℕ) (t : ℕ) → Contains us t → number_of us t ≡ None → ⊥
unnamed us t has none =
    let at : slice_get us has.0 ≡ Some t = slice_get-get_or us has.0 t has.1 ∙ ap Some has.2 in
    let found = number_found us t has.0 at in
    let clash : Some found.0 ≡ None = sym found.1 ∙ none in
    cc

-- what has a number is one of the atoms
pub has_numbered : (us : List ℕ) (t : ℕ) (o : Option ℕ) → number_of us t ≡ o → is_some o ≡ true → Contains us t
has_numbered us t (Some n) is some = has_found us n t (number_place us t n is)
has_numbered us t None is some = absurd (true≢false (sym some))
