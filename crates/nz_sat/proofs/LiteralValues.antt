-- The values of literals by their numbers, where an entry comes on a trail or goes.
use Rattle.std.proofs.Common.{◌≡◌, ◌≢◌, ℕ, ◌*◌, ◌<◌, ◌⊎◌, inl, inr, Bool, true, false, not, List, [], ◌∷◌, ◌++◌, length, Option, Some, None, option_map, refl, sym, ap, ◌∙◌, arith}
use Rattle.std.specs.Prelude.{slice_index_or, slice_set}
use Rattle.std.proofs.lemmas.Bool.{cases_eq}
use Rattle.std.proofs.lemmas.List.{get_or-set_same, get_or-set_other, length-set}
use Rattle.nz_spec.specs.clauses.Literal.{are_same_sign}
use Rattle.nz_log.specs.declared.lits.Lit.{Lit}
use Rattle.nz_log.specs.Codes.{code_of}
use Rattle.nz_log.specs.Lits.{negated_lit}
use Rattle.nz_sat.specs.declared.trail.Assigned.{Assigned}
use Rattle.nz_sat.specs.Stored.{value_on}
use Rattle.nz_sat.specs.Trails.{assigned, truth_on}
use Rattle.nz_sat.proofs.LiteralNumbers.{code_tells, code_within, sign_same}
use Rattle.nz_sat.proofs.TrailEntries.{assigned_missing, assigned_one, other_entry}

sign_cases : (p q : Bool) → (p ≡ q) ⊎ (p ≡ not q)
sign_cases true true = inl refl
sign_cases true false = inr refl
sign_cases false true = inr refl
sign_cases false false = inl refl

-- a literal is another one, its negation, or on another atom
opposed_cases : (k l : Lit) → (k ≡ l) ⊎ ((k ≡ negated_lit l) ⊎ (k.atom ≢ l.atom))
opposed_cases k l =
    elim (cases_eq k.atom l.atom) [
      | inl atom ↦
          elim (sign_cases k.sign l.sign) [
            | inl sign ↦ inl (λ i. record { atom = atom i; sign = sign i })
            | inr sign ↦ inr (inl (λ i. record { atom = atom i; sign = sign i }))
          ]
      | inr other ↦ inr (inr other)
    ]

not_other : (b : Bool) → b ≢ not b
not_other true e = cc
not_other false e = cc

differs : (b : Bool) → are_same_sign b (not b) ≡ false
differs true = refl
differs false = refl

-- ---- Two values written

module _ (values : List (Option Bool)) (l : Lit) (n m : ℕ) (x y : Option Bool) (this : n ≡ code_of l) (opposite : m ≡ code_of (negated_lit l)) (size : ℕ)
    (within : l.atom < size) (long : length values ≡ 2 * size) where
  abbrev written : List (Option Bool)
  written = slice_set (slice_set values n x) m y

  apart : n ≢ m
  apart e = not_other l.sign (ap (λ (k : Lit). k.sign) (code_tells l (negated_lit l) (sym this ∙ e ∙ opposite)))

  n_within : n < length values
  n_within = let small : code_of l < 2 * size = code_within l size within in omega (arith, small, this, long)

  m_within : m < length (slice_set values n x)
  m_within =
      let small : code_of (negated_lit l) < 2 * size = code_within (negated_lit l) size within in
      let same : length (slice_set values n x) ≡ length values = length-set values n x in
      omega (arith, small, opposite, long, same)

  at_this : slice_index_or written n None ≡ x
  at_this = get_or-set_other (slice_set values n x) m n y None apart ∙ get_or-set_same values n x None n_within

  at_opposite : slice_index_or written m None ≡ y
  at_opposite = get_or-set_same (slice_set values n x) m y None m_within

  beside : (k : Lit) → k.atom ≢ l.atom → slice_index_or written (code_of k) None ≡ slice_index_or values (code_of k) None
  beside k other =
      get_or-set_other (slice_set values n x) m (code_of k) y None (λ e. other (ap (λ (j : Lit). j.atom) (code_tells k (negated_lit l) (e ∙ opposite))))
      ∙ get_or-set_other values n (code_of k) x None (λ e. other (ap (λ (j : Lit). j.atom) (code_tells k l (e ∙ this))))

  written_values : (es : List Assigned) → x ≡ value_on es l → y ≡ value_on es (negated_lit l)
      → ((k : Lit) → k.atom ≢ l.atom → slice_index_or values (code_of k) None ≡ value_on es k) → (k : Lit)
      → slice_index_or written (code_of k) None ≡ value_on es k
  written_values es here there others k =
      elim (opposed_cases k l) [
        | inl same ↦
            ap (λ (j : ℕ). slice_index_or written j None) (ap code_of same ∙ sym this) ∙ at_this ∙ here ∙ ap (value_on es) (sym same)
        | inr rest ↦
            elim rest [
              | inl same ↦
                  ap (λ (j : ℕ). slice_index_or written j None) (ap code_of same ∙ sym opposite) ∙ at_opposite ∙ there ∙ ap (value_on es) (sym same)
              | inr other ↦ beside k other ∙ others k other
            ]
      ]

-- ---- An entry that comes, and one that goes

module _ (es : List Assigned) (e : Assigned) (values : List (Option Bool)) (n m : ℕ) (this : n ≡ code_of e.literal)
    (opposite : m ≡ code_of (negated_lit e.literal)) (size : ℕ) (within : e.literal.atom < size) (long : length values ≡ 2 * size)
    (fresh : assigned es e.literal.atom ≡ None) where
  truth_put : truth_on (es ++ e ∷ []) e.literal.atom ≡ Some e.literal.sign
  truth_put = ap (option_map (λ (a : Assigned). a.literal.sign)) (assigned_missing es (e ∷ []) e.literal.atom fresh ∙ assigned_one e e.literal.atom refl)

  truth_beside : (k : Lit) → k.atom ≢ e.literal.atom → value_on (es ++ e ∷ []) k ≡ value_on es k
  truth_beside k other =
      ap (λ (o : Option Assigned). option_map (λ (sign : Bool). are_same_sign sign k.sign) (option_map (λ (a : Assigned). a.literal.sign) o))
      (other_entry es e k.atom other)

  pub values_put : ((k : Lit) → slice_index_or values (code_of k) None ≡ value_on es k) → (k : Lit)
      → slice_index_or (slice_set (slice_set values n (Some true)) m (Some false)) (code_of k) None ≡ value_on (es ++ e ∷ []) k
  values_put valued =
      written_values values e.literal n m (Some true) (Some false) this opposite size within long (es ++ e ∷ [])
      (sym (ap (option_map (λ (sign : Bool). are_same_sign sign e.literal.sign)) truth_put ∙ ap Some (sign_same e.literal.sign)))
      (sym (ap (option_map (λ (sign : Bool). are_same_sign sign (not e.literal.sign))) truth_put ∙ ap Some (differs e.literal.sign)))
      (λ k other. valued k ∙ sym (truth_beside k other))

  pub values_pop : ((k : Lit) → slice_index_or values (code_of k) None ≡ value_on (es ++ e ∷ []) k) → (k : Lit)
      → slice_index_or (slice_set (slice_set values n None) m None) (code_of k) None ≡ value_on es k
  values_pop valued =
      let free : truth_on es e.literal.atom ≡ None = ap (option_map (λ (a : Assigned). a.literal.sign)) fresh in
      written_values values e.literal n m None None this opposite size within long es
      (sym (ap (option_map (λ (sign : Bool). are_same_sign sign e.literal.sign)) free))
      (sym (ap (option_map (λ (sign : Bool). are_same_sign sign (not e.literal.sign))) free))
      (λ k other. valued k ∙ truth_beside k other)

  pub values_long : (x y : Option Bool) → length (slice_set (slice_set values n x) m y) ≡ 2 * size
  values_long x y = length-set (slice_set values n x) m y ∙ length-set values n x ∙ long
