-- The first values with their numbers, when one pair more is listed.
use Rattle.std.proofs.Common.{◌≡◌, ◌==◌, inl, inr, ℕ, Bool, true, false, cond, List, [], ◌∷◌, ◌++◌, Option, Some, None, option_map, refl, sym, ap, subst, ◌∙◌, true≢false}
use Rattle.std.specs.Prelude.{is_some, nat_eq}
use Rattle.std.specs.HashMap.{HashMap, get}
use Rattle.std.proofs.lemmas.Bool.Decides.{eqb_tells}
use Rattle.nz_spec.specs.terms.Term.{Value}
use Rattle.nz_spec.specs.terms.Table.{listed_value}
use Rattle.nz_term.specs.declared.assign.Value as own
use Rattle.nz_term.specs.Values.{value_of, HasFirsts}

-- what a list gives a number stays when it grows
pub stays : (ps : List (ℕ × Value)) (p : ℕ × Value) (i : ℕ) → is_some (listed_value ps i) ≡ true → listed_value (ps ++ p ∷ []) i ≡ listed_value ps i
stays [] p i some = absurd (true≢false (sym some))
stays (q ∷ ps) p i some = by (q.0 == i) refl (stays ps p i)
  where
    by : (b : Bool) → (q.0 == i) ≡ b → (is_some (listed_value ps i) ≡ true → listed_value (ps ++ p ∷ []) i ≡ listed_value ps i) → listed_value (q ∷ ps ++ p ∷ []) i ≡ listed_value (q ∷ ps) i
    by true e rest = ap (λ x. cond x (Some q.1) (listed_value (ps ++ p ∷ []) i)) e ∙ sym (ap (λ x. cond x (Some q.1) (listed_value ps i)) e)
    by false e rest =
        ap (λ x. cond x (Some q.1) (listed_value (ps ++ p ∷ []) i)) e ∙ rest (sym (ap (λ x. is_some (cond x (Some q.1) (listed_value ps i))) e) ∙ some)
        ∙ sym (ap (λ x. cond x (Some q.1) (listed_value ps i)) e)

-- where it gives none, the new pair is the first
pub comes : (ps : List (ℕ × Value)) (p : ℕ × Value) (i : ℕ) → listed_value ps i ≡ None → listed_value (ps ++ p ∷ []) i ≡ cond (p.0 == i) (Some p.1) None
comes [] p i none = refl
comes (q ∷ ps) p i none = by (q.0 == i) refl (comes ps p i)
  where
    by : (b : Bool) → (q.0 == i) ≡ b → (listed_value ps i ≡ None → listed_value (ps ++ p ∷ []) i ≡ cond (p.0 == i) (Some p.1) None) → listed_value (q ∷ ps ++ p ∷ []) i ≡ cond (p.0 == i) (Some p.1) None
    by true e rest =
        let some : Some q.1 ≡ None = sym (ap (λ x. cond x (Some q.1) (listed_value ps i)) e) ∙ none in
        absurd cc
    by false e rest =
        ap (λ x. cond x (Some q.1) (listed_value (ps ++ p ∷ []) i)) e ∙ rest (sym (ap (λ x. cond x (Some q.1) (listed_value ps i)) e) ∙ none)

mapped : (o : Option own.Value) → is_some (option_map value_of o) ≡ is_some o
mapped (Some v) = refl
mapped None = refl

none_mapped : (o : Option own.Value) → is_some o ≡ false → option_map value_of o ≡ None
none_mapped (Some v) e = absurd (true≢false e)
none_mapped None e = refl

-- a number that has a first value keeps it
pub kept_firsts : {S : Type 0} (m : HashMap ℕ own.Value S) (id : ℕ) (v : own.Value) → is_some (get nat_eq m id) ≡ true
    → (ps : List (ℕ × Value)) → HasFirsts m ps → HasFirsts m (ps ++ (id, value_of v) ∷ [])
kept_firsts m id v there ps h i =
    elim (eqb_tells id i) [
      | inl e ↦
          let here = subst (λ k. is_some (get nat_eq m k) ≡ true) e.1 there in
          h i ∙ sym (stays ps (id, value_of v) i (ap is_some (sym (h i)) ∙ mapped (get nat_eq m i) ∙ here))
      | inr e ↦ by (listed_value ps i) refl e.0
    ]
  where
    by : (o : Option Value) → listed_value ps i ≡ o → (id == i) ≡ false → option_map value_of (get nat_eq m i) ≡ listed_value (ps ++ (id, value_of v) ∷ []) i
    by (Some w) e apart = h i ∙ sym (stays ps (id, value_of v) i (ap is_some e))
    by None e apart = h i ∙ e ∙ sym (comes ps (id, value_of v) i e ∙ ap (λ b. cond b (Some (value_of v)) None) apart)

-- a new one has the value of the pair
pub new_firsts : {S : Type 0} (m n : HashMap ℕ own.Value S) (id : ℕ) (v : own.Value) → is_some (get nat_eq m id) ≡ false → ((i : ℕ) → get nat_eq n i ≡ cond (id == i) (Some v) (get nat_eq m i))
    → (ps : List (ℕ × Value)) → HasFirsts m ps → HasFirsts n (ps ++ (id, value_of v) ∷ [])
new_firsts m n id v none put ps h i =
    elim (eqb_tells id i) [
      | inl e ↦
          let absent = subst (λ k. is_some (get nat_eq m k) ≡ false) e.1 none in
          ap (option_map value_of) (put i ∙ ap (λ b. cond b (Some v) (get nat_eq m i)) e.0)
          ∙ sym (comes ps (id, value_of v) i (sym (h i) ∙ none_mapped (get nat_eq m i) absent) ∙ ap (λ b. cond b (Some (value_of v)) None) e.0)
      | inr e ↦ ap (option_map value_of) (put i ∙ ap (λ b. cond b (Some v) (get nat_eq m i)) e.0) ∙ by (listed_value ps i) refl e.0
    ]
  where
    by : (o : Option Value) → listed_value ps i ≡ o → (id == i) ≡ false → option_map value_of (get nat_eq m i) ≡ listed_value (ps ++ (id, value_of v) ∷ []) i
    by (Some w) e apart = h i ∙ sym (stays ps (id, value_of v) i (ap is_some e))
    by None e apart = h i ∙ e ∙ sym (comes ps (id, value_of v) i e ∙ ap (λ b. cond b (Some (value_of v)) None) apart)
