-- Clauses that are open, of which no literal is true.
use Rattle.std.proofs.Common.{◌≡◌, ℕ, ◌+◌, ◌<◌, ◌≤◌, Bool, true, false, true≢false, not, List, [], ◌∷◌, ◌++◌, length, take, get_or, Option, Some, None, inl, inr, refl, sym, ap, subst, ◌∙◌, arith}
use Rattle.std.specs.Option.{option_or}
use Rattle.std.specs.Prelude.{Contains, IfSome}
use Rattle.std.proofs.lemmas.List.{take_all, take_more}
use Rattle.std.proofs.lemmas.List.Elements.{Contains-push_cases}
use Rattle.std.proofs.lemmas.Option.{none-some, same_Some}
use Rattle.nz_log.specs.declared.lits.Lit.{Lit}
use Rattle.nz_sat.specs.declared.trail.Assigned.{Assigned}
use Rattle.nz_sat.specs.Clauses.{IsFalsified, IsOpen, by_true, by_two}
use Rattle.nz_sat.specs.Trails.{IsFalseOn}

other_sign : (b : Bool) → b ≡ not b → ⊥
other_sign true e = true≢false e
other_sign false e = true≢false (sym e)

-- one literal more is false
pub falsified_more : (es : List Assigned) (c : List Lit) (i : ℕ) (l : Lit) → i < length c → l ≡ get_or c i l → IsFalsified es (take i c) → IsFalseOn es l → IsFalsified es (take (i + 1) c)
falsified_more es c i l inside here before fails m has =
    elim (Contains-push_cases (take i c) l m (subst (λ (xs : List Lit). Contains xs m) (take_more c i l inside ∙ ap (λ (k : Lit). take i c ++ k ∷ []) (sym here)) has)) [
      | inl old ↦ before m old
      | inr same ↦ subst (IsFalseOn es) same fails
    ]

pub falsified_whole : (es : List Assigned) (c : List Lit) (i : ℕ) → length c ≤ i → IsFalsified es (take i c) → IsFalsified es c
falsified_whole es c i long h m has = h m (subst (λ (xs : List Lit). Contains xs m) (sym (take_all i c (omega (arith, long)))) has)

-- no clause is open in which each literal is false
pub open_falsified : (es : List Assigned) (c : List Lit) → IsFalsified es c → IsOpen es c → ⊥
open_falsified es c fails (by_true l has holds) = other_sign l.sign (same_Some l.sign (not l.sign) (sym holds ∙ fails l has))
open_falsified es c fails (by_two l m has_l has_m differ free_l free_m) = none-some (not l.sign) (sym free_l ∙ fails l has_l)

-- ---- The first of two that are found

pub or_some : {A : Type 0} (P : A → Type 0) (o p : Option A) → IfSome o P → IfSome p P → IfSome (option_or o p) P
or_some P None p h k = k
or_some P (Some x) p h k = h

pub or_none : {A : Type 0} (o p : Option A) → option_or o p ≡ None → (o ≡ None) × (p ≡ None)
or_none None p none = (refl, none)
or_none (Some x) p none = absurd (none-some x (sym none))

pub some_weaker : {A : Type 0} (P Q : A → Type 0) → ((x : A) → P x → Q x) → (o : Option A) → IfSome o P → IfSome o Q
some_weaker P Q f None h = h
some_weaker P Q f (Some x) h = f x h
