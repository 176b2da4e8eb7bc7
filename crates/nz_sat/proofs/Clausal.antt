-- Truths on a trail that grows.
use Rattle.std.proofs.Common.{◌≡◌, ◌≢◌, ℕ, suc, ◌+◌, Bool, true, false, not, List, [], ◌∷◌, ◌++◌, length, Some, None, ◌⊎◌, inl, inr, refl, sym, ap, ◌∙◌, arith}
use Rattle.std.specs.Prelude.{slice_get, option_map}
use Rattle.nz_log.specs.declared.lits.Lit.{Lit}
use Rattle.nz_log.specs.Atoms.{TellsLits}
use Rattle.nz_log.specs.Lits.{are_same_lit}
use Rattle.nz_sat.specs.declared.trail.Assigned.{Assigned}
use Rattle.nz_sat.specs.Trails.{assigned, truth_on}
use Rattle.nz_sat.proofs.TrailEntries.{assigned_found, assigned_missing}

-- ---- Literals

pub either_sign : (p q : Bool) → (p ≡ q) ⊎ (p ≡ not q)
either_sign true true = inl refl
either_sign true false = inr refl
either_sign false true = inr refl
either_sign false false = inl refl

pub sign_again : (p : Bool) → not (not p) ≡ p
sign_again true = refl
sign_again false = refl

-- the test tells that two are others
pub other_lit : TellsLits → (l m : Lit) → are_same_lit l m ≡ false → l ≢ m
other_lit tells l m e same =
    let one : are_same_lit l m ≡ true = ap (are_same_lit l) (sym same) ∙ tells.one l in
    cc

-- ---- Truths

pub truth_found : (es more : List Assigned) (t : ℕ) (b : Bool) → truth_on es t ≡ Some b → truth_on (es ++ more) t ≡ Some b
truth_found es more t b at =
    elim (assigned es t) as (λ o. assigned es t ≡ o → option_map (λ (e : Assigned). e.literal.sign) o ≡ Some b → truth_on (es ++ more) t ≡ Some b) [
      | None ↦ λ h k. cc
      | Some x ↦ λ h k. ap (option_map (λ (e : Assigned). e.literal.sign)) (assigned_found es more t x h) ∙ k
    ] refl at

pub free_missing : (es : List Assigned) (t : ℕ) → truth_on es t ≡ None → assigned es t ≡ None
free_missing es t at =
    elim (assigned es t) as (λ o. option_map (λ (e : Assigned). e.literal.sign) o ≡ None → o ≡ None) [
      | None ↦ λ h. refl
      | Some x ↦ λ h. cc
    ] at

pub missing_free : (es : List Assigned) (t : ℕ) → assigned es t ≡ None → truth_on es t ≡ None
missing_free es t at = ap (option_map (λ (e : Assigned). e.literal.sign)) at

pub truth_missing : (es more : List Assigned) (t : ℕ) → truth_on es t ≡ None → truth_on (es ++ more) t ≡ truth_on more t
truth_missing es more t at = ap (option_map (λ (e : Assigned). e.literal.sign)) (assigned_missing es more t (free_missing es t at))

-- ---- Places

pub slice_get_behind : (es more : List Assigned) (j : ℕ) (x : Assigned) → slice_get more j ≡ Some x → slice_get (es ++ more) (length es + j) ≡ Some x
slice_get_behind [] more j x at = let same : j ≡ 0 + j = omega arith in ap (slice_get more) (sym same) ∙ at
slice_get_behind (e ∷ es) more j x at =
    let same : suc (length es) + j ≡ suc (length es + j) = omega arith in
    ap (slice_get (e ∷ (es ++ more))) same ∙ slice_get_behind es more j x at
