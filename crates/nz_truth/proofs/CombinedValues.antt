-- Values that are gathered into one.
use Rattle.std.proofs.Common.{◌≡◌, ◌≢◌, Bool, List, [], ◌∷◌, length, map, refl, ap, ◌∙◌}
use Rattle.std.specs.List.{list_all, list_any}
use Rattle.nz_spec.specs.terms.Term.{truth, is_true, all_true, some_true}
use Rattle.nz_term.specs.declared.assign.Value.{Value}
use Rattle.nz_term.specs.Values.{value_of}

all_map : (vs : List Value) → list_all (λ v. is_true (value_of v)) vs ≡ list_all is_true (map value_of vs)
all_map [] = refl
all_map (v ∷ vs) =
    let rest : list_all (λ v. is_true (value_of v)) vs ≡ list_all is_true (map value_of vs) = all_map vs in
    cc

any_map : (vs : List Value) → list_any (λ v. is_true (value_of v)) vs ≡ list_any is_true (map value_of vs)
any_map [] = refl
any_map (v ∷ vs) =
    let rest : list_any (λ v. is_true (value_of v)) vs ≡ list_any is_true (map value_of vs) = any_map vs in
    cc

pub all_are : (vs : List Value) (b : Bool) → b ≡ list_all (λ v. is_true (value_of v)) vs → length vs ≢ 1 → truth b ≡ all_true (map value_of vs)
all_are [] b e other = ap truth e
all_are (v ∷ []) b e other = absurd (other refl)
all_are (v ∷ w ∷ vs) b e other = ap truth (e ∙ all_map (v ∷ w ∷ vs))

pub one_is : (vs : List Value) (b : Bool) → b ≡ list_any (λ v. is_true (value_of v)) vs → length vs ≢ 1 → truth b ≡ some_true (map value_of vs)
one_is [] b e other = ap truth e
one_is (v ∷ []) b e other = absurd (other refl)
one_is (v ∷ w ∷ vs) b e other = ap truth (e ∙ any_map (v ∷ w ∷ vs))
