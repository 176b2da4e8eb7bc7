-- A use of a definition has the sort of its body.
use Rattle.std.proofs.Common.{◌≡◌, List, refl, subst}
use Rattle.std.specs.Bool.{⊤}
use Rattle.nz_lists.proofs.Options.{IfFound, map_found}
use Rattle.nz_spec.specs.terms.Term.{Sort, parameter, Term, apply, Terms, no_terms, terms, sort_of}
use Rattle.nz_spec.specs.terms.Definitions.{instance_of, instances_of, all_placed, RootFits, ExpansionKeepsSort}
use Rattle.nz_spec.specs.terms.WellSorted.{SortsTell}
use Rattle.nz_script.proofs.Placed.{HaveSorts, AllAre, ArePlaced, are_placed, at_place}

abbrev IsAny : Term → Type 0
IsAny t = ⊤

are_any : (ts : Terms) → AllAre IsAny ts
are_any no_terms = tt
are_any (terms t ts) = (tt, are_any ts)

instance_sort : (rs : List Sort) (us : Terms) → HaveSorts rs us → (t : Term) → RootFits rs t → sort_of (instance_of us t) ≡ sort_of t
instance_sort rs us m (apply (parameter i s) ts) k = (at_place IsAny rs us i s m (are_any us) k (parameter i s) (instances_of us ts)).1
instance_sort rs us m (apply h ts) k = refl

pub expansions_keep_sort : SortsTell → ExpansionKeepsSort
expansions_keep_sort told d k ts u e =
    subst (IfFound (λ (t : Term). sort_of t ≡ sort_of d.body)) e
    (map_found (ArePlaced IsAny d.parameters) (λ (t : Term). sort_of t ≡ sort_of d.body) (λ us. instance_of us d.body) (all_placed d.parameters ts)
    (λ us p. instance_sort d.parameters us p.1 d.body k) (are_placed IsAny told (λ t h. tt) d.parameters ts (are_any ts)))
