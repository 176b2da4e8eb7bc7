-- What holds of what was found, if anything was.
use Rattle.std.proofs.Common.{◌≡◌, Bool, true, false, Option, Some, None, if◌then◌else◌, refl}
use Rattle.std.specs.Bool.{⊤}
use Rattle.std.specs.Prelude.{option_map, option_and_then}

-- P of what was found, if anything was
abbrev pub IfFound : {A : Type 0} → (A → Type 0) → Option A → Type 0
IfFound P None = ⊤
IfFound P (Some x) = P x

pub and_then_found : {A B : Type 0} (P : A → Type 0) (Q : B → Type 0) (f : A → Option B) (o : Option A) → ((x : A) → P x → IfFound Q (f x)) → IfFound P o → IfFound Q (option_and_then f o)
and_then_found P Q f None k h = tt
and_then_found P Q f (Some x) k h = k x h

pub map_found : {A B : Type 0} (P : A → Type 0) (Q : B → Type 0) (f : A → B) (o : Option A) → ((x : A) → P x → Q (f x)) → IfFound P o → IfFound Q (option_map f o)
map_found P Q f None k h = tt
map_found P Q f (Some x) k h = k x h

pub found_weaker : {A : Type 0} (P Q : A → Type 0) (o : Option A) → ((x : A) → P x → Q x) → IfFound P o → IfFound Q o
found_weaker P Q None k h = tt
found_weaker P Q (Some x) k h = k x h

pub if_found : {A : Type 0} (P : A → Type 0) (b : Bool) (o p : Option A) → IfFound P o → IfFound P p → IfFound P (if b then o else p)
if_found P true o p h i = h
if_found P false o p h i = i

-- what is kept where a test holds was there, and the test holds
pub kept_if : {A : Type 0} (b : Bool) (x y : A) → (if b then Some x else None) ≡ Some y → (x ≡ y) × (b ≡ true)
kept_if true x y at = (cc, refl)
kept_if false x y at = cc
