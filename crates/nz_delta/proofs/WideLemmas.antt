-- The first Wide operation of a list, and what a refused call names.
use Rattle.std.proofs.Common.{◌≡◌, Bool, true, false, IsTrue, refl, sym, ap, ◌∙◌, List, [], ◌∷◌, Option, Some, None, Result, Ok, Err, IsErr, IfErr, if◌then◌else◌}
use Rattle.nz_lists.proofs.Tests.{told_false, told_true}
use Rattle.nz_fractions.specs.Fraction.{Fraction, Arithmetic, Operation, is_wide, first_wide}
use Rattle.nz_frac.specs.declared.frac.Wide.{Wide}
use Rattle.nz_delta.specs.Operations.{alone}
use Rattle.nz_frac.specs.Operations.{operation_of}
use Rattle.nz_delta.specs.Refused.{refused}

pub refused_is : {T : Type 0} (r : Result T Wide) (y w : Wide) → r ≡ Err y → y ≡ w → refused r ≡ Some (operation_of w)
refused_is {T} r y w e f =
    ap (λ (x : Result T Wide). refused x) e ∙ ap (λ (x : Wide). let o : Option Operation = Some (operation_of x) in o) f

pub first_none : first_wide [] ≡ None
unfolding first_wide
first_none = refl

pub first_here : (o : Operation) (rest : List Operation) → is_wide o.operator o.left o.right ≡ true → first_wide (o ∷ rest) ≡ Some o
unfolding first_wide
first_here o rest e = ap (λ (b : Bool). if b then Some o else first_wide rest) e

pub first_later : (o : Operation) (rest : List Operation) → is_wide o.operator o.left o.right ≡ false → first_wide (o ∷ rest) ≡ first_wide rest
unfolding first_wide
first_later o rest e = ap (λ (b : Bool). if b then Some o else first_wide rest) e

-- a call of one operation names it exactly where it is Wide
pub refused_alone : (r : Result Fraction Wide) (op : Arithmetic) (p q : Fraction) (w : Wide) → operation_of w ≡ record { operator = op; left = p; right = q } → (IsErr r → IsTrue (is_wide op p q)) × (IsTrue (is_wide op p q) → IsErr r) → IfErr r (λ x. x ≡ w) → refused r ≡ first_wide (alone op p q)
refused_alone (Ok x) op p q w e h k =
    sym (first_later (record { operator = op; left = p; right = q }) [] (told_false h) ∙ first_none)
refused_alone (Err y) op p q w e h k =
    ap (λ (x : Wide). let o : Option Operation = Some (operation_of x) in o) k
    ∙ ap (λ (o : Operation). let s : Option Operation = Some o in s) e
    ∙ sym (first_here (record { operator = op; left = p; right = q }) [] (told_true h))
