-- One unit more.
use Rattle.std.proofs.Common.{Vec, Global, ◌≡◌, ◌++◌, ◌+◌, ◌<◌, [], ◌∷◌, ℕ, List, get_or, length, map, take, sym, ap, subst, ◌∙◌, arith}
use Rattle.std.specs.Prelude.{nat_eq}
use Rattle.std.specs.HashMap.{get}
use Rattle.std.proofs.lemmas.List.{append_assoc, length-append, length-map, length-take-le, map_push, take_more}
use Rattle.nz_lin.specs.declared.form.Part.{Part}
use Rattle.nz_tab.specs.Units.{AreNumbers}
use Rattle.nz_tab.proofs.TableStorage.{items}
use Rattle.nz_tab.proofs.tab.number_units.Goals as goal

-- the units so far, and one more
one_more : (fs : List (List Part)) (us : List (Vec Part Global)) (i : ℕ) (x : Vec Part Global) → i < length us → x ≡ get_or us i x → (fs ++ map items (take i us)) ++ x.items ∷ [] ≡ fs ++ map items (take (i + 1) us)
one_more fs us i x inside is =
    append_assoc fs (map items (take i us)) (x.items ∷ [])
    ∙ ap (λ (l : List (List Part)). fs ++ l)
    (ap (λ (y : Vec Part Global). map items (take i us) ++ y.items ∷ []) is
    ∙ sym (map_push items (take i us) (get_or us i x))
    ∙ ap (map items) (sym (take_more us i x inside)))

pub loop-unit-preserved : goal.loop-unit-preserved
loop-unit-preserved c =
    let us = c.args.units.now in
    let i = c.loop-unit.unit-index in
    let x = c.unit-item.result in
    record {
      numbers = λ fs long agree.
          let before = fs ++ map items (take i us) in
          let far : length before ≡ c.loop-unit.var =
          length-append fs (map items (take i us)) ∙ omega (arith, length-map (take i us) items, length-take-le i us (omega (arith, c.loop-unit-test.true)), c.loop-unit.invariant.var, long) in
          subst (AreNumbers (get nat_eq c.number_unit.new.numbers))
          (ap (λ (l : List Part). before ++ l ∷ []) c.as_slice.ensures.value ∙ one_more fs us i x c.loop-unit-test.true c.unit-item.is)
          (c.number_unit.ensures.numbers before far (c.loop-unit.invariant.numbers fs long agree));
      var = omega (arith, c.loop-unit.invariant.var);
      spare = omega (arith, c.loop-unit.invariant.spare, c.number_unit.ensures.spare);
    }
