-- One multiple more.
use Rattle.std.proofs.Common.{◌≡◌, ◌+◌, ◌<◌, List, ◌∷◌, length, drop, sym, subst, arith}
use Rattle.std.proofs.lemmas.List.{drop_all}
use Rattle.std.proofs.lemmas.List.Elements.{All-from_recursion}
use Rattle.nz_lists.proofs.Places.{drop_read}
use Rattle.nz_spec.specs.numbers.Computation.{at_once, IsSame}
use Rattle.nz_spec.specs.clauses.Farkas as farkas
use Rattle.nz_spec.specs.terms.FormOf.{number_in}
use Rattle.nz_spec.specs.terms.Table.{Node}
use Rattle.nz_lin.specs.declared.bound.BoundMultiple.{BoundMultiple}
use Rattle.nz_lin.specs.Bounds.{HasUnits, IsBounded, bound_over, multiples_over}
use Rattle.nz_lin.proofs.BoundSides.{multiple_more, multiple_stop}
use Rattle.nz_lin.proofs.ComputationSequences.{at_once_done, handed_on, same_done, same_itself}
use Rattle.nz_lin.proofs.bound.sum_of_multiples.Goals as goal

abbrev Named : List Node → BoundMultiple → Type 0
Named ns m = HasUnits ns m.bound

pub loop-multiple-init : goal.loop-multiple-init
loop-multiple-init c = record {
  joined = λ ns table named.
      let n = number_in ns in
      let ms = multiples_over ns c.args.multiples.now in
      subst (λ (x : farkas.Bound). IsSame (farkas.multiples_onto n x ms) (farkas.sum_of_multiples n ms)) (sym (c.empty-sum.ensures.bound ns)) (same_itself (farkas.sum_of_multiples n ms));
  units = λ ns named. c.empty-sum.ensures.units ns;
}

pub returns-in_err-join_multiple : goal.returns-in_err-join_multiple
returns-in_err-join_multiple c = record {
  bounded = λ ns table named.
      let ms = c.args.multiples.now in
      let i = c.loop-multiple.multiple-index in
      let m = c.multiple-item.result in
      let n = number_in ns in
      let rest = drop (i + 1) ms in
      let x = bound_over ns c.loop-multiple.sum in
      let whole = farkas.sum_of_multiples n (multiples_over ns ms) in
      let inside : i < length ms = omega arith in
      let left : drop i ms ≡ m ∷ rest = drop_read ms i m inside c.multiple-item.is in
      let own : HasUnits ns m.bound = subst (Named ns) (sym c.multiple-item.is) (All-from_recursion (Named ns) ms named i m inside) in
      handed_on (λ r. IsBounded ns whole r) c.from_residual.result c.in_err-join_multiple.field-0.0 c.from_residual.ensures.1
      (multiple_stop n ns x m rest whole (subst (λ (l : List BoundMultiple). IsSame (farkas.multiples_onto n x (multiples_over ns l)) whole) left (c.loop-multiple.invariant.joined ns table named))
      c.in_err-join_multiple.field-0.0 (c.in_err-join_multiple.ensures.comes ns table (c.loop-multiple.invariant.units ns named) own));
}

pub loop-multiple-preserved : goal.loop-multiple-preserved
loop-multiple-preserved c =
    let ms = c.args.multiples.now in
    let i = c.loop-multiple.multiple-index in
    let m = c.multiple-item.result in
    let rest = drop (i + 1) ms in
    let inside : i < length ms = omega arith in
    let left : drop i ms ≡ m ∷ rest = drop_read ms i m inside c.multiple-item.is in
    record {
      joined = λ ns table named.
          let n = number_in ns in
          let x = bound_over ns c.loop-multiple.sum in
          let whole = farkas.sum_of_multiples n (multiples_over ns ms) in
          let own : HasUnits ns m.bound = subst (Named ns) (sym c.multiple-item.is) (All-from_recursion (Named ns) ms named i m inside) in
          multiple_more n ns x m rest whole (subst (λ (l : List BoundMultiple). IsSame (farkas.multiples_onto n x (multiples_over ns l)) whole) left (c.loop-multiple.invariant.joined ns table named))
          (bound_over ns c.join_multiple.new.self) (c.in_ok-join_multiple.ensures.comes ns table (c.loop-multiple.invariant.units ns named) own);
      units = λ ns named.
          let own : HasUnits ns m.bound = subst (Named ns) (sym c.multiple-item.is) (All-from_recursion (Named ns) ms named i m inside) in
          c.in_ok-join_multiple.ensures.units ns (c.loop-multiple.invariant.units ns named) own;
    }

pub returns : goal.returns
returns c = record {
  bounded = λ ns table named.
      let ms = c.args.multiples.now in
      let n = number_in ns in
      let x = bound_over ns c.loop-multiple.sum in
      let whole = farkas.sum_of_multiples n (multiples_over ns ms) in (
        same_done (at_once x) whole x
            (subst (λ (l : List BoundMultiple). IsSame (farkas.multiples_onto n x (multiples_over ns l)) whole) (drop_all c.loop-multiple.multiple-index ms (omega arith)) (c.loop-multiple.invariant.joined ns table named))
            (at_once_done x),
        c.loop-multiple.invariant.units ns named,
      );
}
