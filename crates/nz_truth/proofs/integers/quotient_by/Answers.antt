-- One quotient more.
use Rattle.std.proofs.Common.{◌≡◌, ◌+◌, ℤ, List, ◌∷◌, drop, map, to_z, of_z, sym, ap, ◌∙◌, arith}
use Rattle.std.specs.Int.{w128}
use Rattle.nz_lists.proofs.Places.{drop_read}
use Rattle.nz_spec.specs.terms.Term as spec
use Rattle.nz_spec.specs.terms.Term.{combined, div_of, divided, integer_of, whole_number}
use Rattle.nz_term.specs.declared.assign.Value.{Value}
use Rattle.nz_term.specs.Values.{value_of}
use Rattle.nz_ints.proofs.Sizes.{cast-back}
use Rattle.nz_truth.proofs.integers.quotient_by.Goals as goal

pub loop-other-preserved : goal.loop-other-preserved
loop-other-preserved c =
    let k = c.loop-other.other-index in
    let v = value_of c.loop-other.value in
    let w = value_of c.other-item.result in
    let rest = drop (k + 1) c.args.others.now in
    let left : drop k c.args.others.now ≡ c.other-item.result ∷ rest = drop_read c.args.others.now k c.other-item.result (omega arith) c.other-item.is in
    let value : value_of c.whole-value.result ≡ divided v w =
    c.whole-value.ensures.whole
    ∙ ap whole_number
    (cast-back c.divided.result c.divided.ensures.fits ∙ c.divided.ensures.quotient
    ∙ ap (λ (z : ℤ). div_of z (to_z w128 (of_z w128 c.integer_of-in-loop-other.result))) (cast-back c.integer_of.result c.integer_of.ensures.fits ∙ c.integer_of.ensures.integer)
    ∙ ap (div_of (integer_of v)) (cast-back c.integer_of-in-loop-other.result c.integer_of-in-loop-other.ensures.fits ∙ c.integer_of-in-loop-other.ensures.integer)) in
    ap (λ (x : spec.Value). combined divided x (map value_of rest)) value ∙ ap (λ (l : List Value). combined divided v (map value_of l)) (sym left) ∙ c.loop-other.invariant
