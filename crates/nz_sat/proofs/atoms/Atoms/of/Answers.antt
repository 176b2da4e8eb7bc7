-- One atom more.
use Rattle.std.proofs.Common.{ℕ, ◌++◌, ◌∷◌, [], List, get_or, sym, ap, ◌∙◌, arith}
use Rattle.std.proofs.lemmas.List.{take_all, take_more}
use Rattle.nz_sat.proofs.atoms.Atoms.of.Goals as goal

pub loop-id-init : goal.loop-id-init
loop-id-init c = c.none-atoms.ensures.none

pub loop-id-preserved : goal.loop-id-preserved
loop-id-preserved c =
    let us = c.args.ids.now in
    let i = c.loop-id.id-index in
    c.in_ok-name.ensures.named ∙ ap (λ (xs : List ℕ). xs ++ get_or us i 0 ∷ []) c.loop-id.invariant ∙ sym (take_more us i 0 (omega arith))

pub returns : goal.returns
returns c = record { atoms = c.loop-id.invariant ∙ take_all c.loop-id.id-index c.args.ids.now (omega (arith, c.loop-id-test.false)) }
