-- Each term is an atom.
use Rattle.std.proofs.Common.{◌<◌, Contains, length, subst, sym, ap, ◌∙◌, arith}
use Rattle.nz_log.specs.declared.lits.Lit.{Lit}
use Rattle.nz_sat.specs.Numbers.{number_of}
use Rattle.nz_sat.proofs.AtomNumbers.{unnamed}
use Rattle.nz_sat.proofs.search.learning.by_numbers.Goals as goal

pub unreachable-requires : goal.unreachable-requires
unreachable-requires c =
    let i = c.loop-literal.literal-index in
    let l = c.literal-item.result in
    let inside : i < length c.args.literals.now = omega arith in
    unnamed c.args.atoms.now l.atom (subst (λ (m : Lit). Contains c.args.atoms.now m.atom) (sym c.literal-item.is) (c.requires.named i l inside)) (ap (number_of c.args.atoms.now) (sym c.atom.ensures.atom) ∙ sym c.in-None.ensures.number)
