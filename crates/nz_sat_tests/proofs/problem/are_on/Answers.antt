use Rattle.std.proofs.Common.{◌≡◌, ℕ, ◌<◌, true, length, get_or, ap, subst, ◌∙◌}
use Rattle.std.specs.Prelude.{◌==◌}
use Rattle.nz_log.specs.declared.lits.Lit.{Lit}
use Rattle.nz_sat_tests.proofs.ConsistentLiterals.{one_on}
use Rattle.nz_sat_tests.proofs.problem.are_on.Goals as goal

pub loop-i-preserved : goal.loop-i-preserved
loop-i-preserved c =
    let atoms = c.args.atoms.now in
    let l = c.index-literals-i.result in
    let is = c.atom.ensures.atom ∙ ap (λ (m : Lit). m.atom) c.index-literals-i.is in
    one_on atoms c.args.literals.now c.loop-i.i l c.loop-i-test.true
    (subst (λ (t : ℕ). (k : ℕ) × (k < length atoms) × ((d : ℕ) → ((get_or atoms k d) == t) ≡ true)) is c.if-not-contains.ensures.cases) c.loop-i.invariant
