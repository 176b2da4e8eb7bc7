-- Without a link the clause itself refutes, and else the last of the chain.
use Rattle.std.proofs.Common.{◌≡◌, List, length, subst, sym, rules, All}
use Rattle.std.proofs.lemmas.List.{nil_from_length}
use Rattle.nz_log.specs.declared.origins.Link.{Link}
use Rattle.nz_log.specs.Atoms.{IsLitIn}
use Rattle.nz_log.specs.Logs.{chained, literals_at}
use Rattle.nz_sat.specs.Conflicts.{RefutesFrom}
use Rattle.nz_sat.proofs.LearnedClauses.{links_within}
use Rattle.nz_sat.proofs.analyze.refutation.Goals as goal

pub returns-then-is_empty-clause-refutes : goal.returns-then-is_empty-clause-refutes
returns-then-is_empty-clause-refutes c =
    let s = c.args.log.now in
    let es = c.args.trail.now.entries in
    let none : length c.in_ok-links.links.items ≡ 0 = search rules in
    subst (λ (ks : List Link). RefutesFrom es (literals_at s c.args.falsified) (chained s (literals_at s c.args.falsified) ks)) (nil_from_length c.in_ok-links.links.items none)
    c.in_ok-links.ensures.refutes

pub returns-clause-sound : goal.returns-clause-sound
returns-clause-sound c ns levels within order =
    c.chain.ensures.sound ns levels
    (subst (λ (ks : List Link). All (λ (k : Link). IsLitIn ns c.args.log.now.atoms k.literal) ks) (sym c.deref.ensures.value)
    (links_within c.args.log.now c.args.trail.now.entries ns c.args.log.now.atoms c.in_ok-links.links.items within c.in_ok-links.ensures.links))
    order
