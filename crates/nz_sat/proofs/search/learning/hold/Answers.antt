-- A clause more is held.
use Rattle.std.proofs.Common.{◌≡◌, ◌++◌, ◌∷◌, [], sym, subst, rules, All, Contains}
use Rattle.std.proofs.lemmas.List.Elements.{All-push}
use Rattle.nz_log.specs.declared.lits.Lit.{Lit}
use Rattle.nz_log.specs.Logs.{literals_at}
use Rattle.nz_sat.specs.declared.clauses.Held.{Held}
use Rattle.nz_sat.specs.Sats.{AreOn, learned_of}
use Rattle.nz_sat.proofs.search.learning.hold.Goals as goal

pub returns-clause-named : goal.returns-clause-named
returns-clause-named c atoms named on =
    let same : c.push.new.self.items ≡ c.args.held.now.items ++ learned_of c.args.log.now c.args.id c.args.glue ∷ [] = search rules in
    subst (AreOn c.args.log.now atoms) (sym same)
    (All-push (λ (h : Held). All (λ (l : Lit). Contains atoms l.atom) (literals_at c.args.log.now h.id)) c.args.held.now.items (learned_of c.args.log.now c.args.id c.args.glue) on named)
