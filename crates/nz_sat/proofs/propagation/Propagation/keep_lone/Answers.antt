-- What the closure tests.
use Rattle.std.proofs.Common.{rules}
use Rattle.nz_sat.specs.declared.clauses.Held.{Held}
use Rattle.nz_sat.specs.Sats.{is_in}
use Rattle.nz_sat.proofs.Retaining.{retained}
use Rattle.nz_sat.proofs.propagation.Propagation.keep_lone.Goals as goal

pub returns-clause-lone : goal.returns-clause-lone
returns-clause-lone c =
    retained _ (λ (h : Held). is_in c.args.part h) _ (λ x b f k. (search rules, search rules)) c.args.self.now.lone.items c.retain.new.self.items c.retain.ensures.filtered
