-- What is listed at the number is known of its term.
use Rattle.std.proofs.Common.{length, ap, ◌∙◌, arith}
use Rattle.nz_spec.specs.terms.Linear.{constant_value}
use Rattle.nz_spec.specs.terms.Table.{term_in}
use Rattle.nz_term.specs.declared.facts.Fact.{Fact}
use Rattle.nz_term.proofs.Knowledge.{length-known, known}
use Rattle.nz_term.proofs.terms.Terms.constant.Goals as goal

pub constant-requires : goal.constant-requires
constant-requires c = record { within = omega (arith, ap length c.self.view_is, length-known c.self.inside.nodes c.self.inside.facts c.self.invariant) }

pub returns : goal.returns
returns c = record {
  constant =
      c.constant.ensures.constant
      ∙ ap (λ (f : Fact). f.constant) (known c.self.inside.nodes c.self.inside.facts c.self.invariant c.args.id)
      ∙ ap (λ l. constant_value (term_in l c.args.id)) c.self.view_is;
}
