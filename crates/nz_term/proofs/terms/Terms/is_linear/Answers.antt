-- What is listed at the number is known of its term.
use Rattle.std.proofs.Common.{length, ap, ◌∙◌, arith}
use Rattle.nz_spec.specs.terms.Linear.{is_linear}
use Rattle.nz_spec.specs.terms.Table.{term_in}
use Rattle.nz_term.specs.declared.facts.Fact.{Fact}
use Rattle.nz_term.proofs.Knowledge.{length-known, known}
use Rattle.nz_term.proofs.terms.Terms.is_linear.Goals as goal

pub is_linear-requires : goal.is_linear-requires
is_linear-requires c = record { within = omega (arith, ap length c.self.view_is, length-known c.self.inside.nodes c.self.inside.facts c.self.invariant) }

pub returns : goal.returns
returns c = record {
  linear =
      c.is_linear.ensures.linear
      ∙ ap (λ (f : Fact). f.is_linear) (known c.self.inside.nodes c.self.inside.facts c.self.invariant c.args.id)
      ∙ ap (λ l. is_linear (term_in l c.args.id)) c.self.view_is;
}
