-- What is listed at the number is known of its term.
use Rattle.std.proofs.Common.{length, ap, ◌∙◌, arith}
use Rattle.nz_spec.specs.terms.Term.{holds_integer}
use Rattle.nz_spec.specs.terms.Table.{term_in}
use Rattle.nz_term.specs.declared.facts.Fact.{Fact}
use Rattle.nz_term.proofs.Knowledge.{length-known, known}
use Rattle.nz_term.proofs.terms.Terms.holds_integer.Goals as goal

pub holds_integer-requires : goal.holds_integer-requires
holds_integer-requires c = record { within = omega (arith, ap length c.self.view_is, length-known c.self.inside.nodes c.self.inside.facts c.self.invariant) }

pub returns : goal.returns
returns c = record {
  holds =
      c.holds_integer.ensures.holds
      ∙ ap (λ (f : Fact). f.holds_integer) (known c.self.inside.nodes c.self.inside.facts c.self.invariant c.args.id)
      ∙ ap (λ l. holds_integer (term_in l c.args.id)) c.self.view_is;
}
