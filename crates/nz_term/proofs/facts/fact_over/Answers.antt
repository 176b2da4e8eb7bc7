-- What is known by the three answers.
use Rattle.nz_term.specs.Heads.{head_of}
use Rattle.nz_term.proofs.Knowledge.{fact_is}
use Rattle.nz_term.proofs.facts.fact_over.Goals as goal

pub returns : goal.returns
returns c = record {
  fact = λ ts known.
      fact_is ts c.args.facts.now (head_of c.args.head) c.args.kids.now c.constant_over.result c.is_linear_over.result c.holds_integer_over.result known
      c.constant_over.ensures.constant c.is_linear_over.ensures.linear c.holds_integer_over.ensures.holds;
}
