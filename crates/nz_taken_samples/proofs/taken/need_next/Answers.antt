-- The term is its head over its arguments.
use Rattle.std.proofs.Common.{rules}
use Rattle.std.specs.Prelude.{IsTrue}
use Rattle.nz_spec.specs.terms.Linear.{is_linear}
use Rattle.nz_spec.specs.terms.Table.{term_in}
use Rattle.nz_term.specs.Heads.{head_of}
use Rattle.nz_taken_samples.proofs.TakenTerms.{next_taken}
use Rattle.nz_taken_samples.proofs.taken.need_next.Goals as goal

pub returns : goal.returns
returns c =
    let linear : IsTrue (is_linear (term_in c.args.terms.now c.args.id)) = search rules in
    record {
      next = λ before.
          next_taken c.args.terms.now c.args.id before (head_of c.node-node.result.head) c.node-node.result.kids.now c.node-node.ensures.term c.node-node.ensures.before
          c.in_ok-need_row.ensures.row linear;
    }
