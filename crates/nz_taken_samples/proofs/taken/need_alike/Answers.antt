use Rattle.std.proofs.Common.{arith, rules}
use Rattle.nz_spec.specs.terms.Table.{term_in}
use Rattle.nz_term.specs.Constants.{sort_of}
use Rattle.nz_taken_samples.proofs.TakenTerms.{alike}
use Rattle.nz_taken_samples.proofs.taken.need_alike.Goals as goal

pub returns : goal.returns
returns c =
    record {
      alike = alike (sort_of c.args.sort) c.args.least c.args.most (term_in c.args.terms.now) c.args.kids.now 0 (omega (arith, c.if-kids-least.false)) (omega (arith, c.if-most-kids.false))
          (λ i below. c.loop-i.invariant i 0 (search (rules, below)));
    }
