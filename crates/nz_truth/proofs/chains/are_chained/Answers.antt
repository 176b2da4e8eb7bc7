-- Behind the last pair nothing is left to compare.
use Rattle.std.proofs.Common.{sym, ◌∙◌, arith}
use Rattle.nz_truth.specs.Relations.{relation_of}
use Rattle.nz_truth.proofs.Comparisons.{end_of_chain}
use Rattle.nz_truth.proofs.chains.are_chained.Goals as goal

pub returns : goal.returns
returns c = record {
  chained = sym (end_of_chain (relation_of c.args.relation) c.args.args.now c.loop-i.i (omega (arith, c.saturating_sub-i-end.ensures))) ∙ c.loop-i.invariant;
}
