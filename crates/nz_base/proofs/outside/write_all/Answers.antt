use Rattle.std.proofs.Common.{◌∙◌, arith}
use Rattle.std.proofs.lemmas.Bool.Decides.{nat_tests}
use Rattle.std.proofs.lemmas.Grind.{common_steps}
use Rattle.nz_base.proofs.Bytes.{one_more_piece}
use Rattle.nz_base.proofs.outside.write_all.Goals as goal

pub pieces-preserved : goal.pieces-preserved
pieces-preserved g c =
    record {
      within = grind (arith, common_steps, c.in_ok-count.ensures.bound);
      added = one_more_piece _ _ _ c.args.bytes.now c.pieces.at c.in_ok-count.count c.pieces.invariant.added c.in_ok-count.ensures.bytes;
      told = c.in_ok-count.ensures.told ∙ c.pieces.invariant.told;
      no_fault = grind (arith, nat_tests, c.in_ok-count.ensures.counted, c.pieces.invariant.no_fault);
    }
