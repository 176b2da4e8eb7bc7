use Rattle.std.proofs.Common.{◌≡◌, ◌==◌, false, get_or, arith}
use Rattle.std.proofs.lemmas.Bool.Decides.{nat_tests}
use Rattle.nz_reply.proofs.Quotes.{run_ends, run_last, run_on}
use Rattle.nz_reply.proofs.TextPieces.{cut_off, left_as, rest_written, written_as, written_on}
use Rattle.nz_reply.proofs.symbol.QuotedSpell.write.Goals.{then-text-index-eq34+in_ok-write, else-text-index-eq34}
use Rattle.nz_reply.proofs.symbol.QuotedSpell.write.Goals as goal

pub returns-in_err-write : goal.returns-in_err-write
returns-in_err-write g c =
    record {
      written =
          rest_written c.loop-index.invariant.written
          (cut_off _ (run_ends c.args.self.now.0.now c.loop-index.start c.loop-index.index 0 c.loop-index.invariant.before c.loop-index-test.true c.if-text-index-eq34.true)
          c.in_err-write.ensures.written c.from_residual.ensures.0);
    }

pub loop-index-preserved : goal.loop-index-preserved
loop-index-preserved g c =
    elim c.if-text-index-eq34.branch [
      | then-text-index-eq34+in_ok-write w ↦
          record {
            before = omega (arith, w.start-is);
            written =
                rw (w.sink-is, w.start-is)
                (written_on c.loop-index.invariant.written
                (run_ends c.args.self.now.0.now c.loop-index.start c.loop-index.index 0 c.loop-index.invariant.before c.loop-index-test.true w.if-text-index-eq34.true)
                w.in_ok-write.ensures.written);
          }
      | else-text-index-eq34 w ↦
          let plain : (get_or c.args.self.now.0.now c.loop-index.index 0 == 34) ≡ false = grind (arith, nat_tests, w.if-text-index-eq34.false) in
          record {
            before = omega (arith, w.start-is);
            written =
                rw (w.sink-is, w.start-is)
                (left_as
                (run_on c.args.self.now.0.now c.loop-index.start c.loop-index.index 0 c.loop-index.invariant.before c.loop-index-test.true plain) c.loop-index.invariant.written);
          }
    ]

pub returns : goal.returns
returns g c =
    record {
      written = rest_written c.loop-index.invariant.written (written_as (run_last c.args.self.now.0.now c.loop-index.start c.loop-index.index c.loop-index-test.false) c.write-2.ensures.written);
    }
