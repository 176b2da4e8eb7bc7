-- Each sum that joins is exchanged once at most.
use Rattle.nz_reals.proofs.SumCounts.{one_counted, still_counted}
use Rattle.nz_reals.proofs.reals.Reals.follow.Goals as goal

pub loop-exchanged-preserved : goal.loop-exchanged-preserved
loop-exchanged-preserved c = record {
  arranged = c.exchange_joined.ensures.arranged;
  counted =
      one_counted c.loop-exchanged.self c.exchange_joined.new.self c.loop-exchanged.exchanges c.counted-exchanges.result c.in_ok-is_exchanged.is_exchanged c.counted-exchanges.ensures.counted c.loop-exchanged.invariant.counted
      c.in_ok-is_exchanged.ensures.one;
}

pub loop-place-preserved : goal.loop-place-preserved
loop-place-preserved c = record {
  arranged = c.stand_at.ensures.arranged;
  counted = still_counted c.loop-place.self c.stand_at.new.self _ c.loop-place.invariant.counted c.stand_at.ensures.kept;
}
