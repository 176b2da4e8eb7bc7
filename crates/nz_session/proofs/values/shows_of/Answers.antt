use Rattle.std.proofs.lemmas.Slice.Zip.{either_empty_from_Zip}
use Rattle.std.specs.Iterator.Adapters.{zip_first, zip_second}
use Rattle.std.specs.Slice.Iter.{iter_rest}
use Rattle.nz_session.specs.Valued.{outcomes_shown}
use Rattle.nz_session.proofs.TermValues.{told_end}
use Rattle.nz_session.proofs.values.shows_of.Goals as goal

pub returns : goal.returns
returns c =
    let left = c.loop-typed.typed-iterator in
    record {
      shows = told_end (iter_rest (zip_first left)) (iter_rest (zip_second left)) c.loop-typed.shows (outcomes_shown c.args.asked.now c.args.found.now)
          (either_empty_from_Zip left c.next.new.self c.next.result c.in-None.is c.next.ensures.steps) c.loop-typed.invariant;
    }
