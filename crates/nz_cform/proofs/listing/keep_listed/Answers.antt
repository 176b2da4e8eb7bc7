-- The closure tests, and stays as it was.
use Rattle.std.proofs.Common.{rules, is_some, slice_index_or, None}
use Rattle.std.proofs.lemmas.Fn.{filter_same}
use Rattle.nz_cform.proofs.listing.keep_listed.Goals as goal

pub returns : goal.returns
returns c =
    record {
      kept = filter_same _ (λ i. is_some (slice_index_or c.args.levels.now i None)) _ (λ i b f k. search rules) _ _ c.retain.ensures.filtered;
    }
