use Rattle.nz_reals.proofs.SearchStarts.{empty_restarts, over_grown, restarts_after, restarts_grown, restarts_more}
use Rattle.nz_reals.proofs.laws.theories_restart.Goals as goal

pub returns : goal.returns
returns c =
    let legal = c.legal_work_may_begin.ensures.begins in
    let stays = c.term_stays.ensures.stays in
    record {
      restart = record {
        empty = empty_restarts legal;
        after = restarts_after legal;
        more = restarts_more c.more_terms_may_begin.ensures.begins;
        over = λ t ns more. over_grown stays ns more t;
        grown = λ t ns more. restarts_grown stays ns more t;
      };
    }
