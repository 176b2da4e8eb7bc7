use Rattle.nz_command.specs.View.{view as written}
use Rattle.nz_sort.proofs.AssertionRules.{comes_asserted}
use Rattle.nz_sort.proofs.live.Live.assert_term.Goals as goal

pub returns : goal.returns
returns c =
    record {
      comes = comes_asserted c.term_stays.ensures.stays _ _ _ _ (written c.args.term.now) c.in_ok-id.id c.holds_integer.result c.in_ok-id.ensures.grows c.in_ok-id.ensures.companions
          c.in_ok-id.ensures.accepted c.holds_integer.ensures.holds c.in_ok-keep_assertion.ensures.kept;
    }
