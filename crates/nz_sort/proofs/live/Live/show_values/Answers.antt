use Rattle.std.proofs.Common.{map, refl}
use Rattle.nz_command.specs.Requests.{question_view}
use Rattle.nz_sort.proofs.AskedValues.{comes_values}
use Rattle.nz_sort.proofs.live.Live.show_values.Goals as goal

pub returns : goal.returns
returns c =
    record {
      comes = comes_values c.term_stays.ensures.stays c.args.terms.now c.values.new.terms c.args.self.now (map question_view c.args.questions.now) c.in_ok-values.values.items _ refl
          c.in_ok-values.ensures.grows c.in_ok-values.ensures.companions c.in_ok-values.ensures.accepted;
    }
