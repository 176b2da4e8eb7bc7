use Rattle.std.proofs.Common.{map}
use Rattle.nz_command.specs.Requests.{sort_view}
use Rattle.nz_term.specs.Constants.{sort_of}
use Rattle.nz_sort.proofs.DeclarationRules.{comes_declared}
use Rattle.nz_sort.proofs.live.Live.declare.Goals as goal

pub returns : goal.returns
returns c =
    record {
      comes = comes_declared c.term_stays.ensures.stays c.args.terms.now c.add_constant.new.terms c.args.self.now c.add_constant.new.self c.args.name.now (map sort_view c.args.sorts.now) (sort_view c.args.sort.now)
          (sort_of c.in_ok-sort.sort) (λ s live. c.in_ok-sort.ensures.accepted c.args.terms.now s live) c.in_ok-sort.ensures.fresh c.in_ok-add_constant.ensures.added c.in_ok-add_constant.ensures.kept;
    }
