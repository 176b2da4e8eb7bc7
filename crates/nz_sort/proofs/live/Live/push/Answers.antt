use Rattle.std.proofs.Common.{◌∙◌, sym, ap}
use Rattle.nz_sort.specs.Live.{standing_of}
use Rattle.nz_sort.specs.Changes.{with_levels}
use Rattle.nz_sort.proofs.live.Live.push.Goals as goal

pub returns-clause-pushed : goal.returns-clause-pushed
returns-clause-pushed c =
    let self = c.self.inside in
    c.begin_levels.ensures.begun self.names self.next (sym c.count-names_before.ensures.count)
    ∙ ap (λ ls. with_levels c.args.count (standing_of self.names self.top ls self.next)) c.in_ok-reserve.ensures.items
    ∙ ap (with_levels c.args.count) c.self.view_is
