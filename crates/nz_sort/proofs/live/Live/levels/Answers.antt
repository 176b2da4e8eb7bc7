use Rattle.std.proofs.Common.{◌≡◌, ◌∙◌, length, ap, rules}
use Rattle.nz_sort.specs.Live.{Standing}
use Rattle.nz_sort.proofs.LevelChanges.{as_many_below, levels_pushed}
use Rattle.nz_sort.proofs.live.Live.levels.Goals as goal

pub returns-clause-levels : goal.returns-clause-levels
returns-clause-levels c = λ ns s live.
    let kept : c.len.result ≡ length c.self.inside.below.items = search rules in
    let many = kept ∙ as_many_below c.self.inside.below.items c.args.self.now (ap (λ (st : Standing). st.below) c.self.view_is) in
    many ∙ levels_pushed ns c.args.self.now s live
