use Rattle.std.proofs.Common.{◌≡◌, ◌∙◌, length, ap, subst, arith, rules}
use Rattle.nz_sort.specs.Live.{Standing}
use Rattle.nz_sort.specs.Changes.{DropsMany}
use Rattle.nz_sort.proofs.LevelChanges.{as_many_below, left_below, nothing_below}
use Rattle.nz_sort.proofs.live.Live.clear.Goals as goal

pub pop-requires : goal.pop-requires
pop-requires c =
    let kept : c.len-count.result ≡ length c.self.inside.below.items = search rules in
    let many = kept ∙ as_many_below c.self.inside.below.items c.args.self.now (ap (λ (st : Standing). st.below) c.self.view_is) in
    record { some = omega (arith, many) }

pub returns : goal.returns
returns c =
    let kept : c.len-count.result ≡ length c.self.inside.below.items = search rules in
    let many = kept ∙ as_many_below c.self.inside.below.items c.args.self.now (ap (λ (st : Standing). st.below) c.self.view_is) in
    let dropped = subst (λ n. DropsMany n c.args.self.now c.pop.new.self) many c.pop.ensures.dropped in
    let left = left_below (length c.args.self.now.below) c.args.self.now c.pop.new.self dropped in
    record {
      cleared = record {
        last = c.pop.new.self;
        dropped = dropped;
        names = c.begin_anew.ensures.names;
        top = c.begin_anew.ensures.top;
        below = c.begin_anew.ensures.below ∙ nothing_below c.pop.new.self.below (omega (arith, left));
        next = c.begin_anew.ensures.next;
      };
    }
