use Rattle.std.proofs.Common.{option_map, ap, sym, ◌∙◌}
use Rattle.nz_command.proofs.Members.{each_next, each_none, each_end}
use Rattle.nz_command.proofs.parts.all_parts.Goals as goal

pub loop-tree-preserved : goal.loop-tree-preserved
loop-tree-preserved g c =
    let part = g.P.Part in
    each_next part.meant_by part.meaning c.args.list.now c.loop-tree.tree-index c.tree-item.result c.loop-tree.parts.items c.push.new.self.items c.in-Some.part c.loop-tree-test.true c.tree-item.is
    (ap (option_map part.meaning) (sym c.in-Some.is) ∙ c.in_ok-part.ensures.parsed) c.in_ok-push-in-Some.ensures.items c.loop-tree.invariant

pub returns-in-None : goal.returns-in-None
returns-in-None g c =
    let part = g.P.Part in
    record {
      parsed = each_none part.meant_by part.meaning c.args.list.now c.loop-tree.tree-index c.tree-item.result c.loop-tree.parts.items c.loop-tree-test.true c.tree-item.is
          (ap (option_map part.meaning) (sym c.in-None.is) ∙ c.in_ok-part.ensures.parsed) c.loop-tree.invariant;
    }

pub returns : goal.returns
returns g c = record { parsed = each_end g.P.Part.meant_by g.P.Part.meaning c.args.list.now c.loop-tree.tree-index c.loop-tree.parts.items c.loop-tree-test.false c.loop-tree.invariant }
