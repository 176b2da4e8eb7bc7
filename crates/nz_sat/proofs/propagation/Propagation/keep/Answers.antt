-- One key after the other.
use Rattle.std.proofs.Common.{◌≤◌, refl, ◌∙◌, rules}
use Rattle.nz_sat.proofs.Departures.{keeps_all, keeps_lists, keeps_more, keeps_none}
use Rattle.nz_sat.proofs.propagation.Propagation.keep.Goals as goal

pub loop-key-init : goal.loop-key-init
loop-key-init c = record { keeps = keeps_none c.args.part c.args.self.now c.keys-key.result c.keys-key.ensures.all; lone = refl }

pub keep_one-requires : goal.keep_one-requires
keep_one-requires c = record { listed = keeps_lists c.requires.listed c.loop-key.invariant.keeps }

pub loop-key-preserved : goal.loop-key-preserved
loop-key-preserved c =
    let before = c.loop-key.invariant in
    record { keeps = keeps_more c.args.part c.args.self.now c.loop-key.self c.keep_one.new.self c.loop-key.key before.keeps c.keep_one.ensures.keeps; lone = c.keep_one.ensures.lone ∙ before.lone }

pub returns : goal.returns
returns c =
    let before = c.loop-key.invariant in
    let first : c.loop-key.key ≤ 0 = search rules in
    record { keeps = keeps_all c.args.part c.args.self.now c.loop-key.self c.keep_lone.new.self c.loop-key.key first before.keeps before.lone c.keep_lone.ensures.rest c.keep_lone.ensures.lone }
