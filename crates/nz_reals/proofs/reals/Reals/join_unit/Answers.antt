use Rattle.std.proofs.Common.{inr, refl}
use Rattle.nz_tab.specs.Units.{unit_of}
use Rattle.nz_reals.proofs.Arranged.{arranged_more, may_add_unit}
use Rattle.nz_reals.proofs.SumCounts.{joined_keeps}
use Rattle.nz_reals.proofs.reals.Reals.join_unit.Goals as goal

pub add_unit-requires : goal.add_unit-requires
add_unit-requires c = record {
  may = may_add_unit c.args.log.now.atoms c.args.atoms.now c.requires.may c.in-Some.bound.now c.in-Some.ensures.among c.args.self.now c.requires.arranged c.in-Some-part_at.part c.in-Some-part_at.ensures.part;
}

pub returns : goal.returns
returns c =
    let p = c.in-Some-part_at.part in
    record {
      arranged = arranged_more c.args.log.now.atoms c.args.atoms.now c.requires.may c.in-Some.bound.now c.in-Some.ensures.among (unit_of p) (inr (p, c.in-Some-part_at.ensures.part, refl)) c.args.self.now c.add_unit.new.self
          c.requires.arranged c.add_unit.ensures.joined;
      kept = joined_keeps c.args.self.now c.add_unit.new.self (unit_of p) c.add_unit.ensures.joined;
    }
