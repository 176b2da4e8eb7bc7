-- Of those that were kept, the ones that stay are kept.
use Rattle.nz_sat.proofs.KeptClauses.{kept_lists, part_kept}
use Rattle.nz_sat.proofs.kept.Kept.keep.Goals as goal

pub keep-requires : goal.keep-requires
keep-requires c = record { listed = kept_lists c.requires.kept.0 c.args.held.now c.args.self.now c.requires.kept.1 }

pub returns : goal.returns
returns c = record { kept = λ s kept. part_kept s c.args.part c.args.held.now c.args.self.now c.keep.new.self c.count_of-self.result c.keep.ensures.keeps c.count_of-self.ensures.count kept }
