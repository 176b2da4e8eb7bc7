use Rattle.nz_cform_tests.proofs.CutLogs.{cover_cut}
use Rattle.nz_cform_tests.proofs.cover.Cover.cut.Goals as goal

pub invariant_of-self : goal.invariant_of-self
invariant_of-self c =
    cover_cut c.covers_stay.ensures.stay c.self.inside.terms c.self.inside.log c.drop_above.new.self c.self.inside.form c.cut.new.self c.args.level c.self.inside.level
    c.drop_above.ensures.drops c.cut.ensures.cuts c.self.inside.is_known c.self.invariant
