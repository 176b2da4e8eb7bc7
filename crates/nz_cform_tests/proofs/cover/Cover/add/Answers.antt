-- It is known what is covered.
use Rattle.std.proofs.Common.{◌≡◌, true, rules}
use Rattle.nz_cform.specs.Covering.{Covers}
use Rattle.nz_cform_tests.proofs.CutLogs.{known}
use Rattle.nz_cform_tests.proofs.cover.Cover.add.Goals as goal

pub add_term-requires-clause-covers : goal.add_term-requires-clause-covers
add_term-requires-clause-covers c =
    let is : c.self.inside.is_known ≡ true = search rules in
    known c.self.inside.is_known (Covers c.self.inside.terms c.self.inside.log c.self.inside.form) is c.self.invariant.covers
