-- What is known of the terms in front.
use Rattle.std.proofs.Common.{nat_eq, take, ap, ◌∙◌}
use Rattle.std.specs.HashMap.{get}
use Rattle.nz_term.specs.Marks.{facts_by}
use Rattle.nz_term.proofs.FactMarks.{cut}
use Rattle.nz_term.proofs.fact_table.Facts.truncate.Goals as goal

pub returns : goal.returns
returns c =
    let f = get nat_eq c.self.inside.values in
    record {
      front = ap (facts_by f 0) c.truncate.ensures.items ∙ cut f 0 c.args.len c.self.inside.marks.items ∙ ap (take c.args.len) c.self.view_is;
    }
