-- What has no mark isn't there.
use Rattle.std.proofs.Common.{ap, ◌∙◌}
use Rattle.nz_spec.specs.clauses.Literal.{without}
use Rattle.nz_log.specs.Lits.{are_same_lit}
use Rattle.nz_log.specs.Marked.{has_mark}
use Rattle.nz_log.proofs.LastMarked.{last_without}
use Rattle.nz_log.proofs.resolvent.Resolvent.remove.Goals as goal

pub returns : goal.returns
returns c =
    record {
      removed =
          last_without (has_mark c.self.inside.marks) (has_mark c.unmark.new.self) c.args.on c.unmark.ensures.unmarked c.self.inside.came.items
          ∙ ap (without are_same_lit c.args.on) c.self.view_is;
    }
