use Rattle.std.proofs.Common.{Bool, ◌∙◌, ap, sym}
use Rattle.std.specs.Prelude.{if◌then◌else◌}
use Rattle.nz_fractions.proofs.Order.{lt-cmp}
use Rattle.nz_reals.proofs.model.lesser.Goals as goal

pub returns-then-lt : goal.returns-then-lt
returns-then-lt c = record { lesser = sym (ap (λ (t : Bool). if t then c.args.a else c.args.b) (lt-cmp c.args.a c.args.b ∙ sym c.if-lt.ensures)) }

pub returns-else-lt : goal.returns-else-lt
returns-else-lt c = record { lesser = sym (ap (λ (t : Bool). if t then c.args.a else c.args.b) (lt-cmp c.args.a c.args.b ∙ sym c.if-lt.ensures)) }
