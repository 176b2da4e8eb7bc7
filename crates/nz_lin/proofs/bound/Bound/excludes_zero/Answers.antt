-- One test, and then the other.
use Rattle.std.proofs.Common.{refl, sym, ◌∙◌}
use Rattle.nz_lin.proofs.BoundSides.{excluded}
use Rattle.nz_lin.proofs.bound.Bound.excludes_zero.Goals as goal

pub returns-then-lt : goal.returns-then-lt
returns-then-lt c = record {
  excludes =
      excluded c.args.self.now.strict c.offset-limit.ensures.offset c.whole.ensures (sym c.if-lt.true ∙ c.lt.ensures) refl c.if-lt.true;
}

pub returns-then-is_zero : goal.returns-then-is_zero
returns-then-is_zero c = record {
  excludes =
      excluded c.args.self.now.strict c.offset-limit.ensures.offset c.whole.ensures (sym c.if-lt.false ∙ c.lt.ensures)
      (sym c.if-is_zero.true ∙ c.is_zero.ensures.zero) refl;
}

pub returns-else-is_zero : goal.returns-else-is_zero
returns-else-is_zero c = record {
  excludes =
      excluded c.args.self.now.strict c.offset-limit.ensures.offset c.whole.ensures (sym c.if-lt.false ∙ c.lt.ensures)
      (sym c.if-is_zero.false ∙ c.is_zero.ensures.zero) c.if-is_zero.false;
}
