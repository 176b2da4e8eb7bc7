use Rattle.std.proofs.Common.{rules, decimal, unsigned_abs, ap, sym, ◌∙◌}
use Rattle.std.specs.Int.{w128}
use Rattle.std.proofs.lemmas.Int.{to_z-of_z}
use Rattle.nz_reply.proofs.TextPieces.{written_as}
use Rattle.nz_reply.proofs.number.SizeSpell.write.Goals as goal

pub returns : goal.returns
returns g c =
    record { written = written_as (sym (ap decimal (c.unsigned_abs.ensures.value ∙ ap unsigned_abs (to_z-of_z w128 c.num.result (search rules) ∙ c.num.ensures.numerator)))) c.write.ensures.written }
