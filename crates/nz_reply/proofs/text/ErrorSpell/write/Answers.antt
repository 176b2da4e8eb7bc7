use Rattle.std.proofs.Common.{ℕ, List, ◌++◌, codes, decimal, ap, sym, ◌∙◌}
use Rattle.nz_reply.proofs.TextPieces.{written_as}
use Rattle.nz_reply.proofs.text.ErrorSpell.write.Goals as goal

-- the line of this number and these words
abbrev line : List ℕ → List ℕ → List ℕ
line digits words = codes "(error \"" ++ digits ++ codes " " ++ words ++ codes "\")"

pub returns : goal.returns
returns g c =
    record { written = written_as (sym (ap (λ d. line d c.text.result.now) (ap decimal c.number.ensures.number) ∙ ap (line _) c.text.ensures.text)) c.write.ensures.written }
