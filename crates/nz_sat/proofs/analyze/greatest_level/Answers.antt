-- One literal more may be of a greater level.
use Rattle.std.proofs.Common.{◌≡◌, ◌+◌, max, List, [], ◌∷◌, ◌++◌, take, subst, sym, ap, ◌∙◌, arith}
use Rattle.std.proofs.lemmas.List.{take_more}
use Rattle.nz_log.specs.declared.lits.Lit.{Lit}
use Rattle.nz_sat.specs.Conflicts.{IsGreatest}
use Rattle.nz_sat.specs.Trails.{level_on}
use Rattle.nz_sat.proofs.LearnedClauses.{greater_of, greatest_grown}
use Rattle.nz_sat.proofs.analyze.greatest_level.Goals as goal

pub loop-literal-preserved : goal.loop-literal-preserved
loop-literal-preserved c =
    let es = c.args.trail.now.entries in
    let i = c.loop-literal.literal-index in
    let n = c.loop-literal.level in
    let l = c.literal-item.result in
    let before = take i c.args.literals.now in
    let more : take (i + 1) c.args.literals.now ≡ before ++ l ∷ [] = take_more c.args.literals.now i l (omega arith) ∙ ap (λ (m : Lit). before ++ m ∷ []) (sym c.literal-item.is) in
    let most : c.max-level.result ≡ max n (level_on es l.atom) = c.max-level.ensures ∙ greater_of n c.level_of.result ∙ ap (max n) (c.level_of.ensures.level ∙ ap (level_on es) c.atom.ensures.atom) in
    subst (λ (d : List Lit). IsGreatest es d c.max-level.result) (sym more) (greatest_grown es before n l c.loop-literal.invariant c.max-level.result most)
