-- What is left of what was told are the bounds that are left of the trail.
use Rattle.std.proofs.Common.{◌≡◌, ℕ, ◌-◌, length, take, ap, subst, ◌∙◌, arith}
use Rattle.std.proofs.lemmas.List.{length-map}
use Rattle.nz_log.specs.declared.lits.Lit.{Lit}
use Rattle.nz_sat.specs.declared.trail.Assigned.{Assigned}
use Rattle.nz_sat.specs.Theories.{told_lits, told_on}
use Rattle.nz_sat.proofs.SearchSteps.{told_taken}
use Rattle.nz_sat.proofs.search.Search.cut.Goals as goal

pub returns-clause-told : goal.returns-clause-told
returns-clause-told g c =
    let s = c.args.self.now in
    let new = c.jump-untold.new.self in
    let literal : Assigned → Lit = λ e. e.literal in
    let ls = told_lits s.bounds s.trail.entries in
    let left = told_lits new.bounds new.trail.entries in
    let mark = c.mark.ensures.count ls c.requires.told in
    let untold = c.jump-untold.ensures.untold in
    let long = length-map (told_on s.bounds s.trail.entries) literal in
    let short = length-map (told_on new.bounds new.trail.entries) literal in
    let same : c.mark.result - c.jump-untold.result ≡ length left = omega (arith, mark, untold, long, short) in
    subst (g.T.Theory.has_told c.undo.new.self)
    (ap (λ (n : ℕ). take n ls) same ∙ told_taken s.bounds new.bounds s.trail.entries new.trail.entries c.jump-untold.ensures.front c.jump-untold.ensures.bounds)
    (c.undo.ensures.told ls c.requires.told (omega (arith, same, mark, untold, long, short)))
