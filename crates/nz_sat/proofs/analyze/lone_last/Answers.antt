-- Each literal that is looked at, by its level.
use Rattle.std.proofs.Common.{◌≡◌, ◌≢◌, ◌+◌, true, false, List, [], ◌∷◌, ◌++◌, take, Contains, Option, Some, None, sym, ap, subst, ◌∙◌, arith, rules}
use Rattle.std.proofs.lemmas.List.{take_all, take_more}
use Rattle.std.proofs.lemmas.List.Elements.{Contains-get_or}
use Rattle.nz_log.specs.declared.lits.Lit.{Lit}
use Rattle.nz_log.specs.Lits.{are_same_lit}
use Rattle.nz_sat.specs.Trails.{depth, level_on}
use Rattle.nz_sat.proofs.Clausal.{other_lit}
use Rattle.nz_sat.proofs.LearnedClauses.{IsLone, lone_again, lone_end, lone_first, lone_low, lone_other}
use Rattle.nz_sat.proofs.analyze.lone_last.Goals as goal
use Rattle.nz_sat.proofs.analyze.lone_last.Goals.{then-level_of-last+in-Some+else-not-is, then-level_of-last+in-None, else-level_of-last}

pub returns-then-not-is : goal.returns-then-not-is
returns-then-not-is c =
    let es = c.args.trail.now.entries in
    let cs = c.args.literals.now in
    let i = c.loop-literal.literal-index in
    let lit = c.literal-item.result in
    let other = c.in-Some.other in
    let lone : IsLone es (take i cs) (Some other) = subst (IsLone es (take i cs)) c.in-Some.is c.loop-literal.invariant in
    let differ : are_same_lit other lit ≡ false = search rules in
    let last : level_on es lit.atom ≡ depth es = sym (c.level_of.ensures.level ∙ ap (level_on es) c.atom.ensures.atom) ∙ c.if-level_of-last.true ∙ c.level-last.ensures.level in
    record { lone = lone_other es cs i other lit lone (subst (Contains cs) (sym c.literal-item.is) (Contains-get_or cs i lit (omega arith))) last (other_lit c.tells_lits.ensures.tells other lit differ) }

pub loop-literal-preserved : goal.loop-literal-preserved
loop-literal-preserved c =
    let es = c.args.trail.now.entries in
    let cs = c.args.literals.now in
    let i = c.loop-literal.literal-index in
    let lit = c.literal-item.result in
    let before = take i cs in
    let more : take (i + 1) cs ≡ before ++ lit ∷ [] = take_more cs i lit (omega arith) ∙ ap (λ (m : Lit). before ++ m ∷ []) (sym c.literal-item.is) in
    let P : Option Lit → Type 0 = IsLone es (before ++ lit ∷ []) in
    subst (λ (d : List Lit). IsLone es d c.if-level_of-last.lone) (sym more)
    (elim c.if-level_of-last.branch [
      | then-level_of-last+in-Some+else-not-is w ↦
          let other = w.in-Some.other in
          let lone : IsLone es before (Some other) = subst (IsLone es before) w.in-Some.is c.loop-literal.invariant in
          let same : are_same_lit other lit ≡ true = search rules in
          subst P (sym w.lone-is) (lone_again es before lit other (c.tells_lits.ensures.tells.same other lit same) lone)
      | then-level_of-last+in-None w ↦
          let lone : IsLone es before None = subst (IsLone es before) w.in-None.is c.loop-literal.invariant in
          let last : level_on es lit.atom ≡ depth es = sym (c.level_of.ensures.level ∙ ap (level_on es) c.atom.ensures.atom) ∙ w.if-level_of-last.true ∙ c.level-last.ensures.level in
          subst P (sym w.lone-is) (lone_first es before lit last lone)
      | else-level_of-last w ↦
          let low : level_on es lit.atom ≢ depth es = λ last. w.if-level_of-last.false (c.level_of.ensures.level ∙ ap (level_on es) c.atom.ensures.atom ∙ last ∙ sym c.level-last.ensures.level) in
          subst P (sym w.lone-is) (lone_low es before lit c.loop-literal.lone low c.loop-literal.invariant)
    ])

pub returns : goal.returns
returns c =
    let es = c.args.trail.now.entries in
    let cs = c.args.literals.now in
    let whole = take_all c.loop-literal.literal-index cs (omega arith) in
    record { lone = lone_end es cs c.loop-literal.lone c.requires.last (subst (λ (d : List Lit). IsLone es d c.loop-literal.lone) whole c.loop-literal.invariant) }
