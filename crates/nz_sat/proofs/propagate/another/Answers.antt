-- One literal more was looked at.
use Rattle.std.proofs.Common.{◌≡◌, ◌<◌, Bool, true, false, List, [], ◌∷◌, ◌++◌, length, take, Option, Some, inl, inr, sym, ap, subst, ◌∙◌, arith, rules, Contains}
use Rattle.std.proofs.lemmas.List.{take_all, take_more}
use Rattle.std.proofs.lemmas.List.Elements.{Contains-push_cases}
use Rattle.nz_log.specs.declared.lits.Lit.{Lit}
use Rattle.nz_log.specs.Lits.{are_same_lit}
use Rattle.nz_sat.specs.Trails.{HasValue, IsFalseOn}
use Rattle.nz_sat.proofs.propagate.another.Goals as goal
use Rattle.nz_sat.proofs.propagate.another.Goals.{else-not-is-via-then-not-is+else-ne, else-not-is-via-else-not-is}

pub loop-literal-preserved : goal.loop-literal-preserved
loop-literal-preserved c m has other =
    let es = c.args.trail.now.entries in
    let cs = c.args.literals.now in
    let i = c.loop-literal.literal-index in
    let lit = c.literal-item.result in
    let inside : i < length cs = omega arith in
    elim (Contains-push_cases (take i cs) lit m (subst (λ (xs : List Lit). Contains xs m) (take_more cs i lit inside ∙ ap (λ (k : Lit). take i cs ++ k ∷ []) (sym c.literal-item.is)) has)) [
      | inl old ↦ c.loop-literal.invariant m old other
      | inr here ↦
          subst (IsFalseOn es) here
          (elim c.else-not-is.branch [
            | else-not-is-via-then-not-is+else-ne w ↦
                let fails : w.value.result ≡ Some false = search rules in
                let V : Option Bool → Type 0 = λ o. HasValue es lit o in subst V fails w.value.ensures.value
            | else-not-is-via-else-not-is w ↦
                let same : are_same_lit lit c.args.but ≡ true = search rules in
                absurd (other (sym here ∙ c.tells_lits.ensures.tells.same lit c.args.but same))
          ])
    ]

pub returns-clause-none : goal.returns-clause-none
returns-clause-none c m has =
    let cs = c.args.literals.now in
    c.loop-literal.invariant m (subst (λ (xs : List Lit). Contains xs m) (sym (take_all c.loop-literal.literal-index cs (omega arith))) has)
