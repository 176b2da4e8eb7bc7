-- One literal more is the one left out, or may be of a greater level.
use Rattle.std.proofs.Common.{◌≡◌, ◌≢◌, ℕ, ◌<◌, ◌≤◌, ◌+◌, ◌⊎◌, inl, inr, false, not, List, [], ◌∷◌, ◌++◌, take, subst, subst₂, sym, ap, ◌∙◌, true≢false, arith}
use Rattle.std.specs.Prelude.{is_some}
use Rattle.std.proofs.lemmas.List.{take_all, take_more}
use Rattle.nz_log.specs.declared.lits.Lit.{Lit}
use Rattle.nz_log.specs.Lits.{are_same_lit}
use Rattle.nz_sat.specs.Trails.{level_on}
use Rattle.nz_sat.proofs.LearnedClauses.{IsDeepest, deepest_less, deepest_more, deepest_same, deepest_told}
use Rattle.nz_sat.proofs.analyze.deepest_but.Goals as goal
use Rattle.nz_sat.proofs.analyze.deepest_but.Goals.{then-not-is+then-level-own, else-not-is, else-not-is-via-then-not-is+else-level-own, else-not-is-via-else-not-is}

pub loop-literal-preserved : goal.loop-literal-preserved
loop-literal-preserved c =
    let es = c.args.trail.now.entries in
    let but = c.args.but in
    let i = c.loop-literal.literal-index in
    let n = c.loop-literal.level in
    let o = c.loop-literal.deepest in
    let l = c.literal-item.result in
    let k = c.level_of-own.result in
    let own : k ≡ level_on es l.atom = c.level_of-own.ensures.level ∙ ap (level_on es) c.atom.ensures.atom in
    let before = take i c.args.literals.now in
    let more : take (i + 1) c.args.literals.now ≡ before ++ l ∷ [] = take_more c.args.literals.now i l (omega arith) ∙ ap (λ (m : Lit). before ++ m ∷ []) (sym c.literal-item.is) in
    subst (λ (d : List Lit). IsDeepest es but d c.if-not-is.deepest c.if-not-is.level) (sym more)
    (elim c.if-not-is.branch [
      | then-not-is+then-level-own w ↦
          let other : l ≢ but = λ same. true≢false (sym (ap (are_same_lit l) (sym same) ∙ c.tells_lits.ensures.tells.one l) ∙ sym c.is.ensures.same ∙ w.if-not-is.true) in
          let first : (is_some o ≡ false) ⊎ (n < k) =
          elim w.if-level-own.either [ inl none ↦ inl (w.is_none.ensures ∙ ap not none) | inr more ↦ inr more.1 ] in
          subst₂ (IsDeepest es but (before ++ l ∷ [])) (sym w.deepest-is) (sym w.level-is) (deepest_more es but before l o n k other first own c.loop-literal.invariant)
      | else-not-is w ↦
          subst₂ (IsDeepest es but (before ++ l ∷ [])) (sym w.deepest-is) (sym w.level-is)
          (elim w.else-not-is.branch [
            | else-not-is-via-then-not-is+else-level-own v ↦
                let less = v.if-level-own.false in
                deepest_less es but before l o n (v.is_none.ensures ∙ ap not less.0) (subst (λ (m : ℕ). m ≤ n) own less.1) c.loop-literal.invariant
            | else-not-is-via-else-not-is v ↦
                deepest_same es but before l o n (c.tells_lits.ensures.tells.same l but (sym c.is.ensures.same ∙ v.if-not-is.false)) c.loop-literal.invariant
          ])
    ])

pub returns : goal.returns
returns c =
    let es = c.args.trail.now.entries in
    let cs = c.args.literals.now in
    let but = c.args.but in
    let whole = take_all c.loop-literal.literal-index cs (omega arith) in
    record {
      deepest = deepest_told es but cs c.loop-literal.deepest c.loop-literal.level
          (subst (λ (d : List Lit). IsDeepest es but d c.loop-literal.deepest c.loop-literal.level) whole c.loop-literal.invariant);
    }
