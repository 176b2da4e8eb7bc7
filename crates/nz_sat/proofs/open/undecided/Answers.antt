-- One literal more was looked at, and at the end none is left that is true.
use Rattle.std.proofs.Common.{◌≡◌, ◌<◌, Bool, None, Option, Some, false, length, sym, subst, ◌∙◌, arith, rules, Contains, IfSome}
use Rattle.std.proofs.lemmas.List.Elements.{Contains-get_or}
use Rattle.std.proofs.lemmas.Option.{none-some}
use Rattle.nz_log.specs.declared.lits.Lit.{Lit}
use Rattle.nz_sat.specs.Trails.{HasValue, IsFalseOn, assigned}
use Rattle.nz_sat.proofs.Clausal.{free_missing}
use Rattle.nz_sat.proofs.OpenClauses.{falsified_more, falsified_whole, open_falsified}
use Rattle.nz_sat.proofs.open.undecided.Goals as goal
use Rattle.nz_sat.proofs.open.undecided.Goals.{in-Some-false, in-None}

pub loop-literal-preserved : goal.loop-literal-preserved
loop-literal-preserved c =
    let es = c.args.trail.now.entries in
    let cs = c.args.literals.now in
    let i = c.loop-literal.literal-index in
    let lit = c.literal-item.result in
    let inside : i < length cs = omega arith in
    elim c.match-value.branch [
      | in-Some-false w ↦
          let is : c.value.result ≡ Some false = search rules in
          let fails : IsFalseOn es lit = let V : Option Bool → Type 0 = λ o. HasValue es lit o in subst V is c.value.ensures.value in
          let same : c.loop-literal.found ≡ c.match-value.found = search rules in
          record {
            free = subst (λ (o : Option Lit). IfSome o (λ (m : Lit). Contains cs m × (assigned es m.atom ≡ None))) same c.loop-literal.invariant.free;
            false_so_far = λ none. falsified_more es cs i lit inside c.literal-item.is (c.loop-literal.invariant.false_so_far (same ∙ none)) fails;
          }
      | in-None w ↦
          let is : c.value.result ≡ None = search rules in
          let free : assigned es lit.atom ≡ None = free_missing es lit.atom (let V : Option Bool → Type 0 = λ o. HasValue es lit o in subst V is c.value.ensures.value) in
          let here : Contains cs lit = subst (Contains cs) (sym c.literal-item.is) (Contains-get_or cs i lit inside) in
          record {
            free = subst (λ (o : Option Lit). IfSome o (λ (m : Lit). Contains cs m × (assigned es m.atom ≡ None))) (sym w.found-is) (here, free);
            false_so_far = λ none. absurd (none-some lit (sym none ∙ w.found-is));
          }
    ]

pub returns-clause-none : goal.returns-clause-none
returns-clause-none c none is_open =
    let es = c.args.trail.now.entries in
    let cs = c.args.literals.now in
    absurd (open_falsified es cs (falsified_whole es cs c.loop-literal.literal-index (omega arith) (c.loop-literal.invariant.false_so_far none)) is_open)
