-- One addend more.
use Rattle.std.proofs.Common.{◌≡◌, ◌++◌, ◌+◌, [], ◌∷◌, ℕ, List, drop, rules, sym, ap, ◌∙◌}
use Rattle.std.specs.HashMap.{get}
use Rattle.std.specs.Prelude.{if◌then◌else◌, is_some, nat_eq, unwrap_or}
use Rattle.nz_fractions.specs.Fraction.{Fraction}
use Rattle.nz_lists.proofs.Places.{drop_read}
use Rattle.nz_lin.specs.declared.form.Part.{Part}
use Rattle.nz_tab.specs.Units.{addends, unit_number}
use Rattle.nz_tab.proofs.UnitNumbers.{addends_step}
use Rattle.nz_tab.proofs.tab.addends.Goals as goal

pub loop-part-preserved : goal.loop-part-preserved
loop-part-preserved c = λ fs agree.
    let ps = c.args.parts.now in
    let i = c.loop-part.part-index in
    let p = c.part-item.result in
    let known = c.copied-known.result in
    let done = c.loop-part.addends.items in
    let number : known ≡ unit_number fs p.unit =
    let stored : known ≡ get nat_eq c.args.numbers.now p.unit = search rules in
    stored ∙ agree p.unit in
    let put : c.push.new.self.items ≡ done ++ (unwrap_or known c.loop-part.next, p.coefficient) ∷ [] = search rules in
    let next : c.in_ok-next.next ≡ (if is_some known then c.loop-part.next else c.loop-part.next + 1) = c.in_ok-next.ensures.next in
    ap (λ (l : List (ℕ × Fraction)). l ++ addends fs c.in_ok-next.next (drop (i + 1) ps)) put
    ∙ addends_step fs p (drop (i + 1) ps) c.loop-part.next c.in_ok-next.next known number next done
    ∙ ap (λ (l : List Part). done ++ addends fs c.loop-part.next l) (sym (drop_read ps i p c.loop-part-test.true c.part-item.is))
    ∙ c.loop-part.invariant fs agree
