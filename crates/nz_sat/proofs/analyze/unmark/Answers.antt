-- One mark more is taken off.
use Rattle.std.proofs.Common.{◌≡◌, ◌+◌, ◌<◌, false, [], ◌∷◌, ◌++◌, length, take, sym, ap, subst, ◌∙◌, All, arith}
use Rattle.std.specs.Prelude.{slice_set}
use Rattle.std.proofs.lemmas.List.{take_all, take_more}
use Rattle.std.proofs.lemmas.List.Elements.{All-push, All-weaker}
use Rattle.nz_log.specs.declared.lits.Lit.{Lit}
use Rattle.nz_sat.specs.Conflicts.{is_marked}
use Rattle.nz_sat.proofs.Marks.{unmark_keeps, unmark_parts, unmarked}
use Rattle.nz_sat.proofs.analyze.unmark.Goals as goal

pub loop-literal-preserved : goal.loop-literal-preserved
loop-literal-preserved c =
    let i = c.loop-literal.literal-index in
    let ls = c.args.literals.now in
    let seen = c.loop-literal.seen in
    let a = c.atom.result in
    let l = c.literal-item.result in
    let at : a ≡ l.atom = c.atom.ensures.atom in
    let before = take i ls in
    let more : take (i + 1) ls ≡ before ++ l ∷ [] = take_more ls i l (omega arith) ∙ ap (λ (m : Lit). before ++ m ∷ []) (sym c.literal-item.is) in
    let here = c.requires.within i l (omega arith) in
    let item = ap (λ (m : Lit). m.atom) c.literal-item.is in
    let within : a < length seen = omega (arith, here, item, at, c.loop-literal.auto.seen) in
    let Off : Lit → Type 0 = λ m. is_marked (slice_set seen a false) m.atom ≡ false in (
      λ t on. c.loop-literal.invariant.0 t (unmark_parts seen a t within on).1,
      subst (All Off) (sym more)
          (All-push Off before l (All-weaker (λ (m : Lit). is_marked seen m.atom ≡ false) Off (λ m off. unmark_keeps seen a m.atom within off) before c.loop-literal.invariant.1)
          (ap (is_marked (slice_set seen a false)) (sym at) ∙ unmarked seen a within)),
    )

pub returns-clause-unmarked : goal.returns-clause-unmarked
returns-clause-unmarked c =
    let whole = take_all c.loop-literal.literal-index c.args.literals.now (omega arith) in
    subst (All (λ (m : Lit). is_marked c.loop-literal.seen m.atom ≡ false)) whole c.loop-literal.invariant.1
