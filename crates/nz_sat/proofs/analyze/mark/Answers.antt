-- Each literal that is false is marked, and counted where it is of the level.
use Rattle.std.proofs.Common.{◌≡◌, ℕ, ◌+◌, true, false, ◌++◌, ◌∷◌, [], take, Some, subst, sym, ap, ◌∙◌, true≢false, ne_eqb, arith, rules, eq-eqb}
use Rattle.std.specs.Prelude.{slice_set}
use Rattle.std.specs.Option.{option_eq}
use mathlib.Core.Bool.{beq}
use Rattle.std.proofs.lemmas.List.{take_more}
use Rattle.nz_log.specs.declared.lits.Lit.{Lit}
use Rattle.nz_sat.specs.Conflicts.{MarksCounted, is_marked}
use Rattle.nz_sat.specs.Trails.{HasValue, IsFalseOn, level_on}
use Rattle.nz_sat.proofs.Marks.{counted_as, counted_same, counted_set, false_within, one_at, one_if, told_false}
use Rattle.nz_sat.proofs.analyze.mark.Goals as goal
use Rattle.nz_sat.proofs.analyze.mark.Goals.{then-eq+then-not-seen-atom+then-level_of-level, then-eq+then-not-seen-atom+else-level_of-level, else-eq, else-eq-via-then-eq+else-not-seen-atom, else-eq-via-else-eq}

pub bounds-seen-atom : goal.bounds-seen-atom
bounds-seen-atom c =
    let l = c.literal-item.result in
    let is : c.value.result ≡ Some false = search rules in
    let falsified : IsFalseOn c.args.trail.now.entries l = subst (HasValue c.args.trail.now.entries l) is c.value.ensures.value in
    let within = false_within c.args.trail.now.size c.args.trail.now.entries c.requires.trail l falsified in
    omega (arith, within, c.requires.size, c.atom-atom.ensures.atom)

pub bounds-seen-atom-then-not-seen-atom : goal.bounds-seen-atom-then-not-seen-atom
bounds-seen-atom-then-not-seen-atom c =
    let l = c.literal-item.result in
    let is : c.value.result ≡ Some false = search rules in
    let falsified : IsFalseOn c.args.trail.now.entries l = subst (HasValue c.args.trail.now.entries l) is c.value.ensures.value in
    let within = false_within c.args.trail.now.size c.args.trail.now.entries c.requires.trail l falsified in
    omega (arith, within, c.requires.size, c.atom-atom.ensures.atom)

pub loop-literal-preserved : goal.loop-literal-preserved
loop-literal-preserved c =
    let es = c.args.trail.now.entries in
    let i = c.loop-literal.literal-index in
    let l = c.literal-item.result in
    let before = take i c.args.literals.now in
    let level = c.args.level in
    let old = c.args.seen.now in
    let seen = c.loop-literal.seen in
    let count = c.loop-literal.count in
    let so_far = c.loop-literal.invariant.1 in
    let n = c.atom-atom.result in
    let at : n ≡ l.atom = c.atom-atom.ensures.atom in
    let more : take (i + 1) c.args.literals.now ≡ before ++ l ∷ [] = take_more c.args.literals.now i l (omega arith) ∙ ap (λ (m : Lit). before ++ m ∷ []) (sym c.literal-item.is) in
    elim c.if-eq.branch [
      | then-eq+then-not-seen-atom+then-level_of-level w ↦
          let is : c.value.result ≡ Some false = search rules in
          let falsified : IsFalseOn es l = subst (HasValue es l) is c.value.ensures.value in
          let within = false_within c.args.trail.now.size es c.requires.trail l falsified in
          let unseen : is_marked seen l.atom ≡ false = subst (λ (a : ℕ). is_marked seen a ≡ false) at w.if-not-seen-atom.true in
          let set : MarksCounted es (before ++ l ∷ []) level old (slice_set seen n true) (count + one_at level (level_on es l.atom)) =
          subst (λ (a : ℕ). MarksCounted es (before ++ l ∷ []) level old (slice_set seen a true) (count + one_at level (level_on es l.atom))) (sym at)
          (counted_set es before l level old seen count c.args.trail.now.size c.requires.trail falsified unseen (omega (arith, within, c.requires.size)) so_far)
          in
          let one : one_at level (level_on es l.atom) ≡ 1 = ap one_if (eq-eqb _ level (ap (level_on es) (sym at) ∙ sym w.level_of.ensures.level ∙ w.if-level_of-level.true)) in
          (omega (arith, c.loop-literal.invariant.0), counted_as es (take (i + 1) c.args.literals.now) (before ++ l ∷ []) level old c.if-eq.seen _ c.if-eq.count _ more w.seen-is (w.count-is ∙ ap (λ (n : ℕ). count + n) (sym one)) set)
      | then-eq+then-not-seen-atom+else-level_of-level w ↦
          let is : c.value.result ≡ Some false = search rules in
          let falsified : IsFalseOn es l = subst (HasValue es l) is c.value.ensures.value in
          let within = false_within c.args.trail.now.size es c.requires.trail l falsified in
          let unseen : is_marked seen l.atom ≡ false = subst (λ (a : ℕ). is_marked seen a ≡ false) at w.if-not-seen-atom.true in
          let set : MarksCounted es (before ++ l ∷ []) level old (slice_set seen n true) (count + one_at level (level_on es l.atom)) =
          subst (λ (a : ℕ). MarksCounted es (before ++ l ∷ []) level old (slice_set seen a true) (count + one_at level (level_on es l.atom))) (sym at)
          (counted_set es before l level old seen count c.args.trail.now.size c.requires.trail falsified unseen (omega (arith, within, c.requires.size)) so_far)
          in
          let none : one_at level (level_on es l.atom) ≡ 0 = ap one_if (ne_eqb _ level (λ same. w.if-level_of-level.false (w.level_of.ensures.level ∙ ap (level_on es) at ∙ same))) in
          let zero_more : c.if-eq.count ≡ count + 0 = omega (arith, w.count-is) in
          (omega (arith, c.loop-literal.invariant.0), counted_as es (take (i + 1) c.args.literals.now) (before ++ l ∷ []) level old c.if-eq.seen _ c.if-eq.count _ more w.seen-is (zero_more ∙ ap (λ (n : ℕ). count + n) (sym none)) set)
      | else-eq w ↦
          elim w.else-eq.branch [
            | else-eq-via-then-eq+else-not-seen-atom u ↦ (
              omega (arith, c.loop-literal.invariant.0),
              counted_as es (take (i + 1) c.args.literals.now) (before ++ l ∷ []) level old c.if-eq.seen _ c.if-eq.count _ more w.seen-is w.count-is (counted_same es before l level old seen count (λ falsified. subst (λ (a : ℕ). is_marked seen a ≡ true) at u.if-not-seen-atom.false) so_far),
            )
            | else-eq-via-else-eq u ↦
                let other : c.value.result ≡ Some false → false ≡ true = λ is. u.if-eq.ensures ∙ ap (λ o. option_eq beq o (Some false)) is in (
                  omega (arith, c.loop-literal.invariant.0),
                  counted_as es (take (i + 1) c.args.literals.now) (before ++ l ∷ []) level old c.if-eq.seen _ c.if-eq.count _ more w.seen-is w.count-is
                      (counted_same es before l level old seen count (λ falsified. absurd (true≢false (sym (other (told_false es l c.value.result c.value.ensures.value falsified))))) so_far),
                )
          ]
    ]
