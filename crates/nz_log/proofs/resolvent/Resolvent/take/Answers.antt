-- The last of the list is the last of the literals, or isn't one of them.
use Rattle.std.proofs.Common.{◌≡◌, true, false, List, [], ◌∷◌, ◌++◌, sym, ap, subst, ◌∙◌, rules}
use Rattle.std.specs.Prelude.{reverse}
use Rattle.nz_log.specs.declared.lits.Lit.{Lit}
use Rattle.nz_log.specs.Marked.{AreListed, has_mark, last_marked}
use Rattle.nz_log.proofs.LastMarked.{last_unmarked, listed_but, listed_popped, popped_joined}
use Rattle.nz_log.proofs.resolvent.Resolvent.take.Goals as goal

pub loop-literal-preserved-in-Continue-1 : goal.loop-literal-preserved-in-Continue-1
loop-literal-preserved-in-Continue-1 c =
    let has = has_mark c.loop-literal.self-inside.marks in
    let now = has_mark c.unmark.new.self in
    let x = c.in-Some.literal in
    let rest = c.pop.new.self.items in
    let ys = c.loop-literal.literals.items in
    let all = c.args.self.now in
    let came : c.loop-literal.self-inside.came.items ≡ rest ++ x ∷ [] = search rules in
    let there : has x ≡ true = sym c.has.ensures.has ∙ c.if-has.true in
    record {
      joined =
          ap (λ (zs : List Lit). last_marked now rest ++ reverse zs) c.in_ok-push.ensures.ok
          ∙ popped_joined has now x rest ys all there c.unmark.ensures.unmarked
          (subst (λ (xs : List Lit). last_marked has xs ++ reverse ys ≡ all) came c.loop-literal.invariant.joined);
      listed = listed_popped has now x rest (subst (AreListed has) came c.loop-literal.invariant.listed) c.unmark.ensures.unmarked;
    }

pub loop-literal-preserved : goal.loop-literal-preserved
loop-literal-preserved c =
    let has = has_mark c.loop-literal.self-inside.marks in
    let x = c.in-Some.literal in
    let rest = c.pop.new.self.items in
    let ys = c.loop-literal.literals.items in
    let all = c.args.self.now in
    let came : c.loop-literal.self-inside.came.items ≡ rest ++ x ∷ [] = search rules in
    let none : has x ≡ false = sym c.has.ensures.has ∙ c.if-has.false in
    record {
      joined =
          ap (λ (zs : List Lit). zs ++ reverse ys) (sym (last_unmarked has x none rest))
          ∙ subst (λ (xs : List Lit). last_marked has xs ++ reverse ys ≡ all) came c.loop-literal.invariant.joined;
      listed = listed_but has x rest (subst (AreListed has) came c.loop-literal.invariant.listed) none;
    }
