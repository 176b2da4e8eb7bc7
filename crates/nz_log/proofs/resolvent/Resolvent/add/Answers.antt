-- A literal that has its mark is there; another one comes last.
use Rattle.std.proofs.Common.{◌≡◌, Bool, true, false, List, [], ◌∷◌, ◌++◌, if◌then◌else◌, sym, ap, subst, ◌∙◌}
use Rattle.std.specs.List.{list_any}
use Rattle.nz_log.specs.declared.lits.Lit.{Lit}
use Rattle.nz_log.specs.Lits.{are_same_lit}
use Rattle.nz_log.specs.Marked.{AreListed, has_mark, last_marked}
use Rattle.nz_log.proofs.LastMarked.{last_more, listed_more, marks_tell}
use Rattle.nz_log.proofs.resolvent.Resolvent.add.Goals as goal

pub returns-then-has : goal.returns-then-has
returns-then-has c =
    let l = c.args.literal in
    let all = c.args.self.now in
    let tells = marks_tell (has_mark c.self.inside.marks) c.self.inside.came.items c.self.invariant l in
    let there : list_any (are_same_lit l) all ≡ true =
    subst (λ (xs : List Lit). list_any (are_same_lit l) xs ≡ true) c.self.view_is (sym tells ∙ sym c.has.ensures.has ∙ c.if-has.true) in
    record { added = ap (λ (b : Bool). if b then all else all ++ l ∷ []) (sym there) }

pub invariant_of-self-2 : goal.invariant_of-self-2
invariant_of-self-2 c =
    subst (AreListed (has_mark c.mark.new.self)) (sym c.in_ok-push.ensures.items)
    (listed_more (has_mark c.self.inside.marks) (has_mark c.mark.new.self) c.args.literal c.self.inside.came.items c.self.invariant c.in_ok-mark.ensures.marked)

pub returns : goal.returns
returns c =
    let l = c.args.literal in
    let all = c.args.self.now in
    let has = has_mark c.self.inside.marks in
    let now = has_mark c.mark.new.self in
    let came = c.self.inside.came.items in
    let none : has l ≡ false = sym c.has.ensures.has ∙ c.if-has.false in
    let tells = marks_tell has came c.self.invariant l in
    let new : list_any (are_same_lit l) all ≡ false = subst (λ (xs : List Lit). list_any (are_same_lit l) xs ≡ false) c.self.view_is (sym tells ∙ none) in
    record {
      added =
          ap (last_marked now) c.in_ok-push.ensures.items ∙ last_more has now l none c.in_ok-mark.ensures.marked came
          ∙ ap (λ (xs : List Lit). xs ++ l ∷ []) c.self.view_is ∙ ap (λ (b : Bool). if b then all else all ++ l ∷ []) (sym new);
    }
