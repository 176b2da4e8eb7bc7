use Rattle.std.proofs.Common.{◌≡◌, ◌∙◌, length, Ok, Err, sym, ap, subst, arith, rules}
use Rattle.nz_script.specs.commands.Request.{pops}
use Rattle.nz_script.specs.commands.Script.{pop_of}
use Rattle.nz_command.specs.Requests.{count_view}
use Rattle.nz_base.specs.declared.reply_errors.Error.TheVariants.{BelowZero}
use Rattle.nz_sort.specs.declared.acts.Act.TheVariants.{Popped}
use Rattle.nz_sort.specs.Live.{Standing}
use Rattle.nz_sort.specs.Changes.{Comes}
use Rattle.nz_sort.proofs.LevelChanges.{as_many_below}
use Rattle.nz_sort.proofs.LevelRules.{comes_popped, comes_below_zero}
use Rattle.nz_sort.proofs.live.Live.pop_counted.Goals as goal

pub returns-then-count-len-clause-comes : goal.returns-then-count-len-clause-comes
returns-then-count-len-clause-comes c =
    let before = c.args.self.now in
    let kept : c.len.result ≡ length c.self.inside.below.items = search rules in
    let many = kept ∙ as_many_below c.self.inside.below.items before (ap (λ (st : Standing). st.below) c.self.view_is) in
    λ ns. subst (λ k. Comes ns ns before before (pops (count_view k)) (λ s. pop_of s (count_view k)) (Err BelowZero)) (sym c.in-Within.is)
    (comes_below_zero ns before c.in-Within.count (omega (arith, many)))

pub returns-clause-comes : goal.returns-clause-comes
returns-clause-comes c =
    let before = c.args.self.now in
    let kept : c.len.result ≡ length c.self.inside.below.items = search rules in
    let many = kept ∙ as_many_below c.self.inside.below.items before (ap (λ (st : Standing). st.below) c.self.view_is) in
    λ ns. subst (λ k. Comes ns ns before c.pop.new.self (pops (count_view k)) (λ s. pop_of s (count_view k)) (Ok Popped)) (sym c.in-Within.is)
    (comes_popped ns before c.pop.new.self c.in-Within.count (omega (arith, many)) c.pop.ensures.dropped)
