use Rattle.std.proofs.Common.{◌≡◌, ◌∙◌, Ok, ap, sym, subst, rules}
use Rattle.nz_script.specs.commands.Request.{pushes}
use Rattle.nz_script.specs.commands.Script.{push_of}
use Rattle.nz_command.specs.Requests.{count_view}
use Rattle.nz_sort.specs.declared.acts.Act.TheVariants.{Changed}
use Rattle.nz_sort.specs.Changes.{Comes, with_levels}
use Rattle.nz_sort.proofs.LevelRules.{comes_pushed}
use Rattle.nz_sort.proofs.live.Live.push_counted.Goals as goal

pub returns : goal.returns
returns c =
    let before = c.args.self.now in
    let count : c.in-Ok.count ≡ c.in-Within.count = search rules in
    record {
      comes = λ ns. subst (λ k. Comes ns ns before c.push.new.self (pushes (count_view k)) (λ s. push_of (count_view k)) (Ok Changed)) (sym c.in-Within.is)
          (comes_pushed ns before c.push.new.self c.in-Within.count (c.in_ok-push.ensures.pushed ∙ ap (λ n. with_levels n before) count));
    }
