use Rattle.std.proofs.Common.{Ok, sym, subst}
use Rattle.nz_script.specs.commands.Request.{shows_info, sets_option}
use Rattle.nz_script.specs.commands.Script.{info_asked, option_set, outcome_by}
use Rattle.nz_command.specs.Requests.{request, key_view, setting_view}
use Rattle.nz_sort.specs.declared.acts.Act.TheVariants.{Cleared, Reset}
use Rattle.nz_sort.specs.Changes.{Comes}
use Rattle.nz_sort.proofs.LevelRules.{comes_reset, comes_cleared}
use Rattle.nz_sort.proofs.CommandRules.{comes_checked, comes_only}
use Rattle.nz_sort.proofs.live.Live.requested.Goals as goal

pub returns-in-CheckSat-clause-comes : goal.returns-in-CheckSat-clause-comes
returns-in-CheckSat-clause-comes c =
    let ns = c.args.terms.now in
    let l = c.args.self.now in
    subst (λ k. Comes ns ns l l (request k) (λ s. outcome_by s (request k)) (Ok c.check_act.result)) (sym c.in-CheckSat.is)
    (comes_checked ns l c.check_act.result c.check_act.ensures.check)

pub returns-in-Push-clause-comes : goal.returns-in-Push-clause-comes
returns-in-Push-clause-comes c =
    let ns = c.args.terms.now in
    subst (λ k. Comes ns ns c.args.self.now c.push_counted.new.self (request k) (λ s. outcome_by s (request k)) c.push_counted.result) (sym c.in-Push.is) (c.push_counted.ensures.comes ns)

pub returns-in-Pop-clause-comes : goal.returns-in-Pop-clause-comes
returns-in-Pop-clause-comes c =
    let ns = c.args.terms.now in
    subst (λ k. Comes ns ns c.args.self.now c.pop_counted.new.self (request k) (λ s. outcome_by s (request k)) c.pop_counted.result) (sym c.in-Pop.is) (c.pop_counted.ensures.comes ns)

pub returns-in-Reset-clause-comes : goal.returns-in-Reset-clause-comes
returns-in-Reset-clause-comes c =
    let ns = c.args.terms.now in
    subst (λ k. Comes ns ns c.args.self.now c.clear.new.self (request k) (λ s. outcome_by s (request k)) (Ok Reset)) (sym c.in-Reset.is)
    (comes_reset ns c.args.self.now c.clear.new.self c.clear.ensures.cleared)

pub returns-in-ResetAssertions-clause-comes : goal.returns-in-ResetAssertions-clause-comes
returns-in-ResetAssertions-clause-comes c =
    let ns = c.args.terms.now in
    subst (λ k. Comes ns ns c.args.self.now c.clear-in-ResetAssertions.new.self (request k) (λ s. outcome_by s (request k)) (Ok Cleared)) (sym c.in-ResetAssertions.is)
    (comes_cleared ns c.args.self.now c.clear-in-ResetAssertions.new.self c.clear-in-ResetAssertions.ensures.cleared)

pub returns-in-GetInfo-clause-comes : goal.returns-in-GetInfo-clause-comes
returns-in-GetInfo-clause-comes c =
    let ns = c.args.terms.now in
    let l = c.args.self.now in
    let key = key_view c.in-GetInfo.key in
    subst (λ k. Comes ns ns l l (request k) (λ s. outcome_by s (request k)) (Ok c.info_act.result)) (sym c.in-GetInfo.is)
    (comes_only ns l (shows_info key) (λ s. info_asked key) c.info_act.result (λ s. c.info_act.ensures.asks))

pub returns-in-SetOption-clause-comes : goal.returns-in-SetOption-clause-comes
returns-in-SetOption-clause-comes c =
    let ns = c.args.terms.now in
    let l = c.args.self.now in
    let setting = setting_view c.in-SetOption.setting in
    subst (λ k. Comes ns ns l l (request k) (λ s. outcome_by s (request k)) (Ok c.setting_act.result)) (sym c.in-SetOption.is)
    (comes_only ns l (sets_option setting) (λ s. option_set setting) c.setting_act.result (λ s. c.setting_act.ensures.asks))
