use Rattle.nz_sexpr.specs.View.{view}
use Rattle.nz_reply.specs.declared.reply.Reply.TheVariants as code
use Rattle.nz_script.specs.replies.Reply.{info}
use Rattle.std.proofs.Common.{Err, ap}
use Rattle.nz_sort.specs.Live.{asserted_by}
use Rattle.nz_session.proofs.ActAnswers.{acted, changed_answered, check_asked, check_taken, cleared_answered, echo_answered, exit_answered, info_answered, levels_answered, model_asked, nothing_answered, popped_answered, popped_told, reason_asked, refused_answered, reset_answered, setting_answered, skipped_answered, values_asked}
use Rattle.nz_session.proofs.ToldAssertions.{told_count}
use Rattle.nz_session.proofs.desk.Desk.command.Goals as goal

pub returns-in-Err-clause-right : goal.returns-in-Err-clause-right
returns-in-Err-clause-right g c x h =
    refused_answered c.in-Err.refusal h c.in-Err.ensures.unchanged_terms c.in-Err.ensures.unchanged (λ y. c.in-Err.ensures.memory (ap Err y)) c.in-Err.ensures.refused c.said.ensures.said

pub returns-in-Ok-Changed-clause-right : goal.returns-in-Ok-Changed-clause-right
returns-in-Ok-Changed-clause-right g c x h =
    let a = acted c.in-Ok-Changed.field-0-is h c.command.ensures.kept c.in-Ok-Changed.ensures.accepted c.in-Ok-Changed.ensures.moves in
    changed_answered c.states_stay_sorted.ensures.stay a c.changed.ensures.rest c.changed.ensures.succeeds

pub pop_told-requires : goal.pop_told-requires
pop_told-requires g c =
    record { told = popped_told (acted c.in-Ok-Popped.field-0-is c.requires.1 c.command.ensures.kept c.in-Ok-Popped.ensures.accepted c.in-Ok-Popped.ensures.moves) }

pub returns-in-Ok-Popped-clause-right : goal.returns-in-Ok-Popped-clause-right
returns-in-Ok-Popped-clause-right g c x h =
    let a = acted c.in-Ok-Popped.field-0-is h c.command.ensures.kept c.in-Ok-Popped.ensures.accepted c.in-Ok-Popped.ensures.moves in
    popped_answered c.pop_told.new.engine c.pop_told.new.told c.states_stay_sorted.ensures.stay a c.pop_told.ensures.told c.pop_told.ensures.table c.pop_told.ensures.begins
    c.changed-in-Ok-Popped.ensures.rest c.changed-in-Ok-Popped.ensures.succeeds

pub forget-requires : goal.forget-requires
forget-requires g c = record { told = told_count (g.E.Decide.levels c.args.self.now.engine) c.args.self.now.told (asserted_by c.args.self.now.live) c.requires.1.told }

pub returns-in-Ok-Cleared-clause-right : goal.returns-in-Ok-Cleared-clause-right
returns-in-Ok-Cleared-clause-right g c x h =
    let a = acted c.in-Ok-Cleared.field-0-is h c.command.ensures.kept c.in-Ok-Cleared.ensures.accepted c.in-Ok-Cleared.ensures.moves in
    cleared_answered c.forget.new.self c.states_stay_sorted.ensures.stay a c.forget.ensures.told c.forget.ensures.table c.forget.ensures.begins c.forget.ensures.rest c.succeeded.ensures.succeeds

pub forget-requires-in-Ok-Reset : goal.forget-requires-in-Ok-Reset
forget-requires-in-Ok-Reset g c = record { told = told_count (g.E.Decide.levels c.args.self.now.engine) c.args.self.now.told (asserted_by c.args.self.now.live) c.requires.1.told }

pub returns-in-Ok-Reset-clause-right : goal.returns-in-Ok-Reset-clause-right
returns-in-Ok-Reset-clause-right g c x h =
    let a = acted c.in-Ok-Reset.field-0-is h c.command.ensures.kept c.in-Ok-Reset.ensures.accepted c.in-Ok-Reset.ensures.moves in
    reset_answered c.forget-in-Ok-Reset.new.self c.states_stay_sorted.ensures.stay a c.forget-in-Ok-Reset.ensures.told c.forget-in-Ok-Reset.ensures.table c.forget-in-Ok-Reset.ensures.begins
    c.forget-in-Ok-Reset.ensures.rest c.succeeded-in-Ok-Reset.ensures.succeeds

pub check_under-requires : goal.check_under-requires
check_under-requires g c =
    let x = c.requires.0 in
    let h = c.requires.1 in
    let q = check_asked c.deref.ensures.value (acted c.in-Ok-Check.field-0-is h c.command.ensures.kept c.in-Ok-Check.ensures.accepted c.in-Ok-Check.ensures.moves) in
    record { holds = (x, q.holds, q.integers); taken = check_taken c.assumptions_are_taken.ensures.taken h.sorted q }

pub returns-in-Ok-Check-clause-right : goal.returns-in-Ok-Check-clause-right
returns-in-Ok-Check-clause-right g c x h =
    let q = check_asked c.deref.ensures.value (acted c.in-Ok-Check.field-0-is h c.command.ensures.kept c.in-Ok-Check.ensures.accepted c.in-Ok-Check.ensures.moves) in
    c.check_under.ensures.right x (view c.args.tree.now) q.literals q.holds q.is q.assumes

pub returns-in-Ok-ShowModel-clause-right : goal.returns-in-Ok-ShowModel-clause-right
returns-in-Ok-ShowModel-clause-right g c x h =
    let k = model_asked (acted c.in-Ok-ShowModel.field-0-is h c.command.ensures.kept c.in-Ok-ShowModel.ensures.accepted c.in-Ok-ShowModel.ensures.moves) in
    c.show_model.ensures.right x (view c.args.tree.now) k.holds k.is

pub show_values-requires : goal.show_values-requires
show_values-requires g c =
    let q = values_asked c.deref-in-Ok-ShowValues.ensures.value (acted c.in-Ok-ShowValues.field-0-is c.requires.1 c.command.ensures.kept c.in-Ok-ShowValues.ensures.accepted c.in-Ok-ShowValues.ensures.moves) in
    record { typed = (q.asks.terms, q.asks.typed) }

pub returns-in-Ok-ShowValues-clause-right : goal.returns-in-Ok-ShowValues-clause-right
returns-in-Ok-ShowValues-clause-right g c x h =
    let q = values_asked c.deref-in-Ok-ShowValues.ensures.value (acted c.in-Ok-ShowValues.field-0-is h c.command.ensures.kept c.in-Ok-ShowValues.ensures.accepted c.in-Ok-ShowValues.ensures.moves) in
    c.show_values.ensures.right x (view c.args.tree.now) q.request q.command q.kept.holds q.parsed q.kept.is q.asks

pub returns-in-Ok-ShowReason-clause-right : goal.returns-in-Ok-ShowReason-clause-right
returns-in-Ok-ShowReason-clause-right g c x h =
    let k = reason_asked (acted c.in-Ok-ShowReason.field-0-is h c.command.ensures.kept c.in-Ok-ShowReason.ensures.accepted c.in-Ok-ShowReason.ensures.moves) in
    c.show_reason.ensures.right x (view c.args.tree.now) k.holds k.is

pub returns-in-Ok-ShowInfo-clause-right : goal.returns-in-Ok-ShowInfo-clause-right
returns-in-Ok-ShowInfo-clause-right g c x h =
    let a = acted c.in-Ok-ShowInfo.field-0-is h c.command.ensures.kept c.in-Ok-ShowInfo.ensures.accepted c.in-Ok-ShowInfo.ensures.moves in
    info_answered (code.Info c.info_told.result) a c.said-in-Ok-ShowInfo.ensures.said (ap info c.info_told.ensures.info)

pub returns-in-Ok-ShowLevels-clause-right : goal.returns-in-Ok-ShowLevels-clause-right
returns-in-Ok-ShowLevels-clause-right g c x h =
    let a = acted c.in-Ok-ShowLevels.field-0-is h c.command.ensures.kept c.in-Ok-ShowLevels.ensures.accepted c.in-Ok-ShowLevels.ensures.moves in
    levels_answered c.levels.result a c.said-in-Ok-ShowLevels.ensures.said c.levels.ensures.levels

pub returns-in-Ok-PrintSuccess-clause-right : goal.returns-in-Ok-PrintSuccess-clause-right
returns-in-Ok-PrintSuccess-clause-right g c x h =
    setting_answered (acted c.in-Ok-PrintSuccess.field-0-is h c.command.ensures.kept c.in-Ok-PrintSuccess.ensures.accepted c.in-Ok-PrintSuccess.ensures.moves)
    c.succeeded-in-Ok-PrintSuccess.ensures.succeeds

pub returns-in-Ok-Nothing-clause-right : goal.returns-in-Ok-Nothing-clause-right
returns-in-Ok-Nothing-clause-right g c x h =
    nothing_answered (acted c.in-Ok-Nothing.field-0-is h c.command.ensures.kept c.in-Ok-Nothing.ensures.accepted c.in-Ok-Nothing.ensures.moves)
    c.succeeded-in-Ok-Nothing.ensures.succeeds

pub returns-in-Ok-Echo-clause-right : goal.returns-in-Ok-Echo-clause-right
returns-in-Ok-Echo-clause-right g c x h =
    let a = acted c.in-Ok-Echo.field-0-is h c.command.ensures.kept c.in-Ok-Echo.ensures.accepted c.in-Ok-Echo.ensures.moves in
    echo_answered c.argument_tells.ensures.tells a c.said-in-Ok-Echo.ensures.said

pub returns-in-Ok-Leave-clause-right : goal.returns-in-Ok-Leave-clause-right
returns-in-Ok-Leave-clause-right g c x h =
    exit_answered c.done.result (acted c.in-Ok-Leave.field-0-is h c.command.ensures.kept c.in-Ok-Leave.ensures.accepted c.in-Ok-Leave.ensures.moves) c.done.ensures.done

pub returns-in-Ok-Unsupported-clause-right : goal.returns-in-Ok-Unsupported-clause-right
returns-in-Ok-Unsupported-clause-right g c x h =
    let a = acted c.in-Ok-Unsupported.field-0-is h c.command.ensures.kept c.in-Ok-Unsupported.ensures.accepted c.in-Ok-Unsupported.ensures.moves in
    skipped_answered a c.said-in-Ok-Unsupported.ensures.said
