use Rattle.std.proofs.Common.{◌<◌, List, length, Some, refl, sym, ap, ◌∙◌, subst}
use Rattle.std.proofs.lemmas.List.Elements.{recursion_from_All}
use Rattle.nz_spec.specs.terms.Model.{AreModel, Binding, assignment_of}
use Rattle.nz_script.specs.live.Live.{model_found, constants_of, assertions_of}
use Rattle.nz_sort.specs.Live.{constants_by}
use Rattle.nz_reply.specs.declared.reply.Reply.TheVariants as code
use Rattle.nz_session.specs.Completed.{completed_values}
use Rattle.nz_session.proofs.RightAnswers.{checked}
use Rattle.nz_session.specs.Desk.{AreValuesOf}
use Rattle.nz_session.proofs.LiveModels.{live_model, live_values, values_in}
use Rattle.nz_session.proofs.desk.Desk.found.Goals as goal

pub returns-in-Ok-clause-right : goal.returns-in-Ok-clause-right
returns-in-Ok-clause-right g c x t ls h e v holds =
    let desk = c.args.self.now in
    let ns = desk.terms in
    let model = c.in-Ok.model in
    let ids = constants_by desk.live in
    let node = c.term_of_node.ensures.node in
    let table = c.known_table.ensures.table in
    let live = live_model c.decimals_are_numbers.ensures.numbers c.numerals_are_whole.ensures.whole c.normal_keeps_value.ensures.keeps c.constants_tell_values.ensures.tell node
    ns table desk.live x.state c.args.assign ls h.live (c.assertions_are_over.ensures.over x.state h.sorted) (c.assumptions_are_taken.ensures.taken x.state h.sorted t ls e) v holds in
    let shown = c.in-Ok.ensures.shown in
    let kept = c.in-Ok.ensures.kept in
    let right : AreModel (constants_of x.state) (assertions_of x.state) ls c.in-Ok.shown.value = subst (AreModel (constants_of x.state) (assertions_of x.state) ls) (sym shown) live in
    let assigned : AreValuesOf ns model.bindings.value (completed_values ns c.args.assign ids) = record {
      within = values_in ns c.args.assign ids (recursion_from_All (λ i. i < length ns) ids h.live.constants.within);
      assigns = live_values node ns table desk.live x.state c.args.assign h.live ∙ ap assignment_of (sym kept);
    } in
    let values : AreValuesOf ns model.bindings.value model.values = subst (AreValuesOf ns model.bindings.value) (sym c.in-Ok.ensures.values) assigned in
    checked g.E.Decide.levels g.E.Decide.table g.E.Decide.begins x t ls (code.Sat c.in-Ok.shown) c.said.result _ desk.last c.said.ensures.said h e
    (ap (λ (bs : List Binding). Some (model_found bs)) (kept ∙ sym shown)) (right, refl) values
