use Rattle.std.proofs.Common.{ℕ, ◌≡◌, ◌<◌, List, length, sym, ap, ◌∙◌, subst}
use Rattle.std.specs.Prelude.{All}
use Rattle.std.proofs.lemmas.List.Elements.{All-from_recursion}
use Rattle.std.proofs.lemmas.Result.{IfOk-weaker}
use Rattle.nz_spec.specs.terms.Table.{assignment_by}
use Rattle.nz_script.specs.replies.Reply.{Shown}
use Rattle.nz_truth.specs.Outcomes.{AreOutcomes}
use Rattle.nz_session.specs.Valued.{AreShown, numbers_typed, outcomes_shown}
use Rattle.nz_session.proofs.TermValues.{typed_within, told_all}
use Rattle.nz_session.proofs.values.values_shown.Goals as goal

pub outcomes-requires : goal.outcomes-requires
outcomes-requires c =
    let ns = c.args.terms.now in
    let P : ℕ → Type 0 = λ i. i < length ns in
    record {
      within = subst (All P) (sym (c.deref.ensures.value ∙ c.in_ok-roots.ensures.numbers))
          (All-from_recursion P (numbers_typed c.args.asked.now) (typed_within ns c.args.asked.now c.requires.typed.0 c.requires.typed.1));
    }

pub returns : goal.returns
returns c =
    let ns = c.args.terms.now in
    let xs = c.args.asked.now in
    let os = c.in_ok-found.found.items in
    let ps = c.args.values.now in
    let found : AreOutcomes ns (assignment_by ns ps) (numbers_typed xs) os =
    subst (λ (ids : List ℕ). AreOutcomes ns (assignment_by ns ps) ids os) (c.deref.ensures.value ∙ c.in_ok-roots.ensures.numbers) c.in_ok-found.ensures.outcomes in
    record {
      shown = IfOk-weaker c.shows_of.result (λ (shows : List Shown). shows ≡ outcomes_shown xs c.deref-2.result.now) (AreShown ns ps xs)
          (λ shows e ts h. e ∙ ap (outcomes_shown xs) c.deref-2.ensures.value ∙ told_all c.normal_keeps_value.ensures.keeps ns (assignment_by ns ps) xs os ts h found) c.shows_of.ensures.shows;
    }
