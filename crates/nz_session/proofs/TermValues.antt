-- The values that a model gives terms, as they are told.
use Rattle.std.proofs.Common.{◌≡◌, ℕ, ◌<◌, List, [], ◌∷◌, ◌++◌, length, map, Option, Some, None, option_map, inl, inr, refl, sym, ap, ◌∙◌, subst, append-nil}
use Rattle.std.specs.Prelude.{◌⊎◌}
use Rattle.std.specs.List.{AllByRecursion}
use Rattle.nz_spec.specs.terms.Term as spec
use Rattle.nz_spec.specs.terms.Term.{Term, Terms, no_terms, terms, Assignment, value_of}
use Rattle.nz_spec.specs.terms.Normal.{normal_of, NormalKeepsValue}
use Rattle.nz_fractions.specs.Fraction.{first_wide}
use Rattle.nz_spec.specs.terms.Operations.{operations_of}
use Rattle.nz_spec.specs.terms.Table.{Node, term_in}
use Rattle.nz_script.specs.live.Live.{LastAnswer, model_found}
use Rattle.nz_spec.specs.terms.Model.{assignment_of}
use Rattle.nz_script.specs.commands.Command.{Asked, Command, get_value, accepted}
use Rattle.nz_script.specs.commands.Script.{asked_of, outcome_of}
use Rattle.nz_script.specs.replies.Reply.{Shown, shown_value, shown_wide, term_shown, values as values_reply}
use Rattle.nz_script.specs.replies.Right.{Context, shown_under, AreRightValues}
use Rattle.nz_script.specs.text.Tree.{Tree}
use Rattle.nz_script.specs.text.Text.{intact}
use Rattle.nz_elaborate.specs.declared.typed.Typed.{Typed}
use Rattle.nz_elaborate.specs.Typed.{IsTyped, AreTyped}
use Rattle.nz_script.specs.text.Reading.{trees_from}
use Rattle.nz_script.specs.commands.Request.{Question, Request, shows_values, echoes}
use Rattle.nz_script.specs.commands.Parse.{request_of}
use Rattle.nz_script.specs.commands.Argument.{argument_of, Tells, ArgumentTells}
use Rattle.nz_sort.specs.Live.{AsksValues}
use Rattle.nz_reply.specs.Replies.{reply_of}
use Rattle.nz_reply.specs.Values.{asked_by, echoed_by, with_shown}
use Rattle.nz_reply.specs.declared.reply.Reply.TheVariants as code
use Rattle.nz_term.specs.Values as own
use Rattle.nz_truth.specs.declared.walk.Outcome.{Outcome}
use Rattle.nz_truth.specs.declared.walk.Outcome.TheVariants as outcome
use Rattle.nz_truth.specs.Outcomes.{IsOutcome, AreOutcomes}
use Rattle.nz_search.specs.Levels.{Level}
use Rattle.nz_session.specs.Desk.{last_of, AreValuesOf, KeepsValues, Holds, IsAnswer, asked_in}
use Rattle.nz_session.specs.Valued.{AreShown, numbers_typed, outcome_shown, outcomes_shown, terms_shown}
use Rattle.nz_session.specs.declared.desk.Desk.{Desk}
use Rattle.nz_session.specs.declared.desk.Answer.{Answer}
use Rattle.nz_session.specs.declared.models.FoundModel.{FoundModel}
use Rattle.nz_session.specs.declared.desk.LastAnswer.TheVariants.{Model}
use Rattle.nz_session.proofs.RightAnswers.{plainly, told_answer}

-- ---- Outcomes, as they are told

pub typed_within : (ns : List Node) (xs : List Typed) (ts : Terms) → AreTyped ns xs ts → AllByRecursion (λ i. i < length ns) (numbers_typed xs)
typed_within ns [] ts h = tt
typed_within ns (x ∷ xs) no_terms h = absurd h
typed_within ns (x ∷ xs) (terms t ts) h = (h.0.within, typed_within ns xs ts h.1)

told_one : NormalKeepsValue → (ns : List Node) (a : Assignment) (x : Typed) (o : Outcome) (t : Term) → IsTyped ns x t → IsOutcome a (term_in ns x.id) o → outcome_shown x.sort o ≡ term_shown a t
told_one law ns a x (outcome.Value v) t h e =
    let first : first_wide (operations_of a (normal_of t)) ≡ None = subst (λ u. first_wide (operations_of a u) ≡ None) h.normal e.0 in
    let value = e.1 ∙ ap (value_of a) h.normal ∙ law a t in
    ap (λ s. shown_value s (own.value_of v)) h.sort ∙ ap (shown_value (spec.sort_of t)) value
    ∙ sym (ap (λ o. elim o [ Some w ↦ shown_wide w | None ↦ shown_value (spec.sort_of t) (value_of a t) ]) first)
told_one law ns a x (outcome.Wide w) t h e =
    let first = sym (ap (λ u. first_wide (operations_of a u)) h.normal) ∙ e in
    sym (ap (λ o. elim o [ Some w ↦ shown_wide w | None ↦ shown_value (spec.sort_of t) (value_of a t) ]) first)

pub told_all : NormalKeepsValue → (ns : List Node) (a : Assignment) (xs : List Typed) (os : List Outcome) (ts : Terms) → AreTyped ns xs ts → AreOutcomes ns a (numbers_typed xs) os
    → outcomes_shown xs os ≡ terms_shown a ts
told_all law ns a [] os no_terms h e = refl
told_all law ns a [] os (terms t ts) h e = absurd h
told_all law ns a (x ∷ xs) os no_terms h e = absurd h
told_all law ns a (x ∷ xs) [] (terms t ts) h e = absurd e
told_all law ns a (x ∷ xs) (o ∷ os) (terms t ts) h e =
    ap (λ s. s ∷ outcomes_shown xs os) (told_one law ns a x o t h.0 e.0) ∙ ap (λ l. term_shown a t ∷ l) (told_all law ns a xs os ts h.1 e.1)

outcomes_nil : (xs : List Typed) → outcomes_shown xs [] ≡ []
outcomes_nil [] = refl
outcomes_nil (x ∷ xs) = refl

pub told_end : (xs : List Typed) (os : List Outcome) (all total : List Shown) → (xs ≡ []) ⊎ (os ≡ []) → all ++ outcomes_shown xs os ≡ total → all ≡ total
told_end xs os all total (inl e) h = sym (append-nil all) ∙ ap (λ l. all ++ l) (sym (ap (λ l. outcomes_shown l os) e)) ∙ h
told_end xs os all total (inr e) h = sym (append-nil all) ∙ ap (λ l. all ++ l) (sym (ap (outcomes_shown xs) e ∙ outcomes_nil xs)) ∙ h

-- ---- The values that are asked for

abbrev question_trees : List Question → List Tree
question_trees qs = map (λ (q : Question). q.tree) qs

told_trees : (a : Assignment) (qs : List Question) (us : Terms) → with_shown (trees_from (question_trees qs)) (terms_shown a us) ≡ map (shown_under a) (asked_of qs us)
told_trees a [] us = refl
told_trees a (q ∷ qs) no_terms = refl
told_trees a (q ∷ qs) (terms u us) = ap (λ l. (q.tree, term_shown a u) ∷ l) (told_trees a qs us)

-- what a command shows stands in its argument
values_told : ArgumentTells → (t : Tree) (r : Request) (qs : List Question) → request_of t ≡ Some r → r ≡ shows_values qs → asked_by t ≡ trees_from (question_trees qs)
values_told tells t r qs e f = subst (Tells (argument_of t)) (e ∙ ap Some f) (tells t)

pub echo_told : ArgumentTells → (t : Tree) (r : Request) (text : List ℕ) → request_of t ≡ Some r → r ≡ echoes text → echoed_by t ≡ text
echo_told tells t r text e f = subst (Tells (argument_of t)) (e ∙ ap Some f) (tells t)

-- ---- The answer to get-value

pub values_answer : {E : Type 0} (levels : E → List Level) (table : E → List Node) (begins : E → List Term → Type 0) (tells : ArgumentTells) (c : Context) (t : Tree) (r : Request) (k : Command) (xs : List Typed) (shows : List Shown) (m : FoundModel) (answer : Answer) (desk : Desk E)
    → answer ≡ plainly (code.Values shows) → Holds levels table begins desk (asked_in c t) → desk.last ≡ Some (Model m)
    → request_of t ≡ Some r → outcome_of c.state t ≡ accepted k → AsksValues desk.terms xs r k → AreShown desk.terms m.values xs shows
    → IsAnswer levels table begins c (intact t) answer desk
values_answer levels table begins tells c t r k xs shows m answer desk is h kept parsed e q shown =
    let ns = desk.terms in
    let last : c.state.last ≡ Some (model_found m.bindings.value) = sym h.last ∙ ap (option_map last_of) kept in
    let values : AreValuesOf ns m.bindings.value m.values = subst (KeepsValues ns) kept h.values in
    let list : shows ≡ terms_shown (assignment_of m.bindings.value) q.terms = shown q.terms q.typed ∙ ap (λ a. terms_shown a q.terms) values.assigns in
    let asks : List Asked = asked_of q.questions q.terms in
    let told : List (Tree × Shown) = map (shown_under (assignment_of m.bindings.value)) asks in
    let tells : reply_of (intact t) (code.Values shows) ≡ values_reply told =
    ap values_reply (ap (λ ts. with_shown ts shows) (values_told tells t r q.questions parsed q.request) ∙ ap (with_shown (trees_from (question_trees q.questions))) list ∙ told_trees (assignment_of m.bindings.value) q.questions q.terms) in
    let right : AreRightValues c.state.last asks (values_reply told) = subst (λ (o : Option LastAnswer). AreRightValues o asks (values_reply told)) (sym last) refl in
    told_answer levels table begins c t (get_value asks) (code.Values shows) (values_reply told) answer desk is tells tt (e ∙ ap accepted q.is) (right, refl)
    h (λ x. cc)
