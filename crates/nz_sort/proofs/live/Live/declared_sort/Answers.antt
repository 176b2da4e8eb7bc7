use Rattle.std.proofs.Common.{◌≡◌, ◌∙◌, ◌||◌, map, is_some, true, false, ap, sym, rules}
use Rattle.std.specs.List.{list_any}
use Rattle.nz_script.specs.commands.Script.{is_unknown_sort}
use Rattle.nz_command.specs.Requests.{sort_view}
use Rattle.nz_sort.specs.Live.{Standing}
use Rattle.nz_sort.proofs.DeclarationRules.{sort_unknown, name_declared, no_sort, unknown_each, has_arguments}
use Rattle.nz_sort.proofs.LiveStates.{looked_up}
use Rattle.nz_sort.proofs.live.Live.declared_sort.Goals as goal
use Rattle.nz_sort.proofs.live.Live.declared_sort.Goals.{then-has_unknown_sort-via-then-has_unknown_sort, then-has_unknown_sort-via-else-has_unknown_sort+then-is_unknown_sort}

pub returns-then-has_unknown_sort-clause-refused : goal.returns-then-has_unknown_sort-clause-refused
returns-then-has_unknown_sort-clause-refused c = λ ns s live.
    let ws = c.args.sorts.now in
    let sort = sort_view c.args.sort.now in
    let told : (list_any is_unknown_sort (map sort_view ws) || is_unknown_sort sort) ≡ true =
    elim c.then-has_unknown_sort.branch [
      | then-has_unknown_sort-via-then-has_unknown_sort w ↦
          ap (λ b. b || is_unknown_sort sort) (sym (unknown_each ws) ∙ sym c.has_unknown_sort.ensures.unknown ∙ w.if-has_unknown_sort.true)
      | then-has_unknown_sort-via-else-has_unknown_sort+then-is_unknown_sort w ↦
          ap (λ b. b || is_unknown_sort sort) (sym (unknown_each ws) ∙ sym c.has_unknown_sort.ensures.unknown ∙ w.if-has_unknown_sort.false)
          ∙ sym w.is_unknown_sort.ensures.unknown
          ∙ w.if-is_unknown_sort.true
    ] in
    sort_unknown s c.args.name.now (map sort_view ws) sort told

pub returns-then-is_some-clause-refused : goal.returns-then-is_some-clause-refused
returns-then-is_some-clause-refused c = λ ns s live.
    let ws = c.args.sorts.now in
    let sort = sort_view c.args.sort.now in
    let there : is_some c.get.result ≡ true = search rules in
    name_declared s c.args.name.now (map sort_view ws) sort
    (ap (λ b. b || is_unknown_sort sort) (sym (unknown_each ws) ∙ sym c.has_unknown_sort.ensures.unknown ∙ c.if-has_unknown_sort.false)
    ∙ sym c.is_unknown_sort.ensures.unknown ∙ c.if-is_unknown_sort.false)
    (looked_up ns c.args.self.now s _ c.args.name.now c.get.result (ap (λ (st : Standing). st.names) c.self.view_is) live c.get.ensures.named c.get.ensures.none ∙ there)

pub returns-then-not-is_empty-clause-refused : goal.returns-then-not-is_empty-clause-refused
returns-then-not-is_empty-clause-refused c = λ ns s live.
    let ws = c.args.sorts.now in
    let sort = sort_view c.args.sort.now in
    let absent : is_some c.get.result ≡ false = search rules in
    let filled : c.is_empty.result ≡ false = cc in
    no_sort s c.args.name.now (map sort_view ws) sort
    (ap (λ b. b || is_unknown_sort sort) (sym (unknown_each ws) ∙ sym c.has_unknown_sort.ensures.unknown ∙ c.if-has_unknown_sort.false)
    ∙ sym c.is_unknown_sort.ensures.unknown ∙ c.if-is_unknown_sort.false)
    (looked_up ns c.args.self.now s _ c.args.name.now c.get.result (ap (λ (st : Standing). st.names) c.self.view_is) live c.get.ensures.named c.get.ensures.none ∙ absent)
    (has_arguments ws sort (sym c.is_empty.ensures ∙ filled))
