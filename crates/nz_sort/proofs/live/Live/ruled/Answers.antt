use Rattle.std.proofs.Common.{◌≡◌, ◌∙◌, ◌||◌, false, length, refl, ap, sym, rules}
use Rattle.nz_sexpr.specs.View.{view}
use Rattle.nz_script.specs.text.Bounds.{has_token, is_long_decimal}
use Rattle.nz_script.specs.commands.Limits.{passes_limit}
use Rattle.nz_script.specs.live.Live.{State}
use Rattle.nz_script.specs.commands.Script.{outcome_by, outcome_requested}
use Rattle.nz_script.specs.commands.Command.{refused}
use Rattle.nz_spec.specs.outside.Error.{past_limit}
use Rattle.nz_base.specs.declared.reply_errors.Error.TheVariants.{Limit, TooWide}
use Rattle.nz_command.specs.Requests.{request}
use Rattle.nz_sort.specs.Live.{Standing, IsLive}
use Rattle.nz_sort.proofs.LevelChanges.{as_many_below}
use Rattle.nz_sort.proofs.LiveStates.{kept_where_same}
use Rattle.nz_sort.proofs.CommandRules.{comes_alike, comes_refused, breaks_own, breaks_places, breaks_width, limit_told, within_bounds}
use Rattle.nz_sort.proofs.live.Live.ruled.Goals as goal
use Rattle.nz_sort.proofs.live.Live.ruled.Goals.{then-faults-via-then-faults, then-faults-via-else-faults+then-passes_limit}

pub returns-then-faults-clause-comes : goal.returns-then-faults-clause-comes
returns-then-faults-clause-comes c =
    let t = view c.args.tree.now in
    let r = request c.args.command.now in
    let l = c.args.self.now in
    let told : (s : State) → IsLive c.args.terms.now l s → outcome_requested s t r ≡ refused past_limit =
    λ s live. elim c.then-faults.branch [
      | then-faults-via-then-faults w ↦ breaks_places s t r (sym c.number_faults-faults.ensures.long ∙ w.if-faults.true)
      | then-faults-via-else-faults+then-passes_limit w ↦
          let kept : w.len.result ≡ length c.self.inside.below.items = search rules in
          let many = kept ∙ as_many_below c.self.inside.below.items l (ap (λ (st : Standing). st.below) c.self.view_is) in
          breaks_own s t r (sym (limit_told _ l s r _ _ _ w.passes_limit.ensures.limit (ap (λ (st : Standing). st.top.constant_count) c.self.view_is) many live) ∙ w.if-passes_limit.true)
    ] in
    comes_refused _ _ _ _ r (λ s. outcome_requested s t r) Limit told (kept_where_same c.args.terms.now) refl

pub returns-then-faults-2-clause-comes : goal.returns-then-faults-2-clause-comes
returns-then-faults-2-clause-comes c =
    let t = view c.args.tree.now in
    let r = request c.args.command.now in
    let l = c.args.self.now in
    let short : has_token is_long_decimal t ≡ false = sym c.number_faults-faults.ensures.long ∙ c.if-faults.false in
    let kept : c.len.result ≡ length c.self.inside.below.items = search rules in
    let many = kept ∙ as_many_below c.self.inside.below.items l (ap (λ (st : Standing). st.below) c.self.view_is) in
    comes_refused _ _ _ _ r (λ s. outcome_requested s t r) TooWide
    (λ s live.
    let own : passes_limit s r ≡ false =
    sym (limit_told _ l s r _ _ _ c.passes_limit.ensures.limit (ap (λ (st : Standing). st.top.constant_count) c.self.view_is) many live) ∙ c.if-passes_limit.false in
    breaks_width s t r (ap (λ b. b || has_token is_long_decimal t) own ∙ short) (sym c.number_faults-faults.ensures.wide ∙ c.if-faults-2.true))
    (kept_where_same c.args.terms.now) refl

pub returns-clause-comes : goal.returns-clause-comes
returns-clause-comes c =
    let t = view c.args.tree.now in
    let r = request c.args.command.now in
    let l = c.args.self.now in
    let short : has_token is_long_decimal t ≡ false = sym c.number_faults-faults.ensures.long ∙ c.if-faults.false in
    let kept : c.len.result ≡ length c.self.inside.below.items = search rules in
    let many = kept ∙ as_many_below c.self.inside.below.items l (ap (λ (st : Standing). st.below) c.self.view_is) in
    comes_alike _ _ _ _ r (λ s. outcome_by s r) (λ s. outcome_requested s t r) c.requested.result
    (λ s live.
    let own : passes_limit s r ≡ false =
    sym (limit_told _ l s r _ _ _ c.passes_limit.ensures.limit (ap (λ (st : Standing). st.top.constant_count) c.self.view_is) many live) ∙ c.if-passes_limit.false in
    within_bounds s t r (ap (λ b. b || has_token is_long_decimal t) own ∙ short) (sym c.number_faults-faults.ensures.wide ∙ c.if-faults-2.false))
    c.requested.ensures.comes
