-- One more multiple, of the literal that was told for its reason.
use Rattle.std.proofs.Common.{◌≡◌, ◌<◌, ◌+◌, [], ◌∷◌, ◌++◌, length, map, take, sym, ap, ◌∙◌, false, rules}
use Rattle.std.proofs.lemmas.List.{get_or_read, map-append, take_more}
use Rattle.nz_reals.specs.declared.reals.MarkedLiteral.{MarkedLiteral}
use Rattle.nz_reals.specs.State.{Theory, lit_at}
use Rattle.nz_reals.specs.Tells.{multiple_at}
use Rattle.nz_reals.proofs.reals.Reals.multiples.Goals as goal

pub loop-reason-preserved : goal.loop-reason-preserved
loop-reason-preserved c =
    let t = c.args.self.now in
    let ws = c.why-reason-items.result.now in
    let i = c.loop-reason.reason-index in
    let w = c.loop-reason-item.result in
    let tolds = c.self.inside.told.items in
    let within : w.0 < length tolds = search rules in
    let none : MarkedLiteral = record { literal = record { atom = 0; sign = false }; mark = 0 } in
    let told : c.index.result.now.literal ≡ lit_at t w.0 =
    ap (λ (x : MarkedLiteral). x.literal) (get_or_read tolds w.0 c.index.result.now within c.index.ensures none) ∙ ap (λ (v : Theory). lit_at v w.0) c.self.view_is in
    let more : take (i + 1) ws ≡ take i ws ++ w ∷ [] = take_more ws i w c.loop-reason-test.true ∙ ap (λ x. take i ws ++ x ∷ []) (sym c.loop-reason-item.is) in
    c.in_ok-push.ensures.items ∙ ap (λ l. c.loop-reason.multiples.items ++ record { literal = l; multiplier = w.1 } ∷ []) told
    ∙ ap (λ ms. ms ++ multiple_at t w ∷ []) c.loop-reason.invariant ∙ sym (map-append (multiple_at t) (take i ws) (w ∷ [])) ∙ ap (map (multiple_at t)) (sym more)
