use Rattle.std.proofs.Common.{◌≡◌, Some, None, reverse, sym, ◌∙◌}
use Rattle.std.proofs.lemmas.Iterator.Adapters.{YieldsList-from_rev_slice}
use Rattle.std.proofs.lemmas.Iterator.Consumers.{YieldsList-turn}
use Rattle.nz_elaborate.specs.Names.{bound_in}
use Rattle.nz_elaborate.proofs.NameLookup.{bound-reverse, innermost_found, innermost_next}
use Rattle.nz_elaborate.proofs.frames.bound_term.Goals as goal

pub loop-frame-init : goal.loop-frame-init
loop-frame-init c = bound-reverse c.args.frames.now.items c.args.name.now

pub returns-in-Some-get : goal.returns-in-Some-get
returns-in-Some-get c =
    let turn = YieldsList-turn (YieldsList-from_rev_slice c.args.frames.now.items (cc)) c.loop-frame.yielded _ c.loop-frame.yielded_by _ _ c.in-Some.frame c.in-Some.is c.next.ensures.steps in
    let here : bound_in c.in-Some.frame.now c.args.name.now ≡ Some c.in-Some-get.term = cc in
    record { bound = innermost_found c.args.name.now (reverse c.args.frames.now.items) c.loop-frame.yielded c.in-Some.frame c.in-Some-get.term turn.0 turn.1 here _ c.loop-frame.invariant }

pub loop-frame-preserved : goal.loop-frame-preserved
loop-frame-preserved c =
    let turn = YieldsList-turn (YieldsList-from_rev_slice c.args.frames.now.items (cc)) c.loop-frame.yielded _ c.loop-frame.yielded_by _ _ c.in-Some.frame c.in-Some.is c.next.ensures.steps in
    let here : bound_in c.in-Some.frame.now c.args.name.now ≡ None = sym c.get.ensures.bound ∙ c.in_default.is in
    innermost_next c.args.name.now (reverse c.args.frames.now.items) c.loop-frame.yielded c.in-Some.frame turn.0 turn.1 here _ c.loop-frame.invariant
