use Rattle.std.proofs.Common.{rules, ◌≡◌, ◌+◌, ◌++◌, ◌∷◌, [], ℕ, ap, length, subst, sym, ◌∙◌}
use Rattle.std.proofs.lemmas.List.{length-append}
use Rattle.nz_reals.specs.Exclusions.{AreJoined, AreMarked, AreOpen}
use Rattle.nz_reals.proofs.Joints.{joined_pushed, open_pushed}
use Rattle.nz_reals.proofs.neighbours.joined.Goals as goal

pub is_joined-requires-clause-noted : goal.is_joined-requires-clause-noted
is_joined-requires-clause-noted c =
    subst (AreMarked c.args.log.now c.args.held.now c.args.lowers.now c.args.slots.now c.args.places.now) (sym c.deref.ensures.value) c.in_ok-marks.ensures.noted

pub loop-place-preserved : goal.loop-place-preserved
loop-place-preserved c =
    let log = c.args.log.now in
    let held = c.args.held.now in
    let xs = c.args.lowers.now in
    let old = c.loop-place.joined.items in
    let place = c.loop-place.place in
    let b = c.is_joined.result in
    let items : c.push.new.self.items ≡ old ++ b ∷ [] = search rules in
    record {
      long = ap length items ∙ length-append old (b ∷ []) ∙ ap (λ (n : ℕ). n + 1) c.loop-place.invariant.long;
      joined = subst (AreJoined log held xs) (sym items) (joined_pushed log held xs old b place c.loop-place.invariant.long c.is_joined.ensures.yes c.loop-place.invariant.joined);
      others = subst (AreOpen log held xs) (sym items) (open_pushed log held xs old b place c.loop-place.invariant.long c.is_joined.ensures.no c.loop-place.invariant.others);
    }
