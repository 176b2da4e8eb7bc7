-- The clause of each number is spelled out behind those that it is made of.
use Rattle.std.proofs.Common.{◌≡◌, ℕ, ◌<◌, ◌≤◌, ◌++◌, List, length, true, false, Option, Some, None, ap, sym, subst, ◌∙◌, add-one, arith, rules}
use Rattle.std.proofs.Math.ListN.{length-set}
use Rattle.nz_spec.specs.terms.Table.{Node, IsTable}
use Rattle.nz_log.specs.Logs.{Entry, level_at}
use Rattle.nz_log.specs.Sound.{IsLog}
use Rattle.nz_log.specs.Spelling.{is_marked, AreMarked, IsClosed, origin_place, origin_steps, steps_of}
use Rattle.nz_log.specs.Stored.{entry_of}
use Rattle.nz_log.proofs.MarkUpdates.{marked_within, same_get}
use Rattle.nz_log.proofs.LiteralAgreement.{literals_agree}
use Rattle.nz_log.proofs.StepLists.{steps_long}
use Rattle.nz_log.proofs.Spelled.{ArePlaced, all_derive, placed_first, placed_next, placed_skip}
use Rattle.nz_log.proofs.steps.spelled.Goals as goal
use Rattle.nz_log.proofs.steps.spelled.Goals.{then-index+in_ok-place, else-index}

pub loop-i-init : goal.loop-i-init
loop-i-init c = record { long = search rules; placed = λ ns levels table order. search (rules, placed_first) }

pub loop-i-preserved : goal.loop-i-preserved
loop-i-preserved c =
    let s = c.args.log.now in
    let i = c.loop-i.i in
    let marks = c.in_ok-marks.marks.items in
    let need = c.in_ok-marks.ensures.needed in
    let places = c.loop-i.places.items in
    let steps = c.loop-i.steps.items in
    let last = marked_within marks c.args.id need.itself in
    let within : i < length marks = omega (arith, last) in
    let grow = c.derivations_grow.ensures.grow in
    let agree = λ (ns : List Node) (table : IsTable ns) (levels : List (List ℕ)) (order : IsLog ns levels s).
    literals_agree c.tells_literals.ensures.tells c.one_number.ensures.one ns table s.atoms order.atoms in
    elim c.if-index.branch [
      | then-index+in_ok-place w ↦
          let here : is_marked marks i ≡ true = same_get marks i false c.index.result.now within ∙ sym c.index.ensures ∙ w.if-index.true in
          let e = entry_of w.stored.result.now in
          let at = w.stored.ensures.stored in
          let same : level_at s i ≡ e.level = ap (λ o. elim o [ None ↦ 0 | Some f ↦ f.level ]) at in
          let low = (need.live i here).1 in
          let below : e.level ≤ level_at s c.args.id = omega (arith, same, low) in
          let P : Option Entry → Type 0 = IsClosed marks in
          let marked : AreMarked marks e.origin = subst P at (need.closed i here) in
          let room : i < length places = omega (arith, within, need.long, c.loop-i.invariant.long) in
          let next = w.spell.new.steps.items in
          let Q : List ℕ → Type 0 = λ ps. (ns : List Node) → steps_of ns next ≡ steps_of ns steps ++ origin_steps ns s.atoms ps (length steps) e.origin in
          let spelled : Q places = subst Q w.deref.ensures.value w.in_ok-place.ensures.spelled in
          let R : List ℕ → Type 0 = λ ps. w.in_ok-place.place ≡ origin_place ps (length steps) e.origin in
          let place_is : R places = subst R w.deref.ensures.value w.in_ok-place.ensures.place in
          rw (w.places-is, w.steps-is)
          (record {
            long = length-set places i _ ∙ c.loop-i.invariant.long;
            placed = λ ns levels table order.
                rw add-one
                (placed_next grow ns table levels s (agree ns table levels order) order (level_at s c.args.id) marks places (steps_of ns steps) (length steps) (steps_long ns steps) i
                (c.loop-i.invariant.placed ns levels table order) e at below marked room (steps_of ns next) (spelled ns) w.in_ok-place.place place_is);
          })
      | else-index w ↦
          let here : is_marked marks i ≡ false = same_get marks i false c.index.result.now within ∙ sym c.index.ensures ∙ w.if-index.false in
          rw (w.places-is, w.steps-is)
          (record {
            long = c.loop-i.invariant.long;
            placed = λ ns levels table order.
                rw add-one
                (placed_skip grow ns table levels s (agree ns table levels order) order (level_at s c.args.id) marks places (steps_of ns steps) (length steps) (steps_long ns steps) i
                (c.loop-i.invariant.placed ns levels table order) here);
          })
    ]

pub returns : goal.returns
returns c =
    let s = c.args.log.now in
    let agree = λ (ns : List Node) (table : IsTable ns) (levels : List (List ℕ)) (order : IsLog ns levels s).
    literals_agree c.tells_literals.ensures.tells c.one_number.ensures.one ns table s.atoms order.atoms in
    let marks = c.in_ok-marks.marks.items in
    let need = c.in_ok-marks.ensures.needed in
    let places = c.loop-i.places.items in
    let steps = c.loop-i.steps.items in
    let e = entry_of c.stored-2.result.now in
    let at = c.stored-2.ensures.stored in
    let end : c.loop-i.i ≡ c.args.id = omega arith in
    let P : Option Entry → Type 0 = IsClosed marks in
    let marked : AreMarked marks e.origin = subst P at (need.closed c.args.id need.itself) in
    let next = c.spell-2.new.steps.items in
    let Q : List ℕ → Type 0 = λ ps. (ns : List Node) → steps_of ns next ≡ steps_of ns steps ++ origin_steps ns s.atoms ps (length steps) e.origin in
    let spelled : Q places = subst Q c.deref-2.ensures.value c.in_ok-spell.ensures.spelled in
    record {
      derives = λ ns levels table order.
          let N : ℕ → Type 0 = λ n. ArePlaced ns levels s (level_at s c.args.id) marks places (steps_of ns steps) n in
          all_derive c.derivations_grow.ensures.grow ns table levels s (agree ns table levels order) order marks places (steps_of ns steps) (length steps) (steps_long ns steps) c.args.id
          (subst N end (c.loop-i.invariant.placed ns levels table order)) e at c.stored-2.ensures.rests marked (steps_of ns next) (spelled ns);
    }
