-- One term after another, in post-order.
use Rattle.std.proofs.Common.{◌<◌, ◌≤◌, [], length, map, sym, subst, arith}
use Rattle.std.specs.Prelude.{flat_map}
use Rattle.nz_spec.specs.terms.Table.{term_in}
use Rattle.nz_spec.specs.terms.Order.{post_order, AreFirst}
use Rattle.nz_term.proofs.ListedTerms.{finish, step}
use Rattle.nz_term.proofs.listings.listing_order.Goals as goal

pub loop-id-preserved : goal.loop-id-preserved
loop-id-preserved c =
    let ns = c.args.terms.now in
    let list = c.deref-id-items.result.now in
    let one = c.one_number.ensures.one ns c.len.ensures.table in
    let inside : c.loop-id.id-index < length list = omega arith in
    step ns list c.loop-id.listing c.list_term.new.listing c.loop-id.id-index c.loop-id.invariant inside (λ all. c.in_ok-list_term.ensures.listed all one)

pub returns-clause-order : goal.returns-clause-order
returns-clause-order c =
    let ns = c.args.terms.now in
    let list = c.deref-id-items.result.now in
    let all : length list ≤ c.loop-id.id-index = omega arith in
    finish ns list c.loop-id.listing c.loop-id.id-index c.args.roots.now c.loop-id.invariant all
    (subst (λ l. AreFirst [] (flat_map post_order (map (term_in ns) c.args.roots.now)) (map (term_in ns) l)) (sym c.deref-id-items.ensures.value) c.in_ok-order.ensures.order)
