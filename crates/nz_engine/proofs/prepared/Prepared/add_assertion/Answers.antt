-- The term is covered, and then its clause is put and held.
use Rattle.std.proofs.Common.{◌≡◌, ◌+◌, refl, sym, ap, ◌∙◌, subst, arith}
use Rattle.nz_search.specs.Levels.{added_by_level, asserted_by_level}
use Rattle.nz_engine.specs.declared.levels.Kind.TheVariants.{Asserted}
use Rattle.nz_engine.specs.Levels.{IsPlaced}
use Rattle.nz_engine.specs.Preparing.{PreparedState, CoversAlso, IsPrepared, IsSeen}
use Rattle.nz_engine.proofs.AssertionPlaces.{placed_root}
use Rattle.nz_engine.proofs.ClausePreservation.{assertion_given, covered}
use Rattle.nz_engine.proofs.SeenClauses.{seen_put}
use Rattle.nz_engine.proofs.prepared.Prepared.add_assertion.Goals as goal

pub add-requires-clause-since : goal.add-requires-clause-since
add-requires-clause-since c =
    let mid = c.self-2.inside in
    seen_put mid.sat.seen mid.log c.given.new.self mid.sat.clauses c.in_ok-clause.ensures.made (subst IsSeen (sym c.self-2.view_is) c.in_ok-cover.ensures.covered.seen)

pub returns-clause-stands : goal.returns-clause-stands
returns-clause-stands c = λ levels next h.
    let ns = c.args.terms.now in
    let t = c.args.term in
    let n = c.args.level in
    let old = c.args.self.now in
    let asserted = asserted_by_level levels in
    let roots = added_by_level levels in
    let mid : PreparedState = record { log = c.self-2.inside.log; form = c.self-2.inside.form; sat = c.self-2.inside.sat; given = c.self-2.inside.given; numbered = c.self-2.inside.numbered; above = c.self-2.inside.above; noted = c.self-2.inside.noted.items } in
    let new : PreparedState = record { log = c.given.new.self; form = c.self-2.inside.form; sat = c.add.new.self; given = c.in-Some.given; numbered = c.self-2.inside.numbered; above = c.self-2.inside.above; noted = c.self-2.inside.noted.items } in
    let also : CoversAlso ns old t n mid = subst (CoversAlso ns old t n) (sym c.self-2.view_is) c.in_ok-cover.ensures.covered in
    let root = placed_root Asserted levels old.given t n next.placed in
    let before : IsPrepared ns levels roots mid =
    covered ns levels roots old mid t n also h c.atoms_of_terms.ensures.atoms c.rows_name_covered.ensures.named c.taken_terms_are_in_order.ensures.order (record { sums = c.forms_are_sums.ensures.sums; operands = c.operands_are_sorted.ensures.sorted }) c.known_table.ensures.table c.requires.within c.requires.taken.taken
    root.1 root.0 next.given next.numbered in
    let same : mid.given ≡ c.self.inside.given = also.given ∙ sym (ap (λ (s : PreparedState). s.given) c.self.view_is) in
    let count : c.in-Some.given ≡ c.self.inside.given + 1 = c.in-Some.ensures.1 in
    let there : IsPlaced asserted mid.given t n = subst (λ k. IsPlaced asserted k t n) (sym also.given) next.placed in
    assertion_given ns levels roots mid new c.in_ok-clause.clause t n c.in_ok-clause.ensures.made c.in_ok-clause.ensures.there c.in_ok-add.ensures.added c.in_ok-add.ensures.seen refl (omega (arith, same, count)) refl there (also.told t) before
    c.atoms_of_terms.ensures.atoms c.covers_stay.ensures.stay c.logs_stay_leveled.ensures.stay also.here c.requires.taken.boolean
    (c.in_ok-clause.ensures.sound ns asserted c.requires.within there.live before.order)
