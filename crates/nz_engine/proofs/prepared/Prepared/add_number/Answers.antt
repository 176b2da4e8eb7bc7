-- The number is covered, and counted.
use Rattle.std.proofs.Common.{◌≡◌, ◌+◌, sym, ap, ◌∙◌, subst, arith}
use Rattle.nz_search.specs.Levels.{added_by_level, numbers_by_level}
use Rattle.nz_engine.specs.declared.levels.Kind.TheVariants.{Number}
use Rattle.nz_engine.specs.Levels.{IsPlaced}
use Rattle.nz_engine.specs.Preparing.{PreparedState, CoversAlso, IsPrepared}
use Rattle.nz_engine.proofs.AssertionPlaces.{placed_root}
use Rattle.nz_engine.proofs.ClausePreservation.{covered, number_counted}
use Rattle.nz_engine.proofs.prepared.Prepared.add_number.Goals as goal

pub returns-clause-stands : goal.returns-clause-stands
returns-clause-stands c = λ levels next h.
    let ns = c.args.terms.now in
    let t = c.args.term in
    let n = c.args.level in
    let old = c.args.self.now in
    let numbers = numbers_by_level levels in
    let roots = added_by_level levels in
    let mid : PreparedState = record { log = c.self-2.inside.log; form = c.self-2.inside.form; sat = c.self-2.inside.sat; given = c.self-2.inside.given; numbered = c.self-2.inside.numbered; above = c.self-2.inside.above; noted = c.self-2.inside.noted.items } in
    let also : CoversAlso ns old t n mid = subst (CoversAlso ns old t n) (sym c.self-2.view_is) c.in_ok-cover.ensures.covered in
    let root = placed_root Number levels old.numbered t n next.placed in
    let before : IsPrepared ns levels roots mid =
    covered ns levels roots old mid t n also h c.atoms_of_terms.ensures.atoms c.rows_name_covered.ensures.named c.taken_terms_are_in_order.ensures.order (record { sums = c.forms_are_sums.ensures.sums; operands = c.operands_are_sorted.ensures.sorted }) c.known_table.ensures.table c.requires.within c.requires.taken
    root.1 root.0 next.given next.numbered in
    let same : mid.numbered ≡ c.self.inside.numbered = also.numbered ∙ sym (ap (λ (s : PreparedState). s.numbered) c.self.view_is) in
    let count : c.in-Some.numbered ≡ c.self.inside.numbered + 1 = c.in-Some.ensures.1 in
    let there : IsPlaced numbers mid.numbered t n = subst (λ k. IsPlaced numbers k t n) (sym also.numbered) next.placed in
    number_counted ns levels roots mid t n c.in-Some.numbered (omega (arith, same, count)) there also.here before
