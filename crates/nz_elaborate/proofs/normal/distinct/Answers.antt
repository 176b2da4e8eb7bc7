use Rattle.std.proofs.Common.{◌≡◌, ◌+◌, ◌-◌, ◌≤◌, length, take, drop, get_or, IfOk, ap, ◌∙◌, subst, arith}
use Rattle.std.proofs.lemmas.List.{take_rest}
use Rattle.nz_spec.specs.terms.Term.{conjunction}
use Rattle.nz_spec.specs.terms.Normal.{disequations_onto, disequations_of, joined_by}
use Rattle.nz_spec.specs.terms.Table.{term_in, terms_at}
use Rattle.nz_elaborate.specs.Typed.{StandsFor, terms_before}
use Rattle.nz_elaborate.proofs.NormalTerms.{disequations_next, disequations_all}
use Rattle.nz_elaborate.proofs.normal.distinct.Goals as goal

pub loop-i-preserved : goal.loop-i-preserved
loop-i-preserved c =
    let kids = c.args.kids.now in
    let i = c.loop-i.i in
    let mid = c.loop-i.terms in
    let new = c.add_disequations.new.terms in
    let items = c.add_disequations.new.disequations.items in
    let ids = c.loop-i.disequations.items in
    let range : take (length kids - (i + 1)) (drop (i + 1) kids) ≡ drop (i + 1) kids = take_rest kids (i + 1) in
    let here = c.in_ok-add_disequations.ensures in
    record {
      grown = c.grows_twice.ensures.twice _ _ _ c.loop-i.invariant.grown here.grows;
      within = here.within;
      made = disequations_next c.args.terms.now mid new kids ids items i c.loop-i.invariant.grown (omega arith) c.requires.within
          (λ more. here.added more ∙ ap (λ l. terms_before (term_in mid) ids (disequations_onto (term_in mid (get_or kids i 0)) (terms_at (term_in mid) l) more)) range)
          ∙ c.loop-i.invariant.made;
    }

pub returns-clause-made : goal.returns-clause-made
returns-clause-made c =
    let old = c.args.terms.now in
    let kids = c.args.kids.now in
    let above : length kids ≤ c.loop-i.i = omega arith in
    let whole : terms_at (term_in c.loop-i.terms) c.as_slice.result.now ≡ disequations_of (terms_at (term_in old) kids) =
    ap (terms_at (term_in c.loop-i.terms)) c.as_slice.ensures.value ∙ disequations_all old c.loop-i.terms kids c.loop-i.disequations.items c.loop-i.i above c.loop-i.invariant.made in
    subst (λ ts. IfOk c.joined.result (λ id. StandsFor c.joined.new.terms id (joined_by conjunction ts))) whole c.joined.ensures.made
