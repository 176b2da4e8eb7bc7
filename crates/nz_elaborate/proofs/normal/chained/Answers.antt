use Rattle.std.proofs.Common.{◌≡◌, suc, ◌<◌, ◌≤◌, length, get_or, IfOk, ap, ◌∙◌, subst, arith}
use Rattle.std.proofs.lemmas.List.Elements.{All-get_or}
use Rattle.nz_spec.specs.terms.Term.{conjunction}
use Rattle.nz_spec.specs.terms.Normal.{neighbours_of, joined_by}
use Rattle.nz_spec.specs.terms.Table.{term_in, terms_at}
use Rattle.nz_elaborate.specs.Typed.{StandsFor}
use Rattle.nz_elaborate.specs.Links.{link_pair}
use Rattle.nz_elaborate.proofs.TableGrowth.{push_within}
use Rattle.nz_elaborate.proofs.NormalTerms.{neighbours_next, neighbours_all}
use Rattle.nz_elaborate.proofs.normal.chained.Goals as goal

pub loop-i-preserved : goal.loop-i-preserved
loop-i-preserved c =
    let old = c.args.terms.now in
    let kids = c.args.kids.now in
    let i = c.loop-i.i in
    let here = c.in_ok-made.ensures in
    let items = c.in_ok-push.ensures.items in
    let below : suc i < length kids = omega arith in
    let first : get_or kids i 0 < length old = All-get_or (λ k. k < length old) kids i 0 (omega arith) c.requires.within in
    let second : get_or kids (suc i) 0 < length old = All-get_or (λ k. k < length old) kids (suc i) 0 below c.requires.within in
    record {
      grown = c.grows_twice.ensures.twice _ _ _ c.loop-i.invariant.grown here.grows;
      within = push_within _ _ c.loop-i.links.items _ c.in_ok-made.made here.grows c.loop-i.invariant.within here.made.within items;
      made = neighbours_next (link_pair c.args.link) old c.loop-i.terms c.linked.new.terms kids c.loop-i.links.items _ i c.in_ok-made.made c.loop-i.invariant.grown here.grows below first second
          c.loop-i.invariant.within here.made items
          ∙ c.loop-i.invariant.made;
    }

pub returns-clause-made : goal.returns-clause-made
returns-clause-made c =
    let old = c.args.terms.now in
    let kids = c.args.kids.now in
    let above : length kids ≤ suc c.loop-i.i = omega arith in
    let pair = link_pair c.args.link in
    let whole : terms_at (term_in c.loop-i.terms) c.as_slice.result.now ≡ neighbours_of pair (terms_at (term_in old) kids) =
    ap (terms_at (term_in c.loop-i.terms)) c.as_slice.ensures.value ∙ neighbours_all pair old c.loop-i.terms kids c.loop-i.links.items c.loop-i.i above c.loop-i.invariant.made in
    subst (λ ts. IfOk c.joined.result (λ id. StandsFor c.joined.new.terms id (joined_by conjunction ts))) whole c.joined.ensures.made
