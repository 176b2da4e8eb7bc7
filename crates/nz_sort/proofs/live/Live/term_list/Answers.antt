use Rattle.std.proofs.Common.{◌≡◌, ◌∙◌, ◌++◌, ◌<◌, All, length, sym, subst}
use Rattle.std.proofs.lemmas.Result.{IfOk-weaker}
use Rattle.std.proofs.lemmas.List.Elements.{All-append}
use Rattle.nz_sort.specs.Live.{accepted_by}
use Rattle.nz_sort.proofs.LiveStates.{listed_terms}
use Rattle.nz_sort.proofs.live.Live.term_list.Goals as goal

pub listing_order-requires : goal.listing_order-requires
listing_order-requires c =
    let ns = c.args.terms.now in
    let live = c.requires.live.1 in
    let roots : c.as_slice.result.now ≡ accepted_by c.args.self.now ++ c.args.assumed.now = c.as_slice.ensures.value ∙ c.in_ok-roots.ensures.roots in
    record {
      within = subst (All (λ i. i < length ns)) (sym roots) (All-append (λ i. i < length ns) (accepted_by c.args.self.now) c.args.assumed.now live.accepted.within c.requires.within);
      companions = live.companions;
    }

pub returns-clause-list : goal.returns-clause-list
returns-clause-list c =
    let roots : c.as_slice.result.now ≡ accepted_by c.args.self.now ++ c.args.assumed.now = c.as_slice.ensures.value ∙ c.in_ok-roots.ensures.roots in
    IfOk-weaker c.listing_order.result _ _ (λ ids first s live. listed_terms c.args.terms.now c.args.self.now s c.args.assumed.now c.as_slice.result.now ids.items roots live first) c.listing_order.ensures.order
