-- The listed numbers have levels, and what is left is listed.
use Rattle.std.proofs.Common.{◌≡◌, ℕ, List, Option, ◌∙◌, ap, subst, All, filter, is_some, slice_index_or, None}
use Rattle.nz_log.specs.Logs.{told_below}
use Rattle.nz_cform.specs.Listings.{ListingState, Cuts}
use Rattle.nz_cform.proofs.Listed.{cuts_from, cuts_listed, listed_within}
use Rattle.nz_cform.proofs.listing.Listing.cut.Goals as goal

pub take_off_above-requires : goal.take_off_above-requires
take_off_above-requires c =
    let s : ListingState = record { ids = c.self.inside.ids.items; levels = c.self.inside.levels.items } in
    record { within = rw c.as_slice.ensures.value (listed_within s c.self.invariant) }

-- what the calls did to the fields
inside_cut : (c : goal.After-keep_listed)
    → Cuts (record { ids = c.self.inside.ids.items; levels = c.self.inside.levels.items }) c.args.level
    (record { ids = c.keep_listed.new.ids.items; levels = c.take_off_above.new.levels.items })
inside_cut c =
    let old = c.self.inside.levels.items in
    let new = c.take_off_above.new.levels.items in
    let ids = c.self.inside.ids.items in
    cuts_from _ _ c.args.level c.self.invariant
    (subst (λ (l : List ℕ). All (λ i. slice_index_or new i None ≡ told_below c.args.level (slice_index_or old i None)) l) c.as_slice.ensures.value c.take_off_above.ensures.below)
    c.take_off_above.ensures.others
    (c.keep_listed.ensures.kept ∙ ap (λ (l : List (Option ℕ)). filter (λ i. is_some (slice_index_or l i None)) ids) c.as_slice-2.ensures.value)

pub invariant_of-self : goal.invariant_of-self
invariant_of-self c = cuts_listed _ c.args.level _ (inside_cut c) c.self.invariant

pub returns : goal.returns
returns c =
    let P : ListingState → Type 0 = λ s. Cuts s c.args.level (record { ids = c.keep_listed.new.ids.items; levels = c.take_off_above.new.levels.items }) in
    record { cuts = subst P c.self.view_is (inside_cut c) }
