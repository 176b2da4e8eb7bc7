use Rattle.nz_term.proofs.ListedTerms.{AreListed}
use Rattle.nz_term.proofs.listings.listing_order.Given as goal

abbrev pub invariant-loop-id : goal.invariant-loop-id
invariant-loop-id l = AreListed l.terms l.id-items l.listing l.id-index
