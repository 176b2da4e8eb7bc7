-- A number is put at the end where it isn't marked.
use Rattle.std.proofs.Common.{true, false, arith, refl}
use Rattle.nz_term.proofs.ListedTerms.{list_again, list_anew, mark_read}
use Rattle.nz_term.proofs.listings.Listing.list.Goals as goal

pub returns-then-index-clause-listed : goal.returns-then-index-clause-listed
returns-then-index-clause-listed c =
    λ ns all one w.
    list_again ns all c.args.self.now c.args.id (omega (arith, c.requires.room, w.room))
    (mark_read c.args.self.now.is_listed.items c.args.id c.index.result.now true c.requires.room c.index.ensures c.if-index.true) w

pub returns-clause-listed : goal.returns-clause-listed
returns-clause-listed c =
    λ ns all one w.
    list_anew ns all c.args.self.now _ c.args.id one (omega (arith, c.requires.room, w.room))
    (mark_read c.args.self.now.is_listed.items c.args.id c.index.result.now false c.requires.room c.index.ensures c.if-index.false) c.in_ok-push.ensures.items refl w
