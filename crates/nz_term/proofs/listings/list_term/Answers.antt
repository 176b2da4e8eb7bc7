-- A term is listed behind its companion, or alone.
use Rattle.std.proofs.Common.{◌++◌, [], ◌∷◌, subst}
use Rattle.std.proofs.lemmas.Result.{on_ok_weaker}
use Rattle.nz_spec.specs.terms.Order.{companions_of}
use Rattle.nz_spec.specs.terms.Table.{term_in}
use Rattle.nz_term.specs.Listings.{AreCompanions, IsListing}
use Rattle.nz_term.proofs.ListedTerms.{listed_alone, listed_both}
use Rattle.nz_term.proofs.listings.list_term.Goals as goal

pub returns-in_ok-list-in-Some-clause-listed : goal.returns-in_ok-list-in-Some-clause-listed
returns-in_ok-list-in-Some-clause-listed c =
    let ns = c.args.terms.now in
    let term = term_in ns c.args.id in
    let companion = term_in ns c.in-Some.companion in
    let is = subst (AreCompanions ns term) c.in-Some.is c.in_ok-companion.ensures.companion in
    on_ok_weaker c.list-in-Some.result
    (λ last all one w.
    subst (λ l. IsListing ns l c.list-in-Some.new.self) (listed_both all (companions_of term) companion term is.1)
    (last ns (all ++ companion ∷ []) one (c.in_ok-list-in-Some.ensures.listed ns all one w)))
    c.list-in-Some.ensures.listed

pub returns-in-None-clause-listed : goal.returns-in-None-clause-listed
returns-in-None-clause-listed c =
    let ns = c.args.terms.now in
    let term = term_in ns c.args.id in
    let none = subst (AreCompanions ns term) c.in-None.is c.in_ok-companion.ensures.companion in
    on_ok_weaker c.list-in-None.result
    (λ last all one w. subst (λ l. IsListing ns l c.list-in-None.new.self) (listed_alone all (companions_of term) term none) (last ns all one w))
    c.list-in-None.ensures.listed
