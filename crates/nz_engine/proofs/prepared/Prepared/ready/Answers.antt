-- Where the atoms are named, a search may begin.
use Rattle.std.proofs.Common.{◌≡◌, ◌++◌, ℕ, List, take, ap}
use Rattle.nz_engine.specs.Checking.{AreHanded, IsReady}
use Rattle.nz_engine.specs.Preparing.{PreparedState}
use Rattle.nz_engine.proofs.KeptClauses.{keeps_named}
use Rattle.nz_engine.proofs.SearchAtoms.{both_ok, ready_named}
use Rattle.nz_engine.proofs.prepared.Prepared.ready.Goals as goal

pub named-requires-clause-covers : goal.named-requires-clause-covers
named-requires-clause-covers c = c.requires.posed.1.standing.raised.covers

pub returns : goal.returns
returns c =
    let ns = c.args.terms.now in
    let assumed = c.args.assumed.now in
    let old = c.args.self.now in
    let new = c.named.new.self in
    record {
      ready = both_ok c.named.result (λ ls. AreHanded ns new assumed new.noted ls.items) ((joined : List ℕ) × (new.noted ≡ take c.args.first old.noted ++ joined)) (λ ls. IsReady ns assumed c.args.first old new new.noted ls.items)
          (λ ls handed behind.
          ready_named c.search_laws.ensures.laws c.logs_stay.ensures.stay c.logs_stay_leveled.ensures.stay c.args.first old c.named.ensures.rest c.named.ensures.joins c.named.ensures.all behind handed c.requires.posed)
          c.named.ensures.handed c.named.ensures.behind;
      keeps = keeps_named c.named.ensures.joins c.named.ensures.rest;
      theory = ap (λ (s : PreparedState). s.sat.theory) c.named.ensures.rest;
    }
