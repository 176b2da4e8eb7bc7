use Rattle.std.proofs.Common.{◌∙◌, map, refl, sym, ap}
use Rattle.nz_command.specs.Requests.{assumption_view}
use Rattle.nz_sort.specs.Live.{Standing}
use Rattle.nz_sort.proofs.FoundLiterals.{comes_under, comes_of_integers, comes_of_unknown, comes_of_sort}
use Rattle.nz_sort.proofs.LiveStates.{companions_made, cut_back, kept_where_grown, live_scope}
use Rattle.nz_sort.proofs.live.Live.check_under.Goals as goal

pub assumed-requires : goal.assumed-requires
assumed-requires c =
    let names = ap (λ (st : Standing). st.names) c.self.view_is in
    record { scope = (c.requires.live.0, live_scope _ c.args.self.now _ _ names c.requires.live.1) }

pub returns-then-holds_integer_with : goal.returns-then-holds_integer_with
returns-then-holds_integer_with c =
    let names = ap (λ (st : Standing). st.names) c.self.view_is in
    let old = c.args.terms.now in
    let mid = c.assumed.new.terms in
    record {
      comes = comes_of_integers old c.cut.new.self c.args.self.now (map assumption_view c.args.assumptions.now) mid c.in_ok-found.found _ refl
          (cut_back old mid c.cut.new.self c.mark-mark.result c.mark-mark.ensures.mark c.cut.ensures.front (kept_where_grown old mid c.in_ok-found.ensures.grows))
          (λ s live. c.in_ok-found.ensures.found s (live_scope old c.args.self.now s _ names live)) (sym c.holds_integer_with.ensures.holds ∙ c.if-holds_integer_with.true);
    }

pub returns-then-found : goal.returns-then-found
returns-then-found c =
    let names = ap (λ (st : Standing). st.names) c.self.view_is in
    record {
      comes = comes_of_unknown c.args.terms.now c.assumed.new.terms c.args.self.now (map assumption_view c.args.assumptions.now) c.in_ok-found.found c.in_ok-found.ensures.grows
          (λ s live. c.in_ok-found.ensures.found s (live_scope c.args.terms.now c.args.self.now s _ names live)) (sym c.holds_integer_with.ensures.holds ∙ c.if-holds_integer_with.false) c.if-found.true;
    }

pub returns-then-found-2 : goal.returns-then-found-2
returns-then-found-2 c =
    let names = ap (λ (st : Standing). st.names) c.self.view_is in
    record {
      comes = comes_of_sort c.args.terms.now c.assumed.new.terms c.args.self.now (map assumption_view c.args.assumptions.now) c.in_ok-found.found c.in_ok-found.ensures.grows
          (λ s live. c.in_ok-found.ensures.found s (live_scope c.args.terms.now c.args.self.now s _ names live)) (sym c.holds_integer_with.ensures.holds ∙ c.if-holds_integer_with.false)
          c.if-found.false c.if-found-2.true;
    }

pub returns : goal.returns
returns c =
    let names = ap (λ (st : Standing). st.names) c.self.view_is in
    let old = c.args.terms.now in
    let mid = c.assumed.new.terms in
    let new = c.add_companions.new.terms in
    let first = c.in_ok-found.ensures.grows in
    let more = c.in_ok-add_companions.ensures.grows in
    record {
      comes = comes_under c.term_stays.ensures.stays old mid new c.args.self.now (map assumption_view c.args.assumptions.now) c.in_ok-found.found _ refl first more (c.grows_twice.ensures.twice _ _ _ first more)
          (companions_made old mid new c.mark-mark.result c.mark-mark.ensures.mark first c.requires.live.1.companions c.in_ok-add_companions.ensures.companions)
          (λ s live. c.in_ok-found.ensures.found s (live_scope old c.args.self.now s _ names live)) (sym c.holds_integer_with.ensures.holds ∙ c.if-holds_integer_with.false) c.if-found.false c.if-found-2.false;
    }
