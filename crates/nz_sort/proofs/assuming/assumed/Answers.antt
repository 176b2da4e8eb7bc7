use Rattle.std.proofs.Common.{List, map, take, sym, subst}
use Rattle.nz_command.specs.Requests.{assumption_view}
use Rattle.nz_script.specs.commands.Request.{Assumption}
use Rattle.nz_script.specs.commands.Script.{scope_of}
use Rattle.nz_sort.specs.Found.{HasFound}
use Rattle.nz_sort.proofs.FoundLiterals.{found_with}
use Rattle.nz_sort.proofs.Lists.{map_more}
use Rattle.nz_sort.proofs.LiveNames.{scope_stays}
use Rattle.nz_sort.proofs.assuming.assumed.Goals as goal

pub assumed_term-requires : goal.assumed_term-requires
assumed_term-requires c =
    let g = c.loop-assumption.invariant.grows in
    record { scope = (c.requires.scope.0, scope_stays c.term_stays.ensures.stays c.args.terms.now c.loop-assumption.terms g.more c.args.names.now (scope_of c.requires.scope.0) g.all c.requires.scope.1) }

pub loop-assumption-preserved : goal.loop-assumption-preserved
loop-assumption-preserved c =
    let old = c.args.terms.now in
    let mid = c.loop-assumption.terms in
    let new = c.assumed_term.new.terms in
    let g = c.loop-assumption.invariant.grows in
    let xs = c.args.assumptions.now in
    let i = c.loop-assumption.assumption-index in
    let x = c.assumption-item.result in
    record {
      grows = c.grows_twice.ensures.twice _ _ _ g c.in_ok-one.ensures.grows;
      found = λ s scope.
          let later = scope_stays c.term_stays.ensures.stays old mid g.more c.args.names.now (scope_of s) g.all scope in
          subst (λ (ys : List Assumption). HasFound s ys new c.add.new.self) (sym (map_more assumption_view xs i x c.loop-assumption-test.true c.assumption-item.is))
          (found_with c.term_stays.ensures.stays s mid new (map assumption_view (take i xs)) (assumption_view x) c.loop-assumption.found c.add.new.self c.in_ok-one.one c.in_ok-one.ensures.grows
          (c.loop-assumption.invariant.found s scope) (c.in_ok-one.ensures.found s later) c.in_ok-add.ensures.added);
    }
