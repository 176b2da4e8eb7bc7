use Rattle.std.proofs.Common.{◌≡◌, ◌≤◌, ◌-◌, suc, length, arith, subst, sym}
use Rattle.std.proofs.lemmas.List.{nil_from_length}
use Rattle.nz_engine.specs.Engines.{IsAtRest}
use Rattle.nz_engine.proofs.KeptState.{settled}
use Rattle.nz_engine.proofs.check.cut_to.Goals as goal

pub cut-requires : goal.cut-requires
cut-requires c =
    let r = c.requires.kept.2 in
    record { prepared = (c.requires.kept.0, c.requires.kept.1, _, r.standing.raised) }

pub returns-in-Some : goal.returns-in-Some
returns-in-Some c =
    let some : 1 ≤ c.len.result = c.in-Some.ensures.0 in
    let is : c.in-Some.last ≡ c.len.result - 1 = c.in-Some.ensures.1 in
    let count : c.len.result ≡ length c.args.levels.now = c.len.ensures.count in
    let end : suc c.in-Some.last ≡ length c.args.levels.now = omega (arith, some, is, count) in
    record {
      low = λ ns old front r.
          settled c.covers_stay.ensures.stay c.logs_stay_leveled.ensures.stay ns old c.args.levels.now c.args.prepared c.cut.new.self c.in-Some.last front end c.cut.ensures.cuts r;
      keeps = record { last = c.in-Some.last; is = end; cuts = c.cut.ensures.cuts };
      theory = c.cut.ensures.cuts.theory;
    }

pub returns-in-None : goal.returns-in-None
returns-in-None c =
    let few : 1 ≤ c.len.result → ⊥ = c.in-None.ensures in
    let count : c.len.result ≡ length c.args.levels.now = c.len.ensures.count in
    record {
      low = λ ns old front r. subst (IsAtRest ns) (sym c.take_theory.ensures.theory) r.rest;
      keeps = (nil_from_length c.args.levels.now (omega (arith, few, count)), c.take_theory.ensures.theory);
      theory = c.take_theory.ensures.theory;
    }
