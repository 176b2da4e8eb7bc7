-- One clause more is looked at, and perhaps taken out.
use Rattle.std.proofs.Common.{◌≡◌, ◌∙◌, ◌-◌, ◌<◌, suc, List, length, refl, subst, sym, arith}
use Rattle.std.specs.Prelude.{All}
use Rattle.nz_log.specs.declared.lits.Lit.{Lit}
use Rattle.nz_log.specs.Logs.{IsLive, literals_at}
use Rattle.nz_sat.specs.declared.clauses.Held.{Held}
use Rattle.nz_engine.proofs.UnlistedClauses.{IsForgotten, all_forgotten, left_all, none_forgotten, one_forgotten, one_listed}
use Rattle.nz_engine.proofs.prepared.listed.forget_unlisted.Goals as goal

pub loop-place-init : goal.loop-place-init
loop-place-init c =
    record {
      forgotten = subst (λ (hs : List Held). IsForgotten c.args.log.now c.args.form.now.bounds c.args.sat.now.clauses c.args.sat.now.clauses (length hs)) (sym c.clauses-place.ensures.clauses)
          (none_forgotten c.args.log.now c.args.form.now.bounds c.args.sat.now.clauses);
      theory = refl;
      seen = refl;
    }

pub unlisted_at-requires-clause-live : goal.unlisted_at-requires-clause-live
unlisted_at-requires-clause-live c = left_all (λ (h : Held). IsLive c.args.log.now h.id) c.args.sat.now.clauses c.loop-place.sat.clauses c.loop-place.invariant.forgotten.only c.requires.live

pub unlisted_at-requires-clause-there : goal.unlisted_at-requires-clause-there
unlisted_at-requires-clause-there c =
    left_all (λ (h : Held). All (λ (l : Lit). l.atom < length c.args.log.now.atoms) (literals_at c.args.log.now h.id)) c.args.sat.now.clauses c.loop-place.sat.clauses
    c.loop-place.invariant.forgotten.only c.requires.there

pub loop-place-preserved-in-Some : goal.loop-place-preserved-in-Some
loop-place-preserved-in-Some c =
    let log = c.args.log.now in
    let bounds = c.args.form.now.bounds in
    let old = c.args.sat.now.clauses in
    let now = c.loop-place.sat.clauses in
    let some = c.loop-place-test.true in
    let next : c.loop-place.place ≡ suc (c.loop-place.place - 1) = omega (arith, some) in
    let f = subst (IsForgotten log bounds old now) next c.loop-place.invariant.forgotten in
    record {
      forgotten = subst (λ (hs : List Held). IsForgotten log bounds old hs (c.loop-place.place - 1)) (sym c.forget.ensures.clauses)
          (one_forgotten log bounds old now (c.loop-place.place - 1) c.in-Some.id c.in-Some.ensures.at c.in-Some.ensures.unlisted f);
      theory = c.forget.ensures.theory ∙ c.loop-place.invariant.theory;
      seen = c.forget.ensures.seen ∙ c.loop-place.invariant.seen;
    }

pub loop-place-preserved : goal.loop-place-preserved
loop-place-preserved c =
    let log = c.args.log.now in
    let bounds = c.args.form.now.bounds in
    let old = c.args.sat.now.clauses in
    let now = c.loop-place.sat.clauses in
    let some = c.loop-place-test.true in
    let next : c.loop-place.place ≡ suc (c.loop-place.place - 1) = omega (arith, some) in
    let f = subst (IsForgotten log bounds old now) next c.loop-place.invariant.forgotten in
    record {
      forgotten = one_listed log bounds old now (c.loop-place.place - 1) (c.unlisted_at.ensures.listed c.in_default.is) f;
      theory = c.loop-place.invariant.theory;
      seen = c.loop-place.invariant.seen;
    }

pub returns-clause-forgets : goal.returns-clause-forgets
returns-clause-forgets c = λ before.
    let done = c.loop-place-test.false in
    let none : c.loop-place.place ≡ 0 = omega (arith, done) in
    let f = subst (IsForgotten c.args.log.now c.args.form.now.bounds c.args.sat.now.clauses c.loop-place.sat.clauses) none c.loop-place.invariant.forgotten in
    all_forgotten c.args.log.now c.args.form.now.bounds before c.args.sat.now.clauses c.loop-place.sat.clauses f
