-- One literal more is looked at.
use Rattle.std.proofs.Common.{subst, sym}
use Rattle.std.specs.Prelude.{All}
use Rattle.std.proofs.lemmas.List.{take_all}
use Rattle.std.proofs.lemmas.List.Elements.{All-more}
use Rattle.nz_engine.specs.Preparing.{IsListedIn}
use Rattle.nz_engine.proofs.prepared.listed.has_listed_bounds.Goals as goal

pub loop-literal-preserved : goal.loop-literal-preserved
loop-literal-preserved c =
    let items = c.clause-literal-items.result.now in (
      c.loop-literal.invariant.0,
      All-more (IsListedIn c.args.log.now c.args.form.now.bounds) items c.loop-literal.literal-index c.literal-item.result c.loop-literal-test.true c.loop-literal.invariant.1
          (subst (IsListedIn c.args.log.now c.args.form.now.bounds) c.literal-item.is (c.is_listed.ensures.listed c.if-not-is_listed.false)),
    )

pub returns-then-not-is_listed-clause-unlisted : goal.returns-then-not-is_listed-clause-unlisted
returns-then-not-is_listed-clause-unlisted c = λ same each.
    let P = IsListedIn c.args.log.now c.args.form.now.bounds in
    let items = c.clause-literal-items.result.now in
    let all : All P items = subst (All P) (sym c.loop-literal.invariant.0) each in
    c.is_listed.ensures.unlisted c.if-not-is_listed.true (subst P (sym c.literal-item.is) (all c.loop-literal.literal-index c.literal-item.result c.loop-literal-test.true))

pub returns-clause-listed : goal.returns-clause-listed
returns-clause-listed c = λ same.
    let items = c.clause-literal-items.result.now in
    subst (All (IsListedIn c.args.log.now c.args.form.now.bounds)) c.loop-literal.invariant.0
    (subst (All (IsListedIn c.args.log.now c.args.form.now.bounds)) (take_all c.loop-literal.literal-index items c.loop-literal-test.false) c.loop-literal.invariant.1)
