use Rattle.std.proofs.Common.{◌≡◌, ◌++◌, ◌+◌, sym, ap, subst, arith, is_some, false, take, append-nil, length, length-drop, length-take, drop, ◌-◌, ◌∙◌}
use Rattle.nz_sexpr.specs.Matches.{told}
use Rattle.nz_sexpr.specs.Fits.{Fits}
use Rattle.nz_sexpr.proofs.FedBytes.{goes_on, goes_on_by, ends_later, told_none, is_none_at}
use Rattle.nz_sexpr.proofs.reader.Reader.feed.Goals as goal

pub returns-then-is_some-clause-heard : goal.returns-then-is_some-clause-heard
returns-then-is_some-clause-heard c limits bytes things fits few =
    goes_on limits _ _ bytes c.args.piece.now things (told c.step-count.result.1) c.loop-used.used c.step-count.result.0 c.loop-used.invariant.used few (c.loop-used.invariant.heard limits bytes things fits few) c.step-count.ensures.heard

pub loop-used-preserved : goal.loop-used-preserved
loop-used-preserved c =
    let none : is_some c.step-count.result.1 ≡ false = sym c.is_some.ensures ∙ c.if-is_some.false in
    record {
      used = omega (arith, c.step-count.ensures.used, length-take (length c.args.piece.now - c.loop-used.used) (drop c.loop-used.used c.args.piece.now), length-drop c.loop-used.used c.args.piece.now);
      settled = c.step-count.ensures.none (is_none_at c.step-count.result.1 none);
      counted = goes_on_by _ _ _ _ _ c.loop-used.invariant.counted c.step-count.ensures.counted;
      heard = λ limits bytes things fits few.
          let on = goes_on limits _ _ bytes c.args.piece.now things (told c.step-count.result.1) c.loop-used.used c.step-count.result.0 c.loop-used.invariant.used few (c.loop-used.invariant.heard limits bytes things fits few) c.step-count.ensures.heard in
          subst (Fits limits _ (bytes ++ take (c.loop-used.used + c.step-count.result.0) c.args.piece.now)) (ap (λ k. things ++ k) (told_none c.step-count.result.1 none) ∙ append-nil things) on;
    }

pub returns-then-is_some-clause-places : goal.returns-then-is_some-clause-places
returns-then-is_some-clause-places c none =
    ends_later c.step-count.result.1 _ _ _ c.loop-used.invariant.counted.0 c.step-count.ensures.places
