use Rattle.std.proofs.Common.{◌≡◌, ℕ, suc, ◌-◌, ◌<◌, length, drop, get_or, subst, arith}
use Rattle.std.proofs.lemmas.List.Elements.{All-get_or}
use Rattle.nz_spec.specs.terms.Normal.{implication_of}
use Rattle.nz_spec.specs.terms.Table.{term_in, terms_at}
use Rattle.nz_elaborate.specs.Typed.{StandsFor}
use Rattle.nz_elaborate.proofs.NormalTerms.{implication_next}
use Rattle.nz_elaborate.proofs.normal.implication.Goals as goal

pub loop-i-preserved : goal.loop-i-preserved
loop-i-preserved c =
    let old = c.args.terms.now in
    let kids = c.args.kids.now in
    let i : ℕ = c.loop-i.i - 1 in
    let next : c.loop-i.i ≡ suc i = omega arith in
    let below : suc i < length kids = omega arith in
    let within : get_or kids i 0 < length old = All-get_or (λ k. k < length old) kids i 0 (omega arith) c.requires.within in
    let first = c.in_ok-denied.ensures in
    let second = c.in_ok-conclusion.ensures in
    let then : StandsFor c.loop-i.terms c.loop-i.conclusion (implication_of (terms_at (term_in old) (drop (suc i) kids))) =
    subst (λ n. StandsFor c.loop-i.terms c.loop-i.conclusion (implication_of (terms_at (term_in old) (drop n kids)))) next c.loop-i.invariant.made in
    record {
      grown = c.grows_twice.ensures.twice _ _ _ (c.grows_twice.ensures.twice _ _ _ c.loop-i.invariant.grown first.grows) second.grows;
      made = implication_next old c.loop-i.terms c.make-in-loop-i.new.terms c.make-in-loop-i-2.new.terms kids i c.in_ok-denied.denied c.loop-i.conclusion c.in_ok-conclusion.conclusion
          c.loop-i.invariant.grown first.grows below within first.made then second.made;
    }
