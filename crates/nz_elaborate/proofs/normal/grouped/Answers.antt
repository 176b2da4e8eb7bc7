use Rattle.std.proofs.Common.{◌<◌, length, get_or, ◌∙◌, arith}
use Rattle.std.proofs.lemmas.List.Elements.{All-get_or}
use Rattle.nz_term.specs.Heads.{operator_of}
use Rattle.nz_elaborate.proofs.NormalTerms.{grouped_next}
use Rattle.nz_elaborate.proofs.normal.grouped.Goals as goal

pub loop-i-preserved : goal.loop-i-preserved
loop-i-preserved c =
    let old = c.args.terms.now in
    let kids = c.args.kids.now in
    let i = c.loop-i.i in
    let here = c.in_ok-left.ensures in
    let within : get_or kids i 0 < length old = All-get_or (λ k. k < length old) kids i 0 (omega arith) c.requires.within in
    record {
      grown = c.grows_twice.ensures.twice _ _ _ c.loop-i.invariant.grown here.grows;
      within = here.made.within;
      made = grouped_next (operator_of c.args.operator) old c.loop-i.terms c.make-in-loop-i.new.terms kids i c.loop-i.left c.in_ok-left.left c.loop-i.invariant.grown (omega arith) within here.made
          ∙ c.loop-i.invariant.made;
    }
